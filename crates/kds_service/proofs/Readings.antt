-- A service and each journal that it shows agree on live streams, their names and their open shards.
use Rattle.std.proofs.Common.{◌≡◌, ◌≢◌, ℕ, zero, suc, ◌+◌, ◌<◌, ◌≤◌, Bool, true, false, ◌==◌, cond, List, [], ◌∷◌}
use Rattle.std.proofs.Common.{length, map, slice_get, Option, Some}
use Rattle.std.proofs.Common.{None, refl, sym, ap, subst, ◌∙◌, arith}
use Rattle.std.specs.Prelude.{if◌then◌else◌, is_some, nat_le, not}
use Rattle.std.specs.Cmp.Lexicographic.{bytes_decides, nat_list_eq_equiv}
use Rattle.std.specs.List.{find, filter, position_from}
use Rattle.std.proofs.lemmas.Bool.{eqb-false, eqb-true, or_from}
use Rattle.std.proofs.lemmas.List.{length-map}
use Rattle.std.proofs.lemmas.Option.{none-some, same_Some}
use Rattle.kds_base.proofs.Facts.{above_so, apart, chosen, is_itself, is_other, le_so}
use Rattle.kds_base.proofs.WideLemmas.{by_test}
use Rattle.kds_defs.specs.Journal.{Journal}
use Rattle.kds_defs.specs.Shards.{is_open, open_count, open_in}
use Rattle.kds_defs.specs.Streams.{is_live, live_streams, name_of, numbers_from, same_name, stream_named}
use Rattle.kds_defs.specs.Subjects.{IsFresh}
use Rattle.kds_stream.specs.Showing.{Shows}
use Rattle.kds_stream.specs.Value.{StreamValue}
use Rattle.kds_service.proofs.Lists.{AreUpTo, above, not_below, rising_from}
use Rattle.kds_defs.specs.ScaleCommands.{open_elsewhere}
use Rattle.kds_service.specs.Indexes.{open_beside, open_total, open_unless, index_by_name}
use Rattle.kds_service.specs.Shown.{AreShown, IsRising, ServiceValue, ShowsAll, is_among, names_of, numbers_of}

not_chosen : {A : Type 0} (b : Bool) (x y : A) → b ≡ false → (if b then x else y) ≡ y
not_chosen true x y h = absurd cc
not_chosen false x y h = refl

-- ---- The live streams

pub up_to : (n : ℕ) (vs : List StreamValue) (log : Journal) → AreShown log vs → ((s : ℕ) → n < s → IsFresh log s)
    → AreUpTo n vs
up_to n [] log shown unmade = tt
up_to n (v ∷ vs) log shown unmade =
    let low =
    by_test (nat_le v.no n) (λ e. le_so v.no n e)
    (λ e. absurd (apart (is_live log v.no) shown.0.stored.live (unmade v.no (above_so v.no n e)).gone)) in
    (low, up_to n vs log shown.1 unmade)

none_live : (log : Journal) (low count : ℕ) → ((s : ℕ) → low < s → is_live log s ≡ false)
    → filter (is_live log) (numbers_from (low + 1) count) ≡ []
none_live log low zero dead = refl
none_live log low (suc count) dead =
    ap (λ b. cond b ((low + 1) ∷ filter (is_live log) (numbers_from (low + 1 + 1) count))
    (filter (is_live log) (numbers_from (low + 1 + 1) count)))
    (dead (low + 1) (omega arith))
    ∙ none_live log (low + 1) count (λ s above. dead s (omega arith))

live_above : (log : Journal) (low count : ℕ) (vs : List StreamValue) → IsRising low (numbers_of vs)
    → AreUpTo (low + count) vs → AreShown log vs
    → ((s : ℕ) → low < s → is_among (numbers_of vs) s ≡ false → is_live log s ≡ false)
    → filter (is_live log) (numbers_from (low + 1) count) ≡ numbers_of vs
live_above log low count [] rising below shown others = none_live log low count (λ s above. others s above refl)
live_above log low zero (v ∷ vs) rising below shown others = absurd (omega (arith, rising.0, below.0))
live_above log low (suc count) (v ∷ vs) rising below shown others =
    let rest = filter (is_live log) (numbers_from (low + 1 + 1) count) in
    by_test (v.no == low + 1)
    (λ e.
    let same = eqb-true v.no (low + 1) e in
    let live : is_live log (low + 1) ≡ true = ap (is_live log) (sym same) ∙ shown.0.stored.live in
    let after =
    live_above log (low + 1) count vs (subst (λ n. IsRising n (numbers_of vs)) same rising.1)
    (subst (λ n. AreUpTo n vs) (end low count) below.1) shown.1
    (λ s above out. others s (omega arith) (or_from (v.no == s) (is_among (numbers_of vs) s)
    (is_other v.no s (λ is. absurd (omega (arith, above)))) out)) in
    ap (λ b. cond b ((low + 1) ∷ rest) rest) live ∙ ap (λ ns. (low + 1) ∷ ns) after
    ∙ ap (λ n. n ∷ numbers_of vs) (sym same))
    (λ e.
    let past = later v.no low e rising.0 in
    let dead : is_live log (low + 1) ≡ false =
    others (low + 1) (omega arith) (not_below (low + 1) (low + 1) (numbers_of (v ∷ vs)) (omega arith) (
      past,
      rising.1,
    )) in
    let after =
    live_above log (low + 1) count (v ∷ vs) (past, rising.1) (subst (λ n. AreUpTo n (v ∷ vs)) (end low count) below)
    shown
    (λ s above out. others s (omega arith) out) in
    ap (λ b. cond b ((low + 1) ∷ rest) rest) dead ∙ after)
  where
    end : (low count : ℕ) → low + suc count ≡ low + 1 + count
    end low count = omega arith

    later : (n low : ℕ) → (n == low + 1) ≡ false → low < n → low + 1 < n
    later n low e above = let differ : n ≢ low + 1 = eqb-false n (low + 1) e in omega (arith, above)

pub from_zero : (n : ℕ) → n ≡ 0 + n
from_zero n = omega arith

-- The live streams of the journal are the service's, in the same order.
pub live_are : (w : ServiceValue) (log : Journal) → ShowsAll w log → live_streams log ≡ numbers_of w.streams
live_are w log all =
    ap (λ n. filter (is_live log) (numbers_from 1 n)) all.made
    ∙ live_above log 0 w.made_count w.streams all.rising
    (subst (λ n. AreUpTo n w.streams) (from_zero w.made_count) (up_to w.made_count w.streams log all.shown all.unmade))
    all.shown
    (λ s above out. all.others s out)

pub live_count : (w : ServiceValue) (log : Journal) → ShowsAll w log → length (live_streams log) ≡ length w.streams
live_count w log all = ap length (live_are w log all) ∙ length-map w.streams (λ v. v.no)

-- ---- How many shards are open

opens : (log : Journal) (vs : List StreamValue) → AreShown log vs → open_in log (numbers_of vs) ≡ open_total vs
opens log [] shown = refl
opens log (v ∷ vs) shown =
    omega (arith, ap (λ xs. length (filter is_open xs)) shown.0.stored.shards_are, opens log vs shown.1)

pub open_are : (w : ServiceValue) (log : Journal) → ShowsAll w log → open_count log ≡ open_total w.streams
open_are w log all = ap (open_in log) (live_are w log all) ∙ opens log w.streams all.shown

-- ---- The stream with a name

pub hit : {X : Type 0} (p : X → Bool) (n : ℕ) (x : X) (xs : List X) → p x ≡ true → position_from p n (x ∷ xs) ≡ Some n
hit p n x xs e = ap (λ b. cond b (Some n) (position_from p (n + 1) xs)) e

pub missed : {X : Type 0} (p : X → Bool) (n : ℕ) (x : X) (xs : List X) → p x ≡ false
    → position_from p n (x ∷ xs) ≡ position_from p (n + 1) xs
missed p n x xs e = ap (λ b. cond b (Some n) (position_from p (n + 1) xs)) e

from_on : {X : Type 0} (p : X → Bool) (n j : ℕ) (xs : List X) → position_from p n xs ≡ Some j → n ≤ j
from_on p n j [] is = absurd (none-some j is)
from_on p n j (x ∷ xs) is =
    by_test (p x) (λ e. let same : n ≡ j = same_Some n j (sym (hit p n x xs e) ∙ is) in omega arith)
    (λ e. let rest = from_on p (n + 1) j xs (sym (missed p n x xs e) ∙ is) in omega arith)

pub first_passes : {X : Type 0} (p : X → Bool) (n : ℕ) (x : X) (xs : List X) → position_from p n (x ∷ xs) ≡ Some (n + 0)
    → p x ≡ true
first_passes p n x xs is =
    by_test (p x) (λ e. e) (λ e. absurd (short n (from_on p (n + 1) (n + 0) xs (sym (missed p n x xs e) ∙ is))))
  where
    short : (n : ℕ) → n + 1 ≤ n + 0 → ⊥
    short n h = absurd (omega arith)

pub later_fails : {X : Type 0} (p : X → Bool) (n i : ℕ) (x : X) (xs : List X)
    → position_from p n (x ∷ xs) ≡ Some (n + suc i)
    → (p x ≡ false) × (position_from p (n + 1) xs ≡ Some (n + 1 + i))
later_fails p n i x xs is =
    let one : n + suc i ≡ n + 1 + i = omega arith in
    by_test (p x) (λ e. absurd (past n i (same_Some n (n + suc i) (sym (hit p n x xs e) ∙ is))))
    (λ e. (e, sym (missed p n x xs e) ∙ is ∙ ap Some one))
  where
    past : (n i : ℕ) → n ≡ n + suc i → ⊥
    past n i h = absurd (omega arith)

pub found_passes : {X Y : Type 0} (f : X → Y) (p : Y → Bool) (n i : ℕ) (xs : List X) (x : X)
    → position_from p n (map f xs) ≡ Some (n + i)
    → slice_get xs i ≡ Some x → p (f x) ≡ true
found_passes f p n i [] x is here = absurd (none-some x here)
found_passes f p n zero (y ∷ ys) x is here =
    ap (λ z. p (f z)) (sym (same_Some y x here)) ∙ first_passes p n (f y) (map f ys) is
found_passes f p n (suc i) (y ∷ ys) x is here =
    found_passes f p (n + 1) i ys x (later_fails p n i (f y) (map f ys) is).1 here

pub none_passes : {X : Type 0} (p : X → Bool) (n : ℕ) (x : X) (xs : List X) → position_from p n (x ∷ xs) ≡ None
    → (p x ≡ false) × (position_from p (n + 1) xs ≡ None)
none_passes p n x xs none =
    by_test (p x) (λ e. absurd (none-some n (sym none ∙ hit p n x xs e))) (λ e. (e, sym (missed p n x xs e) ∙ none))

same_names : (log : Journal) (v : StreamValue) (name : List ℕ) → Shows v log
    → same_name (name_of log v.no) name ≡ same_name name v.name
same_names log v name shown = ap (λ n. same_name n name) shown.stored.named ∙ nat_list_eq_equiv.symm v.name name

module _ (log : Journal) (name : List ℕ) where
  here_or_rest : (v : StreamValue) (vs : List StreamValue) (b : Bool) → Shows v log → same_name name v.name ≡ b
      → find (λ s. same_name (name_of log s) name) (numbers_of (v ∷ vs))
      ≡ cond b (Some v.no) (find (λ s. same_name (name_of log s) name) (numbers_of vs))
  here_or_rest v vs b shown e =
      ap (λ b. cond b (Some v.no) (find (λ s. same_name (name_of log s) name) (numbers_of vs)))
      (same_names log v name shown ∙ e)

  named_from : (n i : ℕ) (vs : List StreamValue) (x : StreamValue) → AreShown log vs
      → position_from (same_name name) n (names_of vs) ≡ Some (n + i)
      → slice_get vs i ≡ Some x → find (λ s. same_name (name_of log s) name) (numbers_of vs) ≡ Some x.no
  named_from n i [] x shown is here = absurd (none-some x here)
  named_from n zero (v ∷ vs) x shown is here =
      here_or_rest v vs true shown.0 (first_passes (same_name name) n v.name (names_of vs) is)
      ∙ ap (λ (u : StreamValue). Some u.no) (same_Some v x here)
  named_from n (suc i) (v ∷ vs) x shown is here =
      let rest = later_fails (same_name name) n i v.name (names_of vs) is in
      here_or_rest v vs false shown.0 rest.0 ∙ named_from (n + 1) i vs x shown.1 rest.1 here

  none_named_from : (n : ℕ) (vs : List StreamValue) → AreShown log vs → position_from (same_name name) n (names_of vs)
      ≡ None
      → find (λ s. same_name (name_of log s) name) (numbers_of vs) ≡ None
  none_named_from n [] shown none = refl
  none_named_from n (v ∷ vs) shown none =
      let rest = none_passes (same_name name) n v.name (names_of vs) none in
      here_or_rest v vs false shown.0 rest.0 ∙ none_named_from (n + 1) vs shown.1 rest.1

-- The stream that the service finds by a name is the live stream of this name.
pub named_at : (w : ServiceValue) (log : Journal) (name : List ℕ) (i : ℕ) (x : StreamValue) → ShowsAll w log
    → index_by_name w.streams name ≡ Some i
    → slice_get w.streams i ≡ Some x → stream_named log name ≡ Some x.no
named_at w log name i x all is here =
    ap (find (λ s. same_name (name_of log s) name)) (live_are w log all)
    ∙ named_from log name 0 i w.streams x all.shown (is ∙ ap Some (from_zero i)) here

-- A name that no stream of the service has is no live stream's name.
pub none_named : (w : ServiceValue) (log : Journal) (name : List ℕ) → ShowsAll w log
    → index_by_name w.streams name ≡ None
    → stream_named log name ≡ None
none_named w log name all none = ap (find (λ s. same_name (name_of log s) name)) (live_are w log all)
    ∙ none_named_from log name 0 w.streams all.shown none

at_index : (n i : ℕ) (vs : List StreamValue) (name : List ℕ) → position_from (same_name name) n (names_of vs)
    ≡ Some (n + i)
    → (x : StreamValue) × (slice_get vs i ≡ Some x)
at_index n i [] name is = absurd (none-some (n + i) is)
at_index n zero (v ∷ vs) name is = (v, refl)
at_index n (suc i) (v ∷ vs) name is =
    at_index (n + 1) i vs name (later_fails (same_name name) n i v.name (names_of vs) is).1

pub some_named : (w : ServiceValue) (log : Journal) (name : List ℕ) → ShowsAll w log
    → is_some (stream_named log name) ≡ is_some (index_by_name w.streams name)
some_named w log name all = cases (index_by_name w.streams name) refl
  where
    cases : (o : Option ℕ) → index_by_name w.streams name ≡ o
        → is_some (stream_named log name) ≡ is_some (index_by_name w.streams name)
    cases None e = ap is_some (none_named w log name all e) ∙ ap is_some (sym e)
    cases (Some i) e =
        let x = at_index 0 i w.streams name (e ∙ ap Some (from_zero i)) in
        ap is_some (named_at w log name i x.0 all e x.1) ∙ ap is_some (sym e)

-- ---- The stream with a number

pub number_at : (n i s : ℕ) (vs : List StreamValue) (x : StreamValue)
    → position_from (λ m. m == s) n (numbers_of vs) ≡ Some (n + i) → slice_get vs i ≡ Some x
    → s ≡ x.no
number_at n i s vs x is here = sym (eqb-true x.no s (found_passes (λ v. v.no) (λ m. m == s) n i vs x is here))

pub not_among : (n s : ℕ) (ns : List ℕ) → position_from (λ m. m == s) n ns ≡ None → is_among ns s ≡ false
not_among n s [] none = refl
not_among n s (m ∷ ns) none =
    let rest = none_passes (λ k. k == s) n m ns none in
    or_from (m == s) (is_among ns s) rest.0 (not_among (n + 1) s ns rest.1)

-- ---- How many shards the other streams have open

beside : (log : Journal) (s : ℕ) (vs : List StreamValue) → AreShown log vs
    → open_in log (filter (λ t. not (t == s)) (numbers_of vs)) ≡ open_beside vs s
beside log s [] shown = refl
beside log s (v ∷ vs) shown = cases (v.no == s) (beside log s vs shown.1)
  where
    cases : (b : Bool) → open_in log (filter (λ t. not (t == s)) (numbers_of vs)) ≡ open_beside vs s
        → open_in log (cond (not b) (v.no ∷ filter (λ t. not (t == s)) (numbers_of vs))
        (filter (λ t. not (t == s)) (numbers_of vs)))
        ≡ (if b then 0 else length (filter is_open v.tree)) + open_beside vs s
    cases true rest = omega arith
    cases false rest = omega (arith, ap (λ xs. length (filter is_open xs)) shown.0.stored.shards_are, rest)

pub beside_is : (w : ServiceValue) (log : Journal) (s : ℕ) → ShowsAll w log
    → open_elsewhere log s ≡ open_beside w.streams s
beside_is w log s all = ap (λ ns. open_in log (filter (λ t. not (t == s)) ns)) (live_are w log all)
    ∙ beside log s w.streams all.shown

all_beside : (s : ℕ) (vs : List StreamValue) → IsRising s (numbers_of vs) → open_beside vs s ≡ open_total vs
all_beside s [] rising = refl
all_beside s (v ∷ vs) rising =
    let own : open_unless v s ≡ length (filter is_open v.tree) =
    not_chosen (v.no == s) 0 _ (is_other v.no s (λ e. absurd (omega (arith, rising.0, e)))) in
    omega (arith, own, all_beside s vs (rising_from s v.no (numbers_of vs) (omega (arith, rising.0)) rising.1))

pub own_and_beside : (i low : ℕ) (vs : List StreamValue) (x : StreamValue) → IsRising low (numbers_of vs)
    → slice_get vs i ≡ Some x
    → open_total vs ≡ open_beside vs x.no + length (filter is_open x.tree)
own_and_beside i low [] x rising here = absurd (none-some x here)
own_and_beside zero low (v ∷ vs) x rising here =
    subst (λ (u : StreamValue). open_total (v ∷ vs) ≡ open_beside (v ∷ vs) u.no + length (filter is_open u.tree))
    (same_Some v x here) own
  where
    own : open_total (v ∷ vs) ≡ open_beside (v ∷ vs) v.no + length (filter is_open v.tree)
    own =
        let none : open_unless v v.no ≡ 0 = chosen (v.no == v.no) 0 _ (is_itself v.no) in
        omega (arith, none, all_beside v.no vs rising.1)
own_and_beside (suc i) low (v ∷ vs) x rising here =
    let below = above v.no i vs x rising.1 here in
    let all : open_unless v x.no ≡ length (filter is_open v.tree) =
    not_chosen (v.no == x.no) 0 _ (is_other v.no x.no (λ e. absurd (omega arith))) in
    omega (arith, all, own_and_beside i v.no vs x rising.1 here)

-- ---- The stream found by a name has this name

pub has_name : (name : List ℕ) (i : ℕ) (vs : List StreamValue) (x : StreamValue) → index_by_name vs name ≡ Some i
    → slice_get vs i ≡ Some x → name ≡ x.name
has_name name i vs x is here =
    (bytes_decides name x.name).0
    (found_passes (λ v. v.name) (same_name name) 0 i vs x (is ∙ ap Some (from_zero i)) here)
