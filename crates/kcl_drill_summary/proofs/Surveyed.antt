-- A survey's keys of the drill's stream are its listed shards, so their entries make the summary's text.
use Rattle.std.proofs.Common.{◌≡◌, ℕ, zero, suc, ◌+◌, ◌<◌, ◌≤◌, Bool, true, false, List, [], ◌∷◌, ◌++◌, length, map}
use Rattle.std.proofs.Common.{Some, refl, sym, ap, subst, ◌∙◌, arith}
use Rattle.std.specs.Prelude.{◌==◌, ◌||◌, cond, not, slice_get, if◌then◌else◌, Result, Ok, Err, IfOk}
use Rattle.std.specs.List.{AllByRecursion, filter, find}
use Rattle.std.proofs.lemmas.Bool.Decides.{nat_tests}
use Rattle.std.proofs.lemmas.Bool.{cond_both}
use Rattle.kds_base.specs.declared.lease_key.ShardRef.{ShardRef}
use Rattle.kds_base.proofs.Facts.{equal_so, is_itself}
use Rattle.kds_defs.proofs.Rising.{lower}
use Rattle.kds_defs.specs.Journal.{Journal}
use Rattle.kds_defs.specs.Keys.{ref}
use Rattle.kds_defs.specs.Listings.{listed_in, refs_of}
use Rattle.kds_defs.specs.Records.{next_number, records}
use Rattle.kds_defs.specs.Scaling.{RiseFrom}
use Rattle.kds_defs.specs.Shards.{ShardState, is_closed_below, is_listed, is_listed_state, listed_among, listed_shards}
use Rattle.kds_defs.specs.Shards.{shard_at, shards}
use Rattle.kds_defs.specs.StreamCommands.{last_number}
use Rattle.kds_defs.specs.Streams.{is_live, live_streams, made_count, name_of, numbers_from, same_name, stream_named}
use Rattle.kds_defs.specs.Streams.{trim_floor}
use Rattle.kds_defs.specs.Tiled.{AreNumbered}
use Rattle.kcl_laws.specs.Recorded.{AreDrawn, IsSized}
use Rattle.kcl_drill.specs.Generated.{drill_name}
use Rattle.kcl_drill.specs.Summed.{Summed, bytes_of, sum_of, summary_of, summary_text, summed_at, text_of}
use Rattle.kcl_drill_summary.specs.Counting.{AreAbove, AreCountable, AreFew, CanCount, of_stream, summed_key}
use Rattle.kcl_drill_summary.proofs.Totals.{bytes_in, few_bytes_in, few_in, records_in}

-- ---- The number of a listed shard is its index

-- The shard `x` is at the index of its number, and wasn't closed before the trim floor.
abbrev Stands : Journal → ℕ → ℕ → ShardState → Type 0
Stands log c s x = (shard_at log s x.no ≡ Some x) × (not (is_closed_below (trim_floor log c s) x) ≡ true)

stand_at : (all xs : List ShardState) (n : ℕ) → AreNumbered n xs → ((i : ℕ) → slice_get xs i ≡ slice_get all (n + i))
    → AllByRecursion (λ (x : ShardState). slice_get all x.no ≡ Some x) xs
stand_at all [] n numbers is_at = tt
stand_at all (x ∷ xs) n numbers is_at =
    let here : n + 0 ≡ x.no = omega (arith, numbers.0) in (
      ap (slice_get all) (sym here) ∙ sym (is_at 0),
      stand_at all xs (n + 1) numbers.1 (λ i. let e : n + suc i ≡ n + 1 + i = omega arith in
          is_at (suc i) ∙ ap (slice_get all) e),
    )

all_stand : (xs : List ShardState) → AreNumbered 0 xs
    → AllByRecursion (λ (x : ShardState). slice_get xs x.no ≡ Some x) xs
all_stand xs numbers = stand_at xs xs 0 numbers (λ i. let e : i ≡ 0 + i = omega arith in ap (slice_get xs) e)

listed_stand : (log : Journal) (c s : ℕ) (xs : List ShardState)
    → AllByRecursion (λ (x : ShardState). shard_at log s x.no ≡ Some x) xs
    → AllByRecursion (Stands log c s) (listed_among (trim_floor log c s) xs)
listed_stand log c s [] are = tt
listed_stand log c s (x ∷ xs) are =
    let rest = listed_stand log c s xs are.1 in
    let ys = listed_among (trim_floor log c s) xs in
    cond_both (not (is_closed_below (trim_floor log c s) x)) (x ∷ ys) ys (AllByRecursion (Stands log c s))
    (λ is. ((are.0, is), rest)) (λ not. rest)

is_listed_at : (log : Journal) (c s : ℕ) (x : ShardState) → is_live log s ≡ true → Stands log c s x
    → is_listed log c s x.no ≡ true
is_listed_at log c s x live stands =
    ap (is_listed_state log c s) stands.0
    ∙ ap (λ b. not (not b || is_closed_below (trim_floor log c s) x)) live
    ∙ stands.1

-- ---- The facts about a history that counting relies on

-- Facts about the journal: shards are numbered from 0, record numbers rise up to the last, and sizes are bounded.
pub record Facts (log : Journal) : Type 0 where
  pub numbered : (s : ℕ) → AreNumbered 0 (shards log s)
  pub drawn : (s sh : ℕ) → AreDrawn log s sh
  pub fits : (s : ℕ) → next_number log s ≤ last_number
  pub sized : (s sh : ℕ) → AllByRecursion IsSized (records log s sh)

module _ (log : Journal) (facts : Facts log) (c s : ℕ)
    (whole : (sh : ℕ) → AreAbove (trim_floor log c s) (records log s sh)) where
  counts_at : (x : ShardState) → is_live log s ≡ true → Stands log c s x → CanCount log c s x.no
  counts_at x live stands = record {
    live = live;
    listed = is_listed_at log c s x live stands;
    above = whole x.no;
    drawn = facts.drawn s x.no;
    fits = facts.fits s;
    sized = facts.sized s x.no;
  }

  of_shards : (t : ℕ) (xs : List ShardState) (rest : List ShardRef) → is_live log t ≡ true
      → AllByRecursion (Stands log c t) xs → AreCountable log c s rest → AreCountable log c s (refs_of t xs ++ rest)
  of_shards t [] rest live are more = more
  of_shards t (x ∷ xs) rest live are more = (
    λ same.
        let e = equal_so t s same in
        counts_at x (ap (is_live log) (sym e) ∙ live) (subst (λ n. Stands log c n x) e are.0),
    of_shards t xs rest live are.1 more,
  )

  all_countable : (p : ℕ → Bool) (ns : List ℕ) → ((n : ℕ) → p n ≡ is_live log n)
      → AreCountable log c s (listed_in log c (filter p ns))
  all_countable p [] is = tt
  all_countable p (t ∷ ns) is = either (p t) refl (all_countable p ns is)
    where
      shards_of : (b : Bool) → is_live log t ≡ b → is_live log t ≡ true
          → AllByRecursion (Stands log c t) (if b then listed_among (trim_floor log c t) (shards log t) else [])
      shards_of true is' live = listed_stand log c t (shards log t) (all_stand (shards log t) (facts.numbered t))
      shards_of false is' live = tt

      either : (b : Bool) → p t ≡ b → AreCountable log c s (listed_in log c (filter p ns))
          → AreCountable log c s (listed_in log c (cond b (t ∷ filter p ns) (filter p ns)))
      either true live rest =
          let now = sym (is t) ∙ live in
          of_shards t (listed_shards log c t) (listed_in log c (filter p ns)) now (shards_of (is_live log t) refl now)
          rest
      either false dead rest = rest

-- ---- The keys of one stream

none_of : (s t : ℕ) (xs : List ShardState) (rest : List ShardRef) → (t == s) ≡ false
    → of_stream s (refs_of t xs ++ rest) ≡ of_stream s rest
none_of s t [] rest other = refl
none_of s t (x ∷ xs) rest other =
    ap (λ b. cond b (ref t x.no ∷ of_stream s (refs_of t xs ++ rest)) (of_stream s (refs_of t xs ++ rest))) other
    ∙ none_of s t xs rest other

all_of : (s : ℕ) (xs : List ShardState) (rest : List ShardRef) → of_stream s rest ≡ []
    → of_stream s (refs_of s xs ++ rest) ≡ refs_of s xs
all_of s [] rest none = none
all_of s (x ∷ xs) rest none =
    ap (λ b. cond b (ref s x.no ∷ of_stream s (refs_of s xs ++ rest)) (of_stream s (refs_of s xs ++ rest)))
    (is_itself s)
    ∙ ap (λ ks. ref s x.no ∷ ks) (all_of s xs rest none)

apart_below : (t s : ℕ) → s < t → (t == s) ≡ false
apart_below t s h = grind (arith, nat_tests)

above_none : (log : Journal) (c s : ℕ) (q : ℕ → Bool) (n count : ℕ) → s < n
    → of_stream s (listed_in log c (filter q (numbers_from n count))) ≡ []
above_none log c s q n zero below = refl
above_none log c s q n (suc count) below =
    let ns = filter q (numbers_from (n + 1) count) in
    let rest = above_none log c s q (n + 1) count (omega arith) in
    cond_both (q n) (n ∷ ns) ns (λ ms. of_stream s (listed_in log c ms) ≡ [])
    (λ is. none_of s n (listed_shards log c n) (listed_in log c ns) (apart_below n s below) ∙ rest) (λ not. rest)

found_above : (p q : ℕ → Bool) (n count s : ℕ) → find p (filter q (numbers_from n count)) ≡ Some s → n ≤ s
found_above p q n zero s h = absurd cc
found_above p q n (suc count) s h = either (q n) (p n) refl (λ k. found_above p q (n + 1) count s k) h
  where
    either : (b d : Bool) → p n ≡ d → (find p (filter q (numbers_from (n + 1) count)) ≡ Some s → n + 1 ≤ s)
        → find p (cond b (n ∷ filter q (numbers_from (n + 1) count)) (filter q (numbers_from (n + 1) count))) ≡ Some s
        → n ≤ s
    either false d is later h = omega (arith, later h)
    either true true is later h =
        let e : Some n ≡ Some s = ap (λ d. cond d (Some n) (find p (filter q (numbers_from (n + 1) count)))) (sym is)
        ∙ h in
        let f : n ≡ s = cc (e) in
        omega arith
    either true false is later h =
        omega (arith, later (ap (λ d. cond d (Some n) (find p (filter q (numbers_from (n + 1) count)))) (sym is) ∙ h))

picked : (log : Journal) (c : ℕ) (p q : ℕ → Bool) (n count s : ℕ) → find p (filter q (numbers_from n count)) ≡ Some s
    → of_stream s (listed_in log c (filter q (numbers_from n count))) ≡ refs_of s (listed_shards log c s)
picked log c p q n zero s h = absurd cc
picked log c p q n (suc count) s h = either (q n) (p n) refl (λ k. picked log c p q (n + 1) count s k) h
  where
    more : List ℕ
    more = filter q (numbers_from (n + 1) count)

    either : (b d : Bool) → p n ≡ d
        → (find p more ≡ Some s → of_stream s (listed_in log c more) ≡ refs_of s (listed_shards log c s))
        → find p (cond b (n ∷ more) more) ≡ Some s
        → of_stream s (listed_in log c (cond b (n ∷ more) more)) ≡ refs_of s (listed_shards log c s)
    either false d is later h = later h
    either true true is later h =
        let e : Some n ≡ Some s = ap (λ d. cond d (Some n) (find p more)) (sym is) ∙ h in
        let f : n ≡ s = cc (e) in
        subst (λ t. of_stream s (refs_of t (listed_shards log c t) ++ listed_in log c more)
        ≡ refs_of s (listed_shards log c s)) (sym f)
        (all_of s (listed_shards log c s) (listed_in log c more)
        (above_none log c s q (n + 1) count (omega arith)))
    either true false is later h =
        let k = ap (λ d. cond d (Some n) (find p more)) (sym is) ∙ h in
        let far = found_above p q (n + 1) count s k in
        none_of s n (listed_shards log c n) (listed_in log c more) (apart_above far) ∙ later k
      where
        apart_above : n + 1 ≤ s → (n == s) ≡ false
        apart_above h = grind (arith, nat_tests)

-- ---- The summary

keys_summed : (log : Journal) (s : ℕ) (xs : List ShardState)
    → map (summed_key log) (refs_of s xs) ≡ map (summed_at log s) xs
keys_summed log s [] = refl
keys_summed log s (x ∷ xs) = ap (λ ys. summed_at log s x ∷ ys) (keys_summed log s xs)

rise_listed : (n : ℕ) (floor : ℕ) (xs : List ShardState) → AreNumbered n xs
    → RiseFrom n (map (λ (x : ShardState). x.no) (listed_among floor xs))
rise_listed n floor [] numbers = tt
rise_listed n floor (x ∷ xs) numbers =
    let ys = listed_among floor xs in
    let rest = rise_listed (n + 1) floor xs numbers.1 in
    cond_both (not (is_closed_below floor x)) (x ∷ ys) ys (λ zs. RiseFrom n (map (λ (z : ShardState). z.no) zs))
    (λ is. (omega (arith, numbers.0), lower (x.no + 1) (n + 1) _ (omega (arith, numbers.0)) rest))
    (λ not. lower n (n + 1) _ (omega arith) rest)

-- The numbers of the shards, in order.
abbrev numbers_in : List ShardState → List ℕ
numbers_in xs = map (λ (x : ShardState). x.no) xs

counts_in : (log : Journal) (s : ℕ) (xs : List ShardState) → sum_of (λ x. x.count) (map (summed_at log s) xs)
    ≡ records_in log s (numbers_in xs)
counts_in log s [] = refl
counts_in log s (x ∷ xs) = ap (λ n. length (records log s x.no) + n) (counts_in log s xs)

payload_in : (log : Journal) (s : ℕ) (xs : List ShardState) → sum_of (λ x. x.bytes) (map (summed_at log s) xs)
    ≡ bytes_in log s (numbers_in xs)
payload_in log s [] = refl
payload_in log s (x ∷ xs) = ap (λ n. bytes_of (records log s x.no) + n) (payload_in log s xs)

rise_of : (log : Journal) (c s : ℕ) (b : Bool) → AreNumbered 0 (shards log s)
    → RiseFrom 0 (numbers_in (if b then listed_among (trim_floor log c s) (shards log s) else []))
rise_of log c s true numbers = rise_listed 0 (trim_floor log c s) (shards log s) numbers
rise_of log c s false numbers = tt

sums_few : (log : Journal) → Facts log → (c s : ℕ) → AreFew (map (summed_at log s) (listed_shards log c s))
sums_few log facts c s =
    let shs = numbers_in (listed_shards log c s) in
    let n = few_in log s 0 shs (facts.fits s) (rise_of log c s (is_live log s) (facts.numbered s)) in
    let m = few_bytes_in log s shs (facts.sized s) in (
      omega (arith, n, counts_in log s (listed_shards log c s)),
      omega (arith, n, m, payload_in log s (listed_shards log c s)),
    )

pub countable : (log : Journal) → Facts log → (c s : ℕ) → ((sh : ℕ) → AreAbove (trim_floor log c s) (records log s sh))
    → AreCountable log c s (listed_in log c (live_streams log))
countable log facts c s whole =
    all_countable log facts c s whole (is_live log) (numbers_from 1 (made_count log)) (λ n. refl)

-- The text made of a survey's keys of the drill's stream is the drill's summary.
pub told_text : {E : Type 0} (log : Journal) (c s : ℕ) (xs : List Summed) (r : Result (List ℕ) E) → Facts log
    → stream_named log drill_name ≡ Some s
    → xs ≡ map (summed_key log) (of_stream s (listed_in log c (live_streams log)))
    → (AreFew xs → IfOk r (λ t. t ≡ text_of xs)) → IfOk r (λ t. t ≡ summary_text log c)
told_text log c s xs r facts named are so =
    let is : xs ≡ map (summed_at log s) (listed_shards log c s) =
    are ∙ ap (map (summed_key log))
    (picked log c (λ s. same_name (name_of log s) drill_name) (is_live log) 1 (made_count log) s named)
    ∙ keys_summed log s (listed_shards log c s) in
    only r (ap text_of is ∙ sym (ap (summary_of log c) named)) (so (subst AreFew (sym is) (sums_few log facts c s)))
  where
    only : {E : Type 0} (r : Result (List ℕ) E) → text_of xs ≡ summary_text log c → IfOk r (λ t. t ≡ text_of xs)
        → IfOk r (λ t. t ≡ summary_text log c)
    only (Ok t) same is = is ∙ same
    only (Err e) same is = tt
