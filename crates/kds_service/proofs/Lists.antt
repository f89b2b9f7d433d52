-- Replacing, adding or removing a stream keeps the rising numbers, and the streams show the new journal.
use Rattle.std.proofs.Common.{◌≡◌, ◌≢◌, ℕ, zero, suc, ◌+◌, ◌<◌, ◌≤◌, false, ◌==◌, List, [], ◌∷◌, ◌++◌}
use Rattle.std.proofs.Common.{length, map, take, drop, remove, slice_get, slice_set, Some, refl, sym, ap, subst, ◌∙◌}
use Rattle.std.proofs.Common.{arith}
use Rattle.std.specs.List.{AllByRecursion}
use Rattle.std.proofs.lemmas.Bool.{or_parts, or_from}
use Rattle.std.proofs.lemmas.List.{drop_more}
use Rattle.std.proofs.lemmas.Option.{get_or_from_slice_get, none-some, slice_get_within, same_Some}
use Rattle.kds_base.proofs.Facts.{is_other}
use Rattle.kds_defs.specs.Journal.{Journal}
use Rattle.kds_stream.specs.Showing.{Shows}
use Rattle.kds_stream.specs.Value.{StreamValue}
use Rattle.kds_service.specs.Shown.{AreAt, AreShown, IsRising, is_among, numbers_of}

-- ---- What holds of each element

module _ {X : Type 0} (P : X → Type 0) where
  pub all_get : (i : ℕ) (xs : List X) (x : X) → AllByRecursion P xs → slice_get xs i ≡ Some x → P x
  all_get i [] x all here = absurd (none-some x here)
  all_get zero (y ∷ ys) x all here = subst P (same_Some y x here) all.0
  all_get (suc i) (y ∷ ys) x all here = all_get i ys x all.1 here

  pub all_set : (i : ℕ) (xs : List X) (x : X) → AllByRecursion P xs → P x → AllByRecursion P (slice_set xs i x)
  all_set i [] x all new = tt
  all_set zero (y ∷ ys) x all new = (new, all.1)
  all_set (suc i) (y ∷ ys) x all new = (all.0, all_set i ys x all.1 new)

  pub all_remove : (i : ℕ) (xs : List X) → AllByRecursion P xs → AllByRecursion P (remove xs i)
  all_remove zero [] all = tt
  all_remove (suc i) [] all = tt
  all_remove zero (y ∷ ys) all = all.1
  all_remove (suc i) (y ∷ ys) all = (all.0, all_remove i ys all.1)

-- ---- The stream at an index

pub there_is : (i : ℕ) (vs : List StreamValue) → i < length vs → (x : StreamValue) × (slice_get vs i ≡ Some x)
there_is i [] below = absurd (omega arith)
there_is zero (v ∷ vs) below = (v, refl)
there_is (suc i) (v ∷ vs) below = there_is i vs (omega arith)

pub above : (low i : ℕ) (vs : List StreamValue) (x : StreamValue) → IsRising low (numbers_of vs)
    → slice_get vs i ≡ Some x → low < x.no
above low i [] x rising here = absurd (none-some x here)
above low zero (v ∷ vs) x rising here = subst (λ (u : StreamValue). low < u.no) (same_Some v x here) rising.0
above low (suc i) (v ∷ vs) x rising here = let rest = above v.no i vs x rising.1 here in omega (arith, rising.0, rest)

pub rising_from : (low high : ℕ) (ns : List ℕ) → low ≤ high → IsRising high ns → IsRising low ns
rising_from low high [] below rising = tt
rising_from low high (n ∷ ns) below rising = (omega (arith, rising.0), rising.1)

-- ---- Among numbers

pub not_below : (low s : ℕ) (ns : List ℕ) → s ≤ low → IsRising low ns → is_among ns s ≡ false
not_below low s [] below rising = refl
not_below low s (n ∷ ns) below rising =
    or_from (n == s) (is_among ns s) (is_other n s (λ e. absurd (omega (arith, below, rising.0, e))))
    (not_below n s ns (omega (arith, rising.0)) rising.1)

-- ---- A stream is replaced

pub set_same : (i : ℕ) (vs : List StreamValue) (x : StreamValue) → slice_get vs i ≡ Some x → slice_set vs i x ≡ vs
set_same i [] x here = refl
set_same zero (u ∷ us) x here = ap (λ y. y ∷ us) (sym (same_Some u x here))
set_same (suc i) (u ∷ us) x here = ap (λ ys. u ∷ ys) (set_same i us x here)

pub map_same : {Y : Type 0} (f : StreamValue → Y) (i : ℕ) (vs : List StreamValue) (x v : StreamValue)
    → slice_get vs i ≡ Some x → f v ≡ f x → map f (slice_set vs i v) ≡ map f vs
map_same f i [] x v here same = refl
map_same f zero (u ∷ us) x v here same = ap (λ y. y ∷ map f us) (same ∙ ap f (sym (same_Some u x here)))
map_same f (suc i) (u ∷ us) x v here same = ap (λ ys. f u ∷ ys) (map_same f i us x v here same)

shown_rest : (log log' : Journal) (c k : ℕ) (vs : List StreamValue) → IsRising k (numbers_of vs) → AreAt c vs
    → AreShown log vs → ((u : StreamValue) → Shows u log → u.clock ≡ c → u.no ≢ k → Shows u log') → AreShown log' vs
shown_rest log log' c k [] rising is_at shown others = tt
shown_rest log log' c k (u ∷ us) rising is_at shown others = (
  others u shown.0 is_at.0 (λ same. absurd (omega (arith, rising.0, same))),
  shown_rest log log' c k us (rising_from k u.no (numbers_of us) (omega (arith, rising.0)) rising.1)
      is_at.1 shown.1 others,
)

pub shown_set : (log log' : Journal) (c low i : ℕ) (vs : List StreamValue) (x v : StreamValue)
    → IsRising low (numbers_of vs) → AreAt c vs → AreShown log vs → slice_get vs i ≡ Some x → Shows v log'
    → ((u : StreamValue) → Shows u log → u.clock ≡ c → u.no ≢ x.no → Shows u log') → AreShown log' (slice_set vs i v)
shown_set log log' c low i [] x v rising is_at shown here new others = tt
shown_set log log' c low zero (u ∷ us) x v rising is_at shown here new others = (
  new,
  shown_rest log log' c x.no us
      (subst (λ (w : StreamValue). IsRising w.no (numbers_of us)) (same_Some u x here) rising.1)
      is_at.1 shown.1 others,
)
shown_set log log' c low (suc i) (u ∷ us) x v rising is_at shown here new others = (
  others u shown.0 is_at.0 (λ same. absurd (omega (arith, above u.no i us x rising.1 here, same))),
  shown_set log log' c u.no i us x v rising.1 is_at.1 shown.1 here new others,
)

-- ---- A stream is added

-- The numbers of the streams are at most `n`.
abbrev pub AreUpTo : ℕ → List StreamValue → Type 0
AreUpTo n vs = AllByRecursion (λ v. v.no ≤ n) vs

pub rising_push : (low n m : ℕ) (vs : List StreamValue) → low < m → n < m → AreUpTo n vs → IsRising low (numbers_of vs)
    → IsRising low (numbers_of vs ++ (m ∷ []))
rising_push low n m [] first last below rising = (first, tt)
rising_push low n m (v ∷ vs) first last below rising =
    (rising.0, rising_push v.no n m vs (omega (arith, below.0)) last below.1 rising.1)

pub among_push : (ns : List ℕ) (m s : ℕ) → is_among (ns ++ (m ∷ [])) s ≡ false → (is_among ns s ≡ false)
    × ((m == s) ≡ false)
among_push [] m s out = (refl, (or_parts (m == s) false out).0)
among_push (n ∷ ns) m s out =
    let parts = or_parts (n == s) (is_among (ns ++ (m ∷ [])) s) out in
    let rest = among_push ns m s parts.1 in
    (or_from (n == s) (is_among ns s) parts.0 rest.0, rest.1)

pub shown_push : (log log' : Journal) (c n : ℕ) (vs : List StreamValue) (v : StreamValue) → AreUpTo n vs → AreAt c vs
    → AreShown log vs → Shows v log' → ((u : StreamValue) → Shows u log → u.clock ≡ c → u.no ≤ n → Shows u log')
    → AreShown log' (vs ++ (v ∷ []))
shown_push log log' c n [] v below is_at shown new others = (new, tt)
shown_push log log' c n (u ∷ us) v below is_at shown new others =
    (others u shown.0 is_at.0 below.0, shown_push log log' c n us v below.1 is_at.1 shown.1 new others)

-- ---- A stream is removed

pub rising_remove : (low i : ℕ) (vs : List StreamValue) → IsRising low (numbers_of vs)
    → IsRising low (numbers_of (remove vs i))
rising_remove low zero [] rising = tt
rising_remove low (suc i) [] rising = tt
rising_remove low zero (v ∷ vs) rising = rising_from low v.no (numbers_of vs) (omega (arith, rising.0)) rising.1
rising_remove low (suc i) (v ∷ vs) rising = (rising.0, rising_remove v.no i vs rising.1)

pub shown_remove : (log log' : Journal) (c low i : ℕ) (vs : List StreamValue) (x : StreamValue)
    → IsRising low (numbers_of vs) → AreAt c vs → AreShown log vs → slice_get vs i ≡ Some x
    → ((u : StreamValue) → Shows u log → u.clock ≡ c → u.no ≢ x.no → Shows u log') → AreShown log' (remove vs i)
shown_remove log log' c low i [] x rising is_at shown here others = absurd (none-some x here)
shown_remove log log' c low zero (u ∷ us) x rising is_at shown here others =
    shown_rest log log' c x.no us
    (subst (λ (w : StreamValue). IsRising w.no (numbers_of us)) (same_Some u x here) rising.1) is_at.1 shown.1 others
shown_remove log log' c low (suc i) (u ∷ us) x rising is_at shown here others = (
  others u shown.0 is_at.0 (λ same. absurd (omega (arith, above u.no i us x rising.1 here, same))),
  shown_remove log log' c u.no i us x rising.1 is_at.1 shown.1 here others,
)

pub among_remove : (i s : ℕ) (vs : List StreamValue) (x : StreamValue) → slice_get vs i ≡ Some x
    → is_among (numbers_of (remove vs i)) s ≡ false → (x.no == s) ≡ false → is_among (numbers_of vs) s ≡ false
among_remove i s [] x here out differ = refl
among_remove zero s (v ∷ vs) x here out differ =
    or_from (v.no == s) (is_among (numbers_of vs) s) (ap (λ (u : StreamValue). u.no == s) (same_Some v x here) ∙ differ)
    out
among_remove (suc i) s (v ∷ vs) x here out differ =
    let parts = or_parts (v.no == s) (is_among (numbers_of (remove vs i)) s) out in
    or_from (v.no == s) (is_among (numbers_of vs) s) parts.0 (among_remove i s vs x here parts.1 differ)

-- ---- The streams are changed one after another

pub get_rest : (f : StreamValue → StreamValue) (xs : List StreamValue) (i : ℕ)
    → slice_get (map f (take i xs) ++ drop i xs) i ≡ slice_get xs i
get_rest f [] zero = refl
get_rest f [] (suc i) = refl
get_rest f (x ∷ xs) zero = refl
get_rest f (x ∷ xs) (suc i) = get_rest f xs i

set_next : (f : StreamValue → StreamValue) (xs : List StreamValue) (i : ℕ) (x : StreamValue) → slice_get xs i ≡ Some x
    → slice_set (map f (take i xs) ++ drop i xs) i (f x) ≡ map f (take (suc i) xs) ++ drop (suc i) xs
set_next f [] i x here = absurd (none-some x here)
set_next f (y ∷ ys) zero x here = ap (λ z. f z ∷ ys) (sym (same_Some y x here))
set_next f (y ∷ ys) (suc i) x here = ap (λ zs. f y ∷ zs) (set_next f ys i x here)

pub set_rest : (f : StreamValue → StreamValue) (xs : List StreamValue) (i : ℕ) (x : StreamValue)
    → slice_get xs i ≡ Some x → slice_set (map f (take i xs) ++ drop i xs) i (f x) ≡ map f (take (i + 1) xs)
    ++ drop (i + 1) xs
set_rest f xs i x here =
    let one : suc i ≡ i + 1 = omega arith in
    set_next f xs i x here ∙ ap (λ j. map f (take j xs) ++ drop j xs) one

pub drop_get : {X : Type 0} (xs : List X) (i : ℕ) (x : X) → slice_get xs i ≡ Some x → drop i xs ≡ x ∷ drop (i + 1) xs
drop_get xs i x here =
    drop_more xs i x (slice_get_within xs i x here)
    ∙ ap (λ z. z ∷ drop (i + 1) xs) (get_or_from_slice_get xs i x x here)
