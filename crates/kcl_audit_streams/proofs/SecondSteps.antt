-- The judge keeps a shard's latest second and where it begins, which is enough for the limits.
use Rattle.std.proofs.Common.{◌≡◌, ℕ, zero, suc, ◌+◌, ◌-◌, ◌<◌, ◌≤◌, Bool, true, false, List, [], ◌∷◌, ◌++◌, length}
use Rattle.std.proofs.Common.{drop, take, refl, ap, ◌∙◌, arith}
use Rattle.std.specs.Prelude.{◌/◌, ◌==◌, if◌then◌else◌}
use Rattle.std.specs.List.{AllByRecursion}
use Rattle.std.proofs.lemmas.Bool.Decides.{nat_tests}
use Rattle.std.proofs.lemmas.List.{length-drop, take_all}
use Rattle.kds_defs.specs.declared.limits.TheConstants.{SECOND}
use Rattle.kds_defs.specs.Rates.{SizedPut, bytes_of, is_same_second, is_throttled, is_too_much, window}
use Rattle.kcl_audit_streams.specs.declared.records.Sized.{Sized}
use Rattle.kcl_audit_streams.specs.Seconds.{AreLatest}
use Rattle.kcl_audit_streams.specs.Standing.{is_in, puts_from, puts_in}
use Rattle.kcl_audit_streams.proofs.RateSteps.{sized}

-- ---- Puts

-- All records arrived before the second.
abbrev Below : ℕ → List Sized → Type 0
Below second rs = AllByRecursion (λ (r : Sized). r.arrival / SECOND < second) rs

-- All records arrived in the second or before.
abbrev UpTo : ℕ → List Sized → Type 0
UpTo second rs = AllByRecursion (λ (r : Sized). r.arrival / SECOND ≤ second) rs

up_more : (second : ℕ) (rs : List Sized) (r : Sized) → r.arrival / SECOND ≤ second → UpTo second rs
    → UpTo second (rs ++ r ∷ [])
up_more second [] r one h = (one, tt)
up_more second (x ∷ rs) r one h = (h.0, up_more second rs r one h.1)

below_same : (second start : ℕ) (rs : List Sized) (r : Sized) → start ≤ length rs → Below second (take start rs)
    → Below second (take start (rs ++ r ∷ []))
below_same second zero rs r few h = tt
below_same second (suc start) [] r few h = absurd (few_none start few)
  where
    few_none : (n : ℕ) → suc n ≤ 0 → ⊥
    few_none n le = omega arith
below_same second (suc start) (x ∷ rs) r few h =
    (h.0, below_same second start rs r (few_less start (length rs) few) h.1)
  where
    few_less : (n m : ℕ) → suc n ≤ suc m → n ≤ m
    few_less n m le = omega arith

length_more : (rs : List Sized) (r : Sized) → length rs ≤ length (rs ++ r ∷ [])
length_more [] r = omega arith
length_more (x ∷ rs) r = let one = length_more rs r in omega arith

at_most : (a b c : ℕ) → a ≤ b → b ≤ c → a ≤ c
at_most a b c x y = omega arith

pub latest_same : (second start : ℕ) (rs : List Sized) (r : Sized) → AreLatest second start rs
    → r.arrival / SECOND ≤ second → AreLatest second start (rs ++ r ∷ [])
latest_same second start rs r h le = record {
  few = at_most start (length rs) (length (rs ++ r ∷ [])) h.few (length_more rs r);
  none_after = up_more second rs r le h.none_after;
  before = below_same second start rs r h.few h.before;
}

-- ---- The puts of one second

window_cons : (c : ℕ) (p : SizedPut) (a b : List SizedPut) (t : Bool) → is_same_second p.clock c ≡ t
    → window c a ≡ window c b → window c (p ∷ a) ≡ window c (p ∷ b)
window_cons c p a b true e h = rw e (ap (λ (ps : List SizedPut). p ∷ ps) h)
window_cons c p a b false e h = rw e h

window_if : (c : ℕ) (p : SizedPut) (a b : List SizedPut) (t : Bool) → window c a ≡ window c b
    → window c (if t then p ∷ a else a) ≡ window c (if t then p ∷ b else b)
window_if c p a b true h = window_cons c p a b (is_same_second p.clock c) refl h
window_if c p a b false h = h

same_window : (c sh : ℕ) (a b : List SizedPut) (rs : List Sized) → window c a ≡ window c b
    → window c (puts_from a rs sh) ≡ window c (puts_from b rs sh)
same_window c sh a b [] h = h
same_window c sh a b (r ∷ rs) h =
    same_window c sh (if is_in sh r then sized r ∷ a else a) (if is_in sh r then sized r ∷ b else b) rs
    (window_if c (sized r) a b (is_in sh r) h)

differs : (n m : ℕ) → n < m → (n == m) ≡ false
differs n m lt = grind (arith, nat_tests)

window_past : (c : ℕ) (p : SizedPut) (a : List SizedPut) (t : Bool) → p.clock / SECOND < c / SECOND
    → window c a ≡ window c (if t then p ∷ a else a)
window_past c p a true lt = let e : is_same_second p.clock c ≡ false = differs (p.clock / SECOND) (c / SECOND) lt in
    rw e refl
window_past c p a false lt = refl

window_behind : (c sh i : ℕ) (old : List SizedPut) (rs : List Sized) → Below (c / SECOND) (take i rs)
    → window c (puts_from old (drop i rs) sh) ≡ window c (puts_from old rs sh)
window_behind c sh zero old rs h = refl
window_behind c sh (suc i) old [] h = refl
window_behind c sh (suc i) old (r ∷ rs) h =
    window_behind c sh i old rs h.1
    ∙ same_window c sh old (if is_in sh r then sized r ∷ old else old) rs
    (window_past c (sized r) old (is_in sh r) h.0)

below_later : (old new : ℕ) (rs : List Sized) → old ≤ new → Below old rs → Below new rs
below_later old new [] le h = tt
below_later old new (r ∷ rs) le h = (below_one (r.arrival / SECOND) old new le h.0, below_later old new rs le h.1)
  where
    below_one : (n a b : ℕ) → a ≤ b → n < a → n < b
    below_one n a b le lt = omega arith

-- Only records of the latest second decide about throttling.
pub throttled_latest : (second start c sh bytes : ℕ) (rs : List Sized) → AreLatest second start rs → second ≤ c / SECOND
    → is_throttled (puts_in (take (length rs - start) (drop start rs)) sh) c bytes
    ≡ is_throttled (puts_in rs sh) c bytes
throttled_latest second start c sh bytes rs h le =
    let all : length (drop start rs) ≤ length rs - start = (let e = length-drop start rs in omega arith) in
    ap (λ (xs : List Sized). is_throttled (puts_in xs sh) c bytes) (take_all (length rs - start) (drop start rs) all)
    ∙ ap (λ (ps : List SizedPut). is_too_much (length ps) (bytes_of ps) bytes)
    (window_behind c sh start [] rs (below_later second (c / SECOND) (take start rs) le h.before))
