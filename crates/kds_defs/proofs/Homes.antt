-- The search for a key's home finds the number of an open shard whose range contains the key.
use Rattle.std.proofs.Common.{◌≡◌, ℕ, suc, ◌+◌, ◌-◌, ◌<◌, ◌≤◌, Bool, true, false, List, [], ◌∷◌, Some, refl, sym, ap}
use Rattle.std.proofs.Common.{subst, ◌∙◌, arith}
use Rattle.std.specs.Prelude.{cond, slice_get, if◌then◌else◌}
use Rattle.std.specs.List.{filter}
use Rattle.std.proofs.lemmas.Bool.Decides.{nat_tests}
use Rattle.kds_base.specs.Span.{Span, covers, Covers}
use Rattle.kds_defs.specs.Shards.{ShardState, is_open, home_among}
use Rattle.kds_defs.specs.Tiled.{AreNumbered, open_times, count_if}

-- Shard `sh` of shards numbered from `n` on is open, and its range contains the key.
pub record Found (xs : List ShardState) (n k sh : ℕ) : Type 0 where
  pub state : ShardState
  pub from : n ≤ sh
  pub stands : slice_get xs (sh - n) ≡ Some state
  pub is_open_now : is_open state ≡ true
  pub contains : Covers state.range k

pub covers_so : (r : Span) (k : ℕ) → covers r k ≡ true → Covers r k
covers_so r k h = (grind (arith), grind (arith))

pub later : (x : ShardState) (xs : List ShardState) (n k sh : ℕ) → Found xs (n + 1) k sh → Found (x ∷ xs) n k sh
later x xs n k sh f =
    let e : suc (sh - (n + 1)) ≡ sh - n = omega (arith) in
    record {
      state = f.state;
      from = omega (arith);
      stands = ap (slice_get (x ∷ xs)) (sym e) ∙ f.stands;
      is_open_now = f.is_open_now;
      contains = f.contains;
    }

pub here : (x : ShardState) (xs : List ShardState) (n k sh : ℕ) → sh ≡ n → is_open x ≡ true → Covers x.range k
    → Found (x ∷ xs) n k sh
here x xs n k sh is open_now inside =
    let e : sh - n ≡ 0 = omega (arith) in
    record {
      state = x;
      from = omega (arith);
      stands = ap (slice_get (x ∷ xs)) e;
      is_open_now = open_now;
      contains = inside;
    }

pub found_home : (b d : Bool) (x : ShardState) (xs : List ShardState) (n k : ℕ) → is_open x ≡ b → covers x.range k ≡ d
    → x.no ≡ n → 0 < count_if b (if d then 1 else 0) + open_times xs k
    → (0 < open_times xs k → Found xs (n + 1) k (home_among (filter is_open xs) k))
    → Found (x ∷ xs) n k (home_among (cond b (x ∷ filter is_open xs) (filter is_open xs)) k)
found_home false d x xs n k isb isd is some rest = later x xs n k _ (rest (omega (arith)))
found_home true true x xs n k isb isd is some rest =
    let e : (if covers x.range k then x.no else home_among (filter is_open xs) k) ≡ x.no =
    ap (λ b. if b then x.no else home_among (filter is_open xs) k) isd in
    subst (λ sh. Found (x ∷ xs) n k sh) (sym e) (here x xs n k x.no is isb (covers_so x.range k isd))
found_home true false x xs n k isb isd is some rest =
    let e : (if covers x.range k then x.no else home_among (filter is_open xs) k) ≡ home_among (filter is_open xs) k =
    ap (λ b. if b then x.no else home_among (filter is_open xs) k) isd in
    subst (λ sh. Found (x ∷ xs) n k sh) (sym e) (later x xs n k _ (rest (omega (arith))))

-- The search finds a home if there is one.
pub home_found : (xs : List ShardState) (n k : ℕ) → AreNumbered n xs → 0 < open_times xs k
    → Found xs n k (home_among (filter is_open xs) k)
home_found [] n k numbers some = absurd (omega arith)
home_found (x ∷ xs) n k numbers some =
    found_home (is_open x) (covers x.range k) x xs n k refl refl numbers.0 some (home_found xs (n + 1) k numbers.1)
