-- A listing of the shards after a number can be made from the shards after this number alone.
use Rattle.std.proofs.Common.{◌≡◌, ℕ, zero, suc, ◌+◌, ◌<◌, ◌≤◌, Bool, true, false, List, [], ◌∷◌, refl, sym, ap, ◌∙◌}
use Rattle.std.proofs.Common.{arith}
use Rattle.std.proofs.Common.{drop, length, map, Option, Some, None, inl, inr}
use Rattle.std.specs.Prelude.{cond, nat_lt, ◌⊎◌}
use Rattle.std.specs.List.{filter}
use Rattle.std.proofs.lemmas.Bool.Decides.{nat_tests}
use Rattle.kds_defs.specs.Listings.{is_after_shard}
use Rattle.kds_defs.specs.Shards.{ShardState, listed_among, shown}
use Rattle.kds_defs.specs.Streams.{floor_of}
use Rattle.kds_defs.specs.Tiled.{AreNumbered}
use Rattle.kds_tree.specs.Front.{listing}

-- ---- Filters by two tests can be exchanged

swap_step : (p q : ShardState → Bool) (a b : Bool) (x : ShardState) (xs : List ShardState) → p x ≡ a → q x ≡ b
    → filter p (filter q xs) ≡ filter q (filter p xs)
    → filter p (cond b (x ∷ filter q xs) (filter q xs)) ≡ filter q (cond a (x ∷ filter p xs) (filter p xs))
swap_step p q true true x xs is_p is_q h =
    ap (λ c. cond c (x ∷ filter p (filter q xs)) (filter p (filter q xs))) is_p
    ∙ ap (λ ys. x ∷ ys) h
    ∙ sym (ap (λ c. cond c (x ∷ filter q (filter p xs)) (filter q (filter p xs))) is_q)
swap_step p q true false x xs is_p is_q h =
    h ∙ sym (ap (λ c. cond c (x ∷ filter q (filter p xs)) (filter q (filter p xs))) is_q)
swap_step p q false true x xs is_p is_q h = ap (λ c. cond c (x ∷ filter p (filter q xs)) (filter p (filter q xs))) is_p
    ∙ h
swap_step p q false false x xs is_p is_q h = h

filter_swap : (p q : ShardState → Bool) (xs : List ShardState) → filter p (filter q xs) ≡ filter q (filter p xs)
filter_swap p q [] = refl
filter_swap p q (x ∷ xs) = swap_step p q (p x) (q x) x xs refl refl (filter_swap p q xs)

-- ---- The shards after a given number

above : (m n after : ℕ) → m ≡ n → after < n → nat_lt after m ≡ true
above m n after is h = grind (arith, nat_tests)

not_above : (m n after : ℕ) → m ≡ n → n ≤ after → nat_lt after m ≡ false
not_above m n after is h = grind (arith, nat_tests)

all_behind : (xs : List ShardState) (n after : ℕ) → AreNumbered n xs → after < n
    → filter (is_after_shard (Some after)) xs ≡ xs
all_behind [] n after numbers h = refl
all_behind (x ∷ xs) n after numbers h =
    ap (λ c. cond c (x ∷ filter (is_after_shard (Some after)) xs) (filter (is_after_shard (Some after)) xs))
    (above x.no n after numbers.0 h)
    ∙ ap (λ ys. x ∷ ys) (all_behind xs (n + 1) after numbers.1 (omega arith))

point : (xs : List ShardState) (n after start : ℕ) → AreNumbered n xs → n + start ≤ after + 1 → (n + start ≡ after + 1)
    ⊎ (length xs ≤ start)
    → drop start xs ≡ filter (is_after_shard (Some after)) xs
point [] n after zero numbers below is = refl
point [] n after (suc start) numbers below is = refl
point (x ∷ xs) n after zero numbers below (inl e) = sym (all_behind (x ∷ xs) n after numbers (omega arith))
point (x ∷ xs) n after zero numbers below (inr h) = absurd (omega arith)
point (x ∷ xs) n after (suc start) numbers below is =
    point xs (n + 1) after start numbers.1 (omega arith) (later is)
    ∙ sym (ap (λ c. cond c (x ∷ filter (is_after_shard (Some after)) xs) (filter (is_after_shard (Some after)) xs))
    (not_above x.no n after numbers.0 (omega arith)))
  where
    later : (n + suc start ≡ after + 1) ⊎ (length (x ∷ xs) ≤ suc start) → (n + 1 + start ≡ after + 1)
        ⊎ (length xs ≤ start)
    later (inl e) = inl (omega arith)
    later (inr h) = inr (omega arith)

pub right_behind : (xs : List ShardState) (after i start : ℕ) → AreNumbered 0 xs → i ≡ after → start ≡ i + 1
    → drop start xs ≡ filter (is_after_shard (Some after)) xs
right_behind xs after i start numbers same is =
    point xs 0 after start numbers (omega arith) (inl (omega arith))

pub at_end : (xs : List ShardState) (after i start : ℕ) → AreNumbered 0 xs → i ≡ after → length xs ≤ i
    → start ≡ length xs
    → drop start xs ≡ filter (is_after_shard (Some after)) xs
at_end xs after i start numbers same far is =
    point xs 0 after start numbers (omega arith) (inr (omega arith))

pub behind_none : (xs : List ShardState) → xs ≡ filter (is_after_shard None) xs
behind_none [] = refl
behind_none (x ∷ xs) = ap (λ ys. x ∷ ys) (behind_none xs)

pub listing_behind : (cut after : Option ℕ) (xs behind : List ShardState) → behind ≡ filter (is_after_shard after) xs
    → listing cut behind ≡ map shown (filter (is_after_shard after) (listed_among (floor_of cut) xs))
listing_behind cut after xs behind is = ap (listing cut) is ∙ ap (map shown) (filter_swap _ _ xs)
