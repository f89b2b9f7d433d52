-- Shards stay numbered in order if one is closed, and if shards with the next numbers are appended.
use Rattle.std.proofs.Common.{◌≡◌, ℕ, zero, suc, ◌+◌, List, [], ◌∷◌, ◌++◌, length, refl, ap, subst, arith}
use Rattle.kds_base.specs.Span.{Span}
use Rattle.kds_defs.specs.Tiled.{AreNumbered}
use Rattle.kds_defs.specs.Shards.{ShardState, Closing, first_shards, with_closed}

pub numbered-first : (n start : ℕ) (ranges : List Span) → AreNumbered n (first_shards n start ranges)
numbered-first n start [] = tt
numbered-first n start (r ∷ rs) = (refl, numbered-first (n + 1) start rs)

pub numbered-closed : (n sh : ℕ) (closing : Closing) (xs : List ShardState) → AreNumbered n xs
    → AreNumbered n (with_closed sh closing xs)
numbered-closed n sh closing [] h = tt
numbered-closed n zero closing (x ∷ xs) h = (h.0, h.1)
numbered-closed n (suc sh) closing (x ∷ xs) h = (h.0, numbered-closed (n + 1) sh closing xs h.1)

pub numbered-append : (n : ℕ) (xs ys : List ShardState) → AreNumbered n xs → AreNumbered (n + length xs) ys
    → AreNumbered n (xs ++ ys)
numbered-append n [] ys h g = let e : n + 0 ≡ n = omega arith in subst (λ m. AreNumbered m ys) e g
numbered-append n (x ∷ xs) ys h g =
    let e : n + length (x ∷ xs) ≡ n + 1 + length xs = omega arith in
    (h.0, numbered-append (n + 1) xs ys h.1 (subst (λ m. AreNumbered m ys) e g))

pub length-closed : (sh : ℕ) (closing : Closing) (xs : List ShardState) → length (with_closed sh closing xs) ≡ length xs
length-closed sh closing [] = refl
length-closed zero closing (x ∷ xs) = refl
length-closed (suc sh) closing (x ∷ xs) = ap suc (length-closed sh closing xs)
