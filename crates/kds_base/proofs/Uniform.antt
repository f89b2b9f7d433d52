-- The uniform ranges of a new stream one after another, computed with numbers below 2^128.
use Rattle.std.proofs.Common.{◌≡◌, ℕ, zero, suc, ◌+◌, ◌-◌, ◌*◌, ◌/◌, ◌^◌, ◌<◌, ◌≤◌, List, [], ◌∷◌, ◌++◌, ◌==◌}
use Rattle.std.proofs.Common.{if◌then◌else◌, sym, ap, ◌∙◌, append_assoc, arith}
use Rattle.std.proofs.Math.Nat.{add-div_right}
use Rattle.std.proofs.lemmas.Bool.Decides.{nat_tests}
use Rattle.kds_base.specs.Span.{Span, last_key, uniform_from, uniform}

width : (n : ℕ) → 0 < n → n ≤ 2 ^ 32 → (last_key - (n - 1)) / n + 1 ≡ 2 ^ 128 / n
width n some few =
    let e : last_key - (n - 1) + n ≡ 2 ^ 128 = omega arith in
    sym (add-div_right (last_key - (n - 1)) some) ∙ ap (λ m. m / n) e

times_next : (a w : ℕ) → a * w + a ≡ a * (w + 1)
times_next a w = omega arith

-- The product `i` times the width, computed without 2^128 itself.
pub start_is : (a m i n : ℕ) → a ≡ i → m ≡ n → i < n → n < 2 ^ 32
    → a * ((last_key - (m - 1)) / m) + a ≡ i * (2 ^ 128 / n)
start_is a m i n is_i is_n below few =
    times_next a ((last_key - (m - 1)) / m)
    ∙ ap (λ b. b * ((last_key - (m - 1)) / m + 1)) is_i
    ∙ ap (λ p. i * ((last_key - (p - 1)) / p + 1)) is_n
    ∙ ap (λ w. i * w) (width n (omega arith) (omega arith))

last_end : (w i n e : ℕ) → 0 + (i + 1) ≡ n → e ≡ (if i + 1 == n then last_key else (i + 1) * w - 1) → last_key ≡ e
last_end w i n e h g = grind (arith, nat_tests)

inner_end : (w i n k e : ℕ) → suc k + (i + 1) ≡ n → e ≡ (if i + 1 == n then last_key else (i + 1) * w - 1)
    → (i + 1) * w - 1 ≡ e
inner_end w i n k e h g = grind (arith, nat_tests)

pub next_range : (w i n k e : ℕ) → k + (i + 1) ≡ n → e ≡ (if i + 1 == n then last_key else (i + 1) * w - 1)
    → uniform_from w (i * w) (suc k) ≡ record { start = i * w; end = e } ∷ uniform_from w ((i + 1) * w) k
next_range w i n zero e h g = ap (λ z. record { start = i * w; end = z } ∷ []) (last_end w i n e h g)
next_range w i n (suc k) e h g =
    let s : i * w + w ≡ (i + 1) * w = omega arith in
    ap (λ z. record { start = i * w; end = z - 1 } ∷ uniform_from w z (suc k)) s
    ∙ ap (λ z. record { start = i * w; end = z } ∷ uniform_from w ((i + 1) * w) (suc k)) (inner_end w i n k e h g)

-- After the next range is added, the ranges so far and the remaining ones are still all `n`.
pub pushed : (ranges : List Span) (w i n k s e : ℕ) → ranges ++ uniform_from w (i * w) (suc k) ≡ uniform n → s ≡ i * w
    → k + (i + 1) ≡ n → e ≡ (if i + 1 == n then last_key else (i + 1) * w - 1)
    → (ranges ++ record { start = s; end = e } ∷ []) ++ uniform_from w ((i + 1) * w) k ≡ uniform n
pushed ranges w i n k s e so_far is_s h is_e =
    append_assoc ranges (record { start = s; end = e } ∷ []) (uniform_from w ((i + 1) * w) k)
    ∙ ap (λ z. ranges ++ (record { start = z; end = e } ∷ uniform_from w ((i + 1) * w) k)) is_s
    ∙ ap (λ rs. ranges ++ rs) (sym (next_range w i n k e h is_e))
    ∙ so_far
