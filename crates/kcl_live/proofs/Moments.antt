-- The k-th turn of a pass is at k * `tick`, and all these moments are below 2^62.
use Rattle.std.proofs.Common.{◌≡◌, ℕ, ◌+◌, ◌*◌, ◌^◌, ◌<◌, ◌≤◌, List, [], length, sym, ap, subst, ◌∙◌, arith, ◌⊎◌, inl}
use Rattle.std.proofs.Common.{inr}
use Rattle.std.proofs.lemmas.Nat.{mul-le}
use Rattle.kds_defs.specs.declared.command.Turn.{Turn}
use Rattle.kcl_live.specs.Records.{AreOnLeasesAt, HasAdded}

one_more : (n tick : ℕ) → n * tick + tick ≡ (n + 1) * tick
one_more n tick = omega arith

pub next_at : (n tick moment : ℕ) → moment ≡ n * tick → moment + tick ≡ (n + 1) * tick
next_at n tick moment e = ap (λ m. m + tick) e ∙ one_more n tick

below : (n m tick : ℕ) → n ≤ m → m * tick < 2 ^ 62 → n * tick < 2 ^ 62
below n m tick le low = let h : n * tick ≤ m * tick = mul-le n tick m tick le (omega arith) in omega arith

pub moment_left : (n m tick moment : ℕ) → moment ≡ n * tick → n + 1 ≤ m → m * tick < 2 ^ 62 → moment + tick < 2 ^ 62
moment_left n m tick moment e le low =
    subst (λ x. x < 2 ^ 62) (sym (next_at n tick moment e)) (below (n + 1) m tick le low)

pub length_added : (moment : ℕ) (own more : List Turn) → HasAdded moment own more → length more ≡ length own + 1
length_added moment own more a = ap length a.1 ∙ omega arith

pub moments_added : (tick now moment n : ℕ) (own more : List Turn) → HasAdded now own more → now ≡ moment
    → n ≡ length own
    → moment ≡ (n + 1) * tick → AreOnLeasesAt tick own → AreOnLeasesAt tick more
moments_added tick now moment n own more a is count next moments =
    subst (AreOnLeasesAt tick) (sym a.1) ((a.2 ∙ is ∙ next ∙ ap (λ k. (k + 1) * tick) count, a.3), moments)

pub most_may : (now m : ℕ) (own more : List Turn) → (more ≡ own) ⊎ HasAdded now own more → length own + 1 ≤ m
    → length more ≤ m
most_may now m own more (inl same) le = omega (arith, ap length same, le)
most_may now m own more (inr a) le = omega (arith, length_added now own more a, le)

pub none_moments : (tick : ℕ) (own : List Turn) → own ≡ [] → AreOnLeasesAt tick own
none_moments tick own none = subst (AreOnLeasesAt tick) (sym none) tt
