-- The windows of shards stand for their puts, also after a put is counted.
use Rattle.std.proofs.Common.{◌≡◌, ℕ, zero, suc, ◌+◌, ◌<◌, ◌≤◌, false, List, [], ◌∷◌, length, get_or, sym, ap, subst}
use Rattle.std.proofs.Common.{◌∙◌, arith}
use Rattle.std.specs.Prelude.{◌==◌, if◌then◌else◌, slice_set}
use Rattle.std.specs.List.{AllByRecursion}
use Rattle.std.proofs.lemmas.Bool.Decides.{nat_tests}
use Rattle.kds_base.proofs.Facts.{is_equal}
use Rattle.kds_defs.specs.Rates.{SizedPut}
use Rattle.kds_rate.specs.Windows.{StandsFor, WindowValue}
use Rattle.kds_stream_logs.specs.Rating.{IsCounted, StandFor, with_put}

-- ---- The window at an index

pub stand_at : (f : ℕ → List SizedPut) (n i : ℕ) (ws : List WindowValue) (d : WindowValue) → i < length ws
    → StandFor f n ws → StandsFor (get_or ws i d) (f (n + i))
stand_at f n i [] d below h = absurd (omega arith)
stand_at f n zero (w ∷ ws) d below h = let e : n ≡ n + 0 = omega arith in subst (λ k. StandsFor w (f k)) e h.0
stand_at f n (suc i) (w ∷ ws) d below h = let e : n + 1 + i ≡ n + suc i = omega arith in
    subst (λ k. StandsFor (get_or ws i d) (f k)) e (stand_at f (n + 1) i ws d (omega arith) h.1)

pub stand_here : (f : ℕ → List SizedPut) (i : ℕ) (ws : List WindowValue) (d : WindowValue) → i < length ws
    → StandFor f 0 ws → StandsFor (get_or ws i d) (f i)
stand_here f i ws d below h = let e : 0 + i ≡ i = omega arith in
    subst (λ k. StandsFor (get_or ws i d) (f k)) e (stand_at f 0 i ws d below h)

pub counted_at : (moment i : ℕ) (ws : List WindowValue) (d : WindowValue) → i < length ws
    → AllByRecursion (IsCounted moment) ws → IsCounted moment (get_or ws i d)
counted_at moment i [] d below h = absurd (omega arith)
counted_at moment zero (w ∷ ws) d below h = h.0
counted_at moment (suc i) (w ∷ ws) d below h = counted_at moment i ws d (omega arith) h.1

-- ---- The same puts, given by another function

pub stand_along : (f g : ℕ → List SizedPut) (n : ℕ) (ws : List WindowValue) → ((sh : ℕ) → n ≤ sh → f sh ≡ g sh)
    → StandFor f n ws → StandFor g n ws
stand_along f g n [] same h = tt
stand_along f g n (w ∷ ws) same h = (
  subst (StandsFor w) (same n (omega arith)) h.0,
  stand_along f g (n + 1) ws (λ sh beyond. same sh (omega arith)) h.1,
)

-- ---- One more put

other_number : (n m : ℕ) → n < m → (n == m) ≡ false
other_number n m h = grind (arith, nat_tests, h)

pub put_here : (sh n : ℕ) (p : SizedPut) (f : ℕ → List SizedPut) → sh ≡ n → p ∷ f n ≡ with_put sh p f n
put_here sh n p f is = ap (λ b. if b then p ∷ f n else f n) (sym (is_equal sh n is))

pub put_elsewhere : (sh n : ℕ) (p : SizedPut) (f : ℕ → List SizedPut) → (sh == n) ≡ false → f n ≡ with_put sh p f n
put_elsewhere sh n p f is = ap (λ b. if b then p ∷ f n else f n) (sym is)

higher_number : (n m : ℕ) → m < n → (n == m) ≡ false
higher_number n m h = grind (arith, nat_tests, h)

-- A window that also counts `p` makes the windows stand for the puts with `p` added in its shard.
pub stand_set : (f : ℕ → List SizedPut) (n i moment : ℕ) (ws : List WindowValue) (w : WindowValue) (p : SizedPut)
    → moment ≡ n + i → i < length ws → StandsFor w (p ∷ f moment) → StandFor f n ws
    → StandFor (with_put moment p f) n (slice_set ws i w)
stand_set f n i moment [] w p is below stands h = tt
stand_set f n zero moment (x ∷ ws) w p is below stands h =
    let e : moment ≡ n = omega arith in (
      subst (StandsFor w) (ap (λ k. p ∷ f k) e ∙ put_here moment n p f e) stands,
      stand_along f (with_put moment p f) (n + 1) ws
          (λ sh beyond. put_elsewhere moment sh p f (other_number moment sh (omega arith))) h.1,
    )
stand_set f n (suc i) moment (x ∷ ws) w p is below stands h = (
  subst (StandsFor x) (put_elsewhere moment n p f (higher_number moment n (omega arith))) h.0,
  stand_set f (n + 1) i moment ws w p (omega arith) (omega arith) stands h.1,
)
