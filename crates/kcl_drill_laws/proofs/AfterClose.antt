-- Lawful turns on leases after a drill's history, not later than its clock, leave it a history of this drill.
use Rattle.std.proofs.Common.{◌≡◌, ℕ, ◌≤◌, max, false, List, [], ◌∷◌, ◌++◌, refl, ap, ◌∙◌, arith}
use Rattle.std.specs.Prelude.{cond, nat_lt}
use Rattle.kds_defs.specs.declared.command.Turn.{Turn}
use Rattle.kds_defs.specs.Histories.{clock}
use Rattle.kds_defs.specs.Lawful.{IsHistory}
use Rattle.kds_defs.specs.Records.{Logged}
use Rattle.kcl_drill.specs.Apart.{service_turns}
use Rattle.kcl_drill.specs.Fed.{IsDrill, commands_in}
use Rattle.kcl_drill_summary.specs.Counting.{AreAbove}
use Rattle.kcl_drill_laws.specs.Closed.{AreLeased}

pub clock_same : (actor moment : ℕ) (more h : List Turn) → moment ≤ clock h → AreLeased actor moment more
    → clock (more ++ h) ≡ clock h
clock_same actor moment [] h below are = refl
clock_same actor moment (t ∷ more) h below are =
    both (clock (more ++ h)) (clock h) t.at (clock_same actor moment more h below are.1) are.0.1 below
  where
    both : (n m k : ℕ) → n ≡ m → k ≡ moment → moment ≤ m → max n k ≡ m
    both n m k e is le = omega arith

services_same : (actor moment : ℕ) (more h : List Turn) → AreLeased actor moment more
    → service_turns (more ++ h) ≡ service_turns h
services_same actor moment [] h are = refl
services_same actor moment (t ∷ more) h are =
    ap (λ b. cond b (t ∷ service_turns (more ++ h)) (service_turns (more ++ h))) are.0.2
    ∙ services_same actor moment more h are.1

history_more : (actor moment : ℕ) (more h : List Turn) → AreLeased actor moment more → IsHistory h
    → IsHistory (more ++ h)
history_more actor moment [] h are is = is
history_more actor moment (t ∷ more) h are is = (are.0.3, history_more actor moment more h are.1 is)

pub still_drill : (number records actor moment : ℕ) (more h : List Turn) → IsDrill h number records → moment ≤ clock h
    → AreLeased actor moment more
    → IsDrill (more ++ h) number records
still_drill number records actor moment more h is below are =
    record {
      lawful = history_more actor moment more h are is.lawful;
      below = omega (arith, clock_same actor moment more h below are, is.below);
      asks = ap commands_in (services_same actor moment more h are) ∙ is.asks;
    }

pub none_below : (floor : ℕ) (rs : List Logged) → floor ≡ 0 → AreAbove floor rs
none_below floor [] e = tt
none_below floor (r ∷ rs) e = (above r.arrival floor e, none_below floor rs e)
  where
    above : (n m : ℕ) → m ≡ 0 → nat_lt n m ≡ false
    above n m e = search (e, arith)
