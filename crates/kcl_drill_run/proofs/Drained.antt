-- From a drill's history to its text: its shards can be drained, and its summary is then the text to print.
use Rattle.std.proofs.Common.{◌≡◌, ℕ, ◌<◌, ◌≤◌, ◌^◌, max, false, List, [], ◌∷◌, ◌++◌, length, Option, Some, None, refl}
use Rattle.std.proofs.Common.{sym, ap, subst, ◌∙◌, append_assoc}
use Rattle.std.proofs.Common.{arith}
use Rattle.std.specs.Prelude.{nat_lt}
use Rattle.std.specs.List.{AllByRecursion}
use Rattle.std.proofs.lemmas.Bool.Decides.{nat_tests}
use Rattle.kds_defs.specs.declared.command.Turn.{Turn}
use Rattle.kds_defs.specs.Histories.{clock, journal}
use Rattle.kds_defs.specs.Lawful.{IsHistory}
use Rattle.kds_defs.specs.Records.{records}
use Rattle.kds_defs.specs.Shards.{Closing, ShardState, is_closed_below, shards, was_closed_below}
use Rattle.kds_defs.specs.Streams.{trim_floor}
use Rattle.kcl_drill.specs.Apart.{LEAST_RETENTION}
use Rattle.kcl_drill.specs.Fed.{IsDrill}
use Rattle.kcl_drill.specs.Summed.{AreDrained, drill_text, summary_text}
use Rattle.kcl_drill_summary.specs.Counting.{CanSum}
use Rattle.kcl_drill_summary.specs.Reads.{HasRead}
use Rattle.kcl_drill_laws.specs.Closed.{AreFromHorizon, AreLeased}
use Rattle.kcl_drill_laws.proofs.AfterClose.{none_below}
use Rattle.kcl_drill_drain.specs.Draining.{CanDrain}
use Rattle.kcl_drill_drain.specs.Leased.{HasDrained}

-- ---- At the trim floor 0, nothing is trimmed or expired

not_below : (n floor : ℕ) → floor ≡ 0 → nat_lt n floor ≡ false
not_below n floor is = grind (arith, nat_tests)

not_closed : (floor : ℕ) (o : Option Closing) → floor ≡ 0 → was_closed_below floor o ≡ false
not_closed floor None is = refl
not_closed floor (Some closing) is = not_below closing.clock floor is

none_closed : (floor : ℕ) (xs : List ShardState) → floor ≡ 0
    → AllByRecursion (λ (x : ShardState). is_closed_below floor x ≡ false) xs
none_closed floor [] is = tt
none_closed floor (x ∷ xs) is = (not_closed floor x.closing is, none_closed floor xs is)

same_clock : (c moment : ℕ) → moment ≡ 0 → max c moment ≡ c
same_clock c moment is = omega arith

module _ (untrimmed : (h : List Turn) (c s : ℕ) → IsHistory h → clock h ≤ c → c < LEAST_RETENTION
    → trim_floor (journal h) c s ≡ 0) where
  pub can_drain : (h : List Turn) (number records moment : ℕ) → moment ≡ 0 → IsDrill h number records
      → length h < 2 ^ 32
      → AreFromHorizon (journal h) → CanDrain h moment
  can_drain h number records moment zero is few horizon =
      let c = max (clock h) moment in
      let late : clock h ≤ c = omega (arith, same_clock (clock h) moment zero) in
      let soon : c < LEAST_RETENTION = omega (arith, same_clock (clock h) moment zero, is.below) in
      record {
        lawful = is.lawful;
        few = few;
        whole = λ s live.
            let none = untrimmed h c s is.lawful late soon in
            record { above = λ sh. none_below _ _ none; listed = none_closed _ (shards (journal h) s) none };
        horizon = horizon;
      }

-- Three laws taken as given: turns on leases keep a drill's history, and its summary can be made and is right.
pub record HasLaws : Type 0 where
  pub drill : (number records actor moment : ℕ) (more h : List Turn) → IsDrill h number records → moment ≤ clock h
      → AreLeased actor moment more
      → IsDrill (more ++ h) number records
  pub summed : (h : List Turn) (number records : ℕ) → IsDrill h number records → CanSum h (clock h)
  pub text : (h : List Turn) (number records : ℕ) → IsDrill h number records → AreDrained (journal h) (clock h)
      → summary_text (journal h) (clock h) ≡ drill_text number records

-- The machine has only read since a history whose summary can be made and is the text to print.
pub record IsReady (stands : List Turn → Type 0) (actor moment number records : ℕ) : Type 0 where
  pub turns : List Turn
  pub read : HasRead stands actor moment turns
  pub can : CanSum turns (max (clock turns) moment)
  pub text : summary_text (journal turns) (max (clock turns) moment) ≡ drill_text number records

pub later : (stands : List Turn → Type 0) (actor moment : ℕ) (h more : List Turn)
    → HasRead stands actor moment (more ++ h)
    → (all : List Turn) × stands (all ++ h)
later stands actor moment h more r = (r.more ++ more, subst stands (sym (append_assoc r.more more h)) r.stands_now)

-- After the drain the summary can be made, and is the text to print (`IsReady`).
pub ready : (laws : HasLaws) (stands : List Turn → Type 0) (h : List Turn) (number records actor moment then : ℕ)
    → moment ≡ 0
    → then ≡ 0 → IsDrill h number records
    → HasDrained stands actor moment h → IsReady stands actor then number records
ready laws stands h number records actor moment then zero zero_then is d =
    let turns = d.more ++ h in
    let drill = laws.drill number records actor moment d.more h is (omega arith) d.are in
    let at_clock = same_clock (clock turns) then zero_then in
    record {
      turns = turns;
      read = record { more = []; stands_now = d.stands_now; are = tt };
      can = subst (CanSum turns) (sym at_clock) (laws.summed turns number records drill);
      text = ap (summary_text (journal turns)) at_clock ∙ laws.text turns number records drill d.drained;
    }
