-- Who takes part in a drill, each with a pass of the hall: the root, the feeder, and the members (workers).
use Rattle.std.specs.Prelude.{◌≡◌, ℕ, ◌+◌, ◌≤◌, List, [], ◌∷◌, length, map}
use Rattle.std.specs.List.{range_with_len}
use Rattle.kcl_defs.specs.Workers.{usual_settings}
use Rattle.kcl_drill.specs.declared.limits.TheConstants.{MOST_WORKERS}
use Rattle.kcl_live.specs.declared.crew.Member.{Member}
use Rattle.kcl_proc.specs.Stocks.{StandsFor as StockStandsFor}
use Rattle.kcl_proc.specs.declared.stock.Kind.{Kind}
use Rattle.kcl_proc.specs.declared.stock.Kind.TheVariants as kind
use Rattle.kcl_proc.specs.declared.stock.Stock.{Stock}
use Rattle.kcl_worker.specs.Standing.{StandsFor}
use Rattle.kds_turn.specs.Passes.{HallValue, PassValue, new_pass}
use Rattle.kcl_drill_run.specs.declared.participants.Participants.{Participants}

-- The member is a new worker with the usual settings, whose processors count records and bytes (`Tally`).
pub record IsMemberOf {M G : Type 0} (name : ℕ) (pass : PassValue) (m : Member M Stock Kind G) : Type 0 where
  pub pass_is : m.pass ≡ pass
  pub made : m.worker.made ≡ record { name = name; settings = usual_settings }
  pub tallies : m.worker.maker ≡ kind.Tally
  pub stands : StandsFor StockStandsFor m.worker []

-- There is one worker for each pass, in order, named by the numbers from `name` on.
abbrev pub AreMembersOf : {M G : Type 0} → (name : ℕ) (ps : List PassValue) (ms : List (Member M Stock Kind G)) → Type
    0
AreMembersOf name [] [] = Unit {0}
AreMembersOf name (p ∷ ps) (m ∷ ms) = IsMemberOf name p m × AreMembersOf (name + 1) ps ms
AreMembersOf name _ _ = ⊥

-- The new passes of the hall with the `count` numbers from `start` on.
abbrev pub new_passes : (hall : HallValue) (start count : ℕ) → List PassValue
new_passes hall start count = map (new_pass hall.id) (range_with_len start count)

-- All passes are dealt out: the first to the root, the second to the feeder, then one to each worker.
pub record AreDealt (hall : HallValue) (p : Participants) : Type 0 where
  pub root : p.root ≡ new_pass hall.id 1
  pub feeder : p.feeder ≡ new_pass hall.id 2
  pub members : AreMembersOf 1 (new_passes hall 3 (length p.members.items)) p.members.items
  pub all : hall.passes ≡ length p.members.items + 2
  pub few : length p.members.items ≤ MOST_WORKERS
