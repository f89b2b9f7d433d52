-- A worker whose commands are its pass's turns has its processors called for their given reads, by `law`.
use Rattle.std.proofs.Common.{ℕ, List, ◌∷◌, inl, inr}
use Rattle.kds_defs.specs.declared.command.Turn.{Turn}
use Rattle.kcl_defs.specs.declared.consumer.Call.{Call}
use Rattle.kcl_defs.specs.WorkerLives.{IsToldIn}
use Rattle.kcl_defs.specs.Workers.{Gave_command, WorkerPast}
use Rattle.kcl_worker.specs.Standing.{AreServedIn, StandsFor, WorkerStanding}
use Rattle.kds_turn.specs.declared.pass.TurnErr.{TurnErr}
use Rattle.kds_turn.specs.Passes.{PassValue}
use Rattle.kcl_live.specs.Records.{AreServedLater, IsDriven}
use Rattle.kcl_live.specs.Runs.{AreServedSoFar, HasRun, WasCut}

module _ {P F : Type 0} (stands : P → List Call → Type 0) (w : WorkerStanding P F)
    (law : (actor : ℕ) (h : List Turn) (past : WorkerPast) → StandsFor stands w past → IsToldIn actor h w.made past
    → AreServedIn stands actor h w) where
  driven_served : (actor : ℕ) (seen own : List Turn) (past : WorkerPast) → IsDriven stands actor seen own w past
      → AreServedLater stands actor seen own w
  driven_served actor seen own past d = λ h c same. law actor h past d.stood (d.told h c same)

  pub run_served : (p : PassValue) → HasRun stands w p → AreServedLater stands p.by p.seen p.own w
  run_served p r = driven_served p.by p.seen p.own r.past r.driven

  pub cut_served : (p : PassValue) (e : TurnErr) → WasCut stands w p e → AreServedSoFar stands w p
  cut_served p e (inl f) = inl (run_served p f.run)
  cut_served p e (inr (inl f)) = inl (driven_served p.by p.seen p.own (Gave_command f.at ∷ f.past) f.driven)
  cut_served p e (inr (inr f)) = inr (record {
    last = f.last;
    older = f.older;
    before = f.before;
    seen = f.seen;
    own = f.own;
    served = driven_served p.by f.older f.before (Gave_command f.at ∷ f.past) f.driven;
  })
