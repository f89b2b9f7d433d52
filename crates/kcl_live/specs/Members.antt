-- A member is a worker on a thread of its own with its pass: what holds before and after its run.
use Rattle.std.specs.Prelude.{◌≡◌, ℕ, ◌*◌, ◌≤◌, true, List, [], length, OnOk, OnErr, IfErr}
use Rattle.kcl_defs.specs.declared.consumer.Call.{Call}
use Rattle.kcl_worker.specs.Standing.{StandsFor, is_idle_in}
use Rattle.kds_turn.specs.Known.{Continues}
use Rattle.kds_turn.specs.Passes.{HallValue}
use Rattle.kcl_live.specs.declared.crew.Member.{Member}
use Rattle.kcl_live.specs.Records.{AreOnLeasesAt, AreServedLater}
use Rattle.kcl_live.specs.Runs.{AreServedSoFar, HasRun, WasCut}

module _ {M P F G : Type 0} (stands : P → List Call → Type 0) where
  -- Nothing has happened to the worker yet, and its pass has no turns of its own.
  abbrev pub IsReady : (hall : HallValue) (m : Member M P F G) → Type 0
  IsReady hall m = (m.pass.hall ≡ hall.id) × (m.pass.own ≡ []) × StandsFor stands m.worker []

  -- The worker made from `turns` to 3 * `turns` turns, and is idle and served, or an error cut it short.
  pub record HasEnded (turns tick : ℕ) (old new : Member M P F G) : Type 0 where
    pub kept : (new.pass.hall ≡ old.pass.hall) × (new.pass.by ≡ old.pass.by)
        × (new.pass.joined ≡ old.pass.joined)
    pub made : new.worker.made ≡ old.worker.made
    pub seen : Continues new.pass.seen old.pass.seen
    pub moments : AreOnLeasesAt tick new.pass.own
    pub most : length new.pass.own ≤ 3 * turns
    pub ok : OnOk new.outcome (HasRun stands new.worker new.pass)
    pub least : OnOk new.outcome (turns ≤ length new.pass.own)
    pub idle : OnOk new.outcome (is_idle_in new.worker ≡ true)
    pub err : IfErr new.outcome (λ e. WasCut stands new.worker new.pass e)
    pub served : OnOk new.outcome (AreServedLater stands new.pass.by new.pass.seen new.pass.own new.worker)
    pub served_so_far : OnErr new.outcome (AreServedSoFar stands new.worker new.pass)
