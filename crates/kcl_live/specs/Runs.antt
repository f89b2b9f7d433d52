-- How the run of a worker ends: without an error, or cut short by one.
use Rattle.std.specs.Prelude.{◌≡◌, ◌↔◌, ◌⊎◌, ℕ, ◌+◌, ◌*◌, ◌^◌, ◌<◌, ◌≤◌, List, ◌∷◌, length, true, IfErr, IsSome, OnOk}
use Rattle.std.specs.Prelude.{Result}
use Rattle.kds_defs.specs.declared.command.Turn.{Turn}
use Rattle.kcl_defs.specs.declared.consumer.Call.{Call}
use Rattle.kcl_defs.specs.Workers.{Gave_command, WorkerPast, worker_after}
use Rattle.kcl_worker_lists.specs.Lists.{due_in}
use Rattle.kcl_worker.specs.Standing.{WorkerStanding, is_idle_in}
use Rattle.kds_turn.specs.Known.{turns_by}
use Rattle.kds_turn.specs.declared.pass.TurnErr.{TurnErr}
use Rattle.kds_turn.specs.declared.pass.TurnErr.TheVariants as failed
use Rattle.kds_turn.specs.Passes.{PassValue}
use Rattle.kcl_live.specs.Records.{AreOnLeasesAt, AreServedLater, IsDriven, with_turn}

module _ {P F : Type 0} (stands : P → List Call → Type 0) (w : WorkerStanding P F) (p : PassValue) where
  -- Each command became a turn and was answered; a pass with own turns has seen no others of its actor.
  pub record HasRun : Type 0 where
    pub past : WorkerPast
    pub driven : IsDriven stands p.by p.seen p.own w past
    pub alone : 0 < length p.own → turns_by p.by p.seen ≡ p.own

  -- Memory ran out in a processor call, which is still due; all commands were answered.
  pub record CallFailed (e : TurnErr) : Type 0 where
    pub error : e ≡ failed.Memory
    pub due : IsSome (due_in w.consumers)
    pub run : HasRun

  -- The last command became no turn and still waits; Spent exactly if the pass has seen 2^64 - 1 turns.
  pub record TurnFailed (e : TurnErr) : Type 0 where
    pub spent : (e ≡ failed.Spent) ↔ (length p.seen + 1 ≡ 2 ^ 64)
    pub waits : IsSome w.waiting
    pub past : WorkerPast
    pub at : ℕ
    pub driven : IsDriven stands p.by p.seen p.own w (Gave_command at ∷ past)

  -- The last command became the turn `last`, but memory ran out while its answer was taken.
  pub record AnswerFailed (e : TurnErr) : Type 0 where
    pub error : e ≡ failed.Memory
    pub waits : IsSome w.waiting
    pub past : WorkerPast
    pub at : ℕ
    pub last : Turn
    pub older : List Turn
    pub before : List Turn
    pub seen : p.seen ≡ last ∷ older
    pub own : p.own ≡ last ∷ before
    pub alone : turns_by p.by older ≡ before
    pub is_last : with_turn p.by at (worker_after w.made (Gave_command at ∷ past)).waiting before ≡ last ∷ before
    pub driven : IsDriven stands p.by older before w (Gave_command at ∷ past)

  -- The error cut the run short: in a call, before a turn, or while an answer was taken.
  abbrev pub WasCut : (e : TurnErr) → Type 0
  WasCut e = CallFailed e ⊎ TurnFailed e ⊎ AnswerFailed e

  -- Own turns are lease commands, at most 3 * `turns`, the k-th at k * `tick`; the worker is idle, or was cut short.
  pub record RunsToIdle {A : Type 0} (tick turns : ℕ) (result : Result A TurnErr) : Type 0 where
    pub moments : AreOnLeasesAt tick p.own
    pub most : length p.own ≤ 3 * turns
    pub idle : OnOk result (is_idle_in w ≡ true)
    pub ok : OnOk result HasRun
    pub err : IfErr result WasCut

  -- The processors are called for the reads given before `last`, the pass's newest turn.
  pub record AreServedBeforeLast : Type 0 where
    pub last : Turn
    pub older : List Turn
    pub before : List Turn
    pub seen : p.seen ≡ last ∷ older
    pub own : p.own ≡ last ∷ before
    pub served : AreServedLater stands p.by older before w

  -- The processors are called for the reads given after all own turns, or after all but the last.
  abbrev pub AreServedSoFar : Type 0
  AreServedSoFar = AreServedLater stands p.by p.seen p.own w ⊎ AreServedBeforeLast
