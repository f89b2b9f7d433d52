-- A worker's step before and after its stop, and how many turns a stopped worker has left.
use Rattle.std.specs.Prelude.{◌≡◌, ◌⊎◌, ℕ, ◌+◌, ◌<◌, ◌≤◌, List, ◌∷◌, length, None, OnErr, OnOk, Result, true, false}
use Rattle.std.specs.List.{AllByRecursion, filter}
use Rattle.kds_defs.specs.declared.reply.Refusal.{Refusal}
use Rattle.kds_defs.specs.declared.reply.Reply.{Reply}
use Rattle.kcl_defs.specs.declared.consumer.Call.{Call}
use Rattle.kcl_defs.specs.Consumers.{Giving, Leaving, Stage}
use Rattle.kcl_defs.specs.Workers.{AtStopping, Gave_command, Got_answer, WorkerPast, WorkerState, is_giving}
use Rattle.kcl_defs.specs.Workers.{is_stopping, stage_of_known, worker_after}
use Rattle.kcl_worker.specs.Standing.{WorkerStanding}
use Rattle.kds_turn.specs.Known.{Continues, turns_by}
use Rattle.kds_turn.specs.Passes.{IsSamePass, PassValue}
use Rattle.kcl_live.specs.Records.{HasAdded, IsDriven}

-- The same worker and pass later; `q` has seen the turns of `p` and perhaps newer ones.
pub record IsSameRun {P F : Type 0} (w v : WorkerStanding P F) (p q : PassValue) : Type 0 where
  pub kept : IsSamePass q p
  pub made : v.made ≡ w.made
  pub seen : Continues q.seen p.seen

-- On Ok the pass made one turn, a lease command at `moment`, and no command waits; on an error, one or none.
pub record MakesTurn {P F A E : Type 0} (moment : ℕ) (worker : WorkerStanding P F) (p q : PassValue)
    (result : Result A E) :
    Type 0 where
  pub free : OnOk result (worker.waiting ≡ None)
  pub added : OnOk result (HasAdded moment p.own q.own)
  pub added_or_not : OnErr result ((q.own ≡ p.own) ⊎ HasAdded moment p.own q.own)

-- The worker's newest command became a turn at `moment` and was answered; the actor's turns are the pass's own.
pub record HasTurned {P F : Type 0} (stands : P → List Call → Type 0) (p : PassValue) (w : WorkerStanding P F)
    (moment : ℕ)
    (past : WorkerPast) : Type 0 where
  pub answer : Result Reply Refusal
  pub driven : IsDriven stands p.by p.seen p.own w (Got_answer moment answer ∷ (Gave_command moment ∷ past))
  pub alone : turns_by p.by p.seen ≡ p.own

-- Each command became a turn and was answered, and the worker wasn't told to stop.
pub record IsGoing {P F : Type 0} (stands : P → List Call → Type 0) (w : WorkerStanding P F) (p : PassValue) :
    Type 0 where
  pub past : WorkerPast
  pub driven : IsDriven stands p.by p.seen p.own w past
  pub alone : 0 < length p.own → turns_by p.by p.seen ≡ p.own
  pub going : is_stopping (worker_after w.made past).round ≡ false

-- The lease is lost and the consumer not over: a handed batch waits to be given, or the last call is due.
abbrev pub IsLost : (stage : Stage) → Type 0
IsLost (Giving reach waiting asked lost) = lost ≡ true
IsLost (Leaving why) = Unit {0}
IsLost _ = ⊥

-- The most turns that a stopped worker still makes: one per consumer whose next command is a Give, one per lease.
abbrev pub turns_left : (s : WorkerState) → ℕ
turns_left s = length (filter is_giving s.consumers) + length s.held

-- The worker was stopped, and each consumer has lost its lease and isn't over.
pub record IsStopped (s : WorkerState) : Type 0 where
  pub round : s.round ≡ AtStopping
  pub lost : AllByRecursion (λ k. IsLost (stage_of_known k)) s.consumers

-- Each command of the stopped worker was answered; its turns made and left are at most `most`.
pub record IsFinishing {P F : Type 0} (stands : P → List Call → Type 0) (w : WorkerStanding P F) (p : PassValue)
    (most : ℕ) : Type 0 where
  pub past : WorkerPast
  pub driven : IsDriven stands p.by p.seen p.own w past
  pub alone : 0 < length p.own → turns_by p.by p.seen ≡ p.own
  pub stopped : IsStopped (worker_after w.made past)
  pub few : length p.own + turns_left (worker_after w.made past) ≤ most
