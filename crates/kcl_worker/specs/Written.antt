-- An answer to a command that may write a row, as a worker uses it: a counter, none, or a refusal.
use Rattle.std.specs.Prelude.{ℕ, ◌≡◌, ◌&&◌, Bool, if◌then◌else◌, List, Option, Some, None, Result, Ok, Err}
use Rattle.kcl_defs.specs.declared.consumer.Call.{Call}
use Rattle.kcl_defs.specs.declared.plans.Held.{Held}
use Rattle.kcl_defs.specs.declared.plans.TenancyId.{TenancyId}
use Rattle.kds_defs.specs.declared.reply.Refusal.{Refusal}
use Rattle.kds_defs.specs.declared.reply.Reply.{Reply}
use Rattle.kds_defs.specs.declared.reply.Reply.TheVariants as reply
use Rattle.kcl_defs.specs.Consumers.{Losing, Stage}
use Rattle.kcl_defs.specs.Workers.{WorkerState, after_renewal, happens_to, held_after, id_of, id_of_held}
use Rattle.kcl_defs.specs.Workers.{opens_or_marks, renewed, same_id, without_held}
use Rattle.kcl_consumer.specs.Standing.{ConsumerValue}
use Rattle.kcl_worker.specs.declared.answers.Taken.{Taken}
use Rattle.kcl_worker.specs.declared.answers.RowAnswer.{RowAnswer}
use Rattle.kcl_worker.specs.declared.answers.RowAnswer.TheVariants as row_answer
use Rattle.kcl_worker.specs.Standing.{ConsumersStand}

-- The leases after an answer: a counter in it is set as of `now`; a loss at OpenShard or Mark drops the lease.
abbrev pub held_by : (now : ℕ) (id : TenancyId) (opened_or_marked : Bool) (row_answer : RowAnswer) (held : List Held)
    → List Held
held_by now id opened_or_marked (row_answer.Counter counter) held = renewed id counter now held
held_by now id opened_or_marked row_answer.NoCounter held = held
held_by now id opened_or_marked (row_answer.Refused loss) held =
    if loss && opened_or_marked then without_held id held else held

-- After a renewal's answer: a counter is set as of `now`; a refusal drops the lease, and the consumer learns of it.
abbrev pub renewal_by : (now : ℕ) (h : Held) (row_answer : RowAnswer) (w : WorkerState) → WorkerState
renewal_by now h (row_answer.Counter counter) w = record w { held = renewed (id_of_held h) counter now w.held }
renewal_by now h row_answer.NoCounter w = w
renewal_by now h (row_answer.Refused loss) w = record w {
  held = without_held (id_of_held h) w.held;
  consumers = happens_to (λ k. same_id (id_of k) (id_of_held h)) Losing w.consumers;
}

-- `w` changes the worker as `answer` does, for renewals and for consumers' commands.
pub record IsWritten (answer : Result Reply Refusal) (w : RowAnswer) : Type 0 where
  pub renewal : (now : ℕ) (h : Held) (s : WorkerState) → after_renewal now h answer s ≡ renewal_by now h w s
  pub held : (now : ℕ) (id : TenancyId) (stage : Stage) (held : List Held)
      → held_after now id stage answer held ≡ held_by now id (opens_or_marks stage) w held

-- `t` is `s` but for the leases `held` and the consumers, for which `cs` stand.
pub record Leaves {P : Type 0} (stands : P → List Call → Type 0) (s t : WorkerState) (held : List Held)
    (cs : List (ConsumerValue P)) : Type 0 where
  pub held_so : held ≡ t.held
  pub consumers : ConsumersStand stands cs t.consumers
  pub round : t.round ≡ s.round
  pub waiting : t.waiting ≡ s.waiting
  pub seen : t.seen ≡ s.seen
  pub retired : t.retired ≡ s.retired

-- `change` leads from these leases and consumers to those after it, and changes nothing else.
abbrev pub LeadsTo : {P : Type 0}
    → (stands : P → List Call → Type 0) (change : WorkerState → WorkerState) (held : List Held)
    (cs : List (ConsumerValue P)) (held_after : List Held) (cs_after : List (ConsumerValue P)) → Type 0
LeadsTo stands change held cs held_after cs_after = (s : WorkerState) → held ≡ s.held
    → ConsumersStand stands cs s.consumers
    → Leaves stands s (change s) held_after cs_after

-- `o` is what an accepted Take reports, and None for any other answer.
abbrev pub IsTaken : (result : Result Reply Refusal) (o : Option Taken) → Type 0
IsTaken (Ok (reply.Taken tenure counter start)) o =
    o ≡ Some (record { tenure = tenure; counter = counter; start = start })
IsTaken (Ok _) o = o ≡ None
IsTaken (Err r) o = o ≡ None
