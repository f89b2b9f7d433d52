-- How the code finds a worker's next command from its consumers and leases.
use Rattle.std.specs.Prelude.{ℕ, ◌≡◌, false, List, Option, Some, None}
use Rattle.std.specs.List.{AllByRecursion, find}
use Rattle.kds_defs.specs.declared.command.Command.{Command}
use Rattle.kcl_defs.specs.declared.consumer.Call.{Call}
use Rattle.kcl_defs.specs.declared.consumer.WorkerMade.{WorkerMade}
use Rattle.kcl_defs.specs.declared.plans.Held.{Held}
use Rattle.kcl_defs.specs.declared.plans.SyncStep.{SyncStep}
use Rattle.kcl_defs.specs.declared.plans.TakeStep.{TakeStep}
use Rattle.kcl_defs.specs.Consumers.{due_call, over_at}
use Rattle.kds_defs.specs.Kinds.{is_service}
use Rattle.kds_defs.specs.Lawful.{IsLawfulCommand}
use Rattle.kcl_defs.specs.Workers.{Chore, WorkerState, chore_from, command_of, is_giving, stopping_chore}
use Rattle.kcl_consumer.specs.Standing.{ConsumerValue}
use Rattle.kcl_worker.specs.declared.round.Awaited.{Awaited}
use Rattle.kcl_worker.specs.declared.round.Part.{Part}
use Rattle.kcl_worker.specs.Parts.{chore_of, round_of}
use Rattle.kcl_worker.specs.Standing.{ConsumersStand}
use Rattle.kcl_worker_lists.specs.Lists.{due_in}

-- A command of the consumer comes next: no call of its processor is due, and it isn't over.
abbrev pub IsReady : {P : Type 0} → (c : ConsumerValue P) → Type 0
IsReady c = (due_call c.stage ≡ None) × (over_at c.stage ≡ None)

-- There is a chore, stored as `awaited` beside the steps left, and `asked` is its command.
pub record IsGiven (made : WorkerMade) (s : WorkerState) (syncs : List SyncStep) (takes : List TakeStep)
    (chore : Option Chore) (awaited : Awaited)
    (asked : Command) : Type 0 where
  pub which : Chore
  pub is : chore ≡ Some which
  pub asks : chore_of awaited syncs takes ≡ Some which
  pub command : command_of made s which ≡ Some asked

-- In each state with these consumers and leases, `next` is the chore as stored, and its command.
abbrev pub IsNext : {P : Type 0} → (stands : P → List Call → Type 0) (cs : List (ConsumerValue P)) (held : List Held)
    (made : WorkerMade) (syncs : List SyncStep) (takes : List TakeStep) (chore : WorkerState → Option Chore)
    (next : Awaited × Command) → Type 0
IsNext stands cs held made syncs takes chore next = (s : WorkerState) → ConsumersStand stands cs s.consumers
    → held ≡ s.held
    → IsGiven made s syncs takes (chore s) next.0 next.1

-- `next` is the chore as stored and its command, whatever the worker's settings and plans.
abbrev pub IsNextOfAny : {P : Type 0}
    → (stands : P → List Call → Type 0) (cs : List (ConsumerValue P)) (held : List Held)
    (chore : WorkerState → Option Chore) (next : Awaited × Command) → Type 0
IsNextOfAny stands cs held chore next = (made : WorkerMade) (syncs : List SyncStep) (takes : List TakeStep)
    → IsNext stands cs held made syncs takes chore next

-- No state with these consumers and leases has a chore.
abbrev pub HasNoChore : {P : Type 0}
    → (stands : P → List Call → Type 0) (cs : List (ConsumerValue P)) (held : List Held)
    (chore : WorkerState → Option Chore) → Type 0
HasNoChore stands cs held chore = (s : WorkerState) → ConsumersStand stands cs s.consumers → held ≡ s.held
    → chore s ≡ None

-- The next chore at `now` in this part of the round, with these steps left, if any.
abbrev pub chore_in : (made : WorkerMade) (now : ℕ) (part : Part) (syncs : List SyncStep) (takes : List TakeStep)
    (s : WorkerState) → Option Chore
chore_in made now part syncs takes s = chore_from made.settings.failover now s (round_of part syncs takes)

-- A stopped worker's next chore, if any: the first Give of a consumer, or else the freeing of the first lease.
abbrev pub chore_at_stop : (s : WorkerState) → Option Chore
chore_at_stop s = stopping_chore s (find is_giving s.consumers)

-- A command on leases whose arguments are within the ranges of the API.
abbrev pub IsLeaseCommand : (command : Command) → Type 0
IsLeaseCommand command = IsLawfulCommand command × (is_service command ≡ false)

-- If a command waits for its answer, no processor call is due.
abbrev pub IsAsking : {P : Type 0} → (chore : Option Chore) (cs : List (ConsumerValue P)) → Type 0
IsAsking None cs = Unit {0}
IsAsking (Some chore) cs = due_in cs ≡ None

-- No consumer is over.
abbrev pub NoneOver : {P : Type 0} → (cs : List (ConsumerValue P)) → Type 0
NoneOver cs = AllByRecursion (λ c. over_at c.stage ≡ None) cs
