-- The invariant that relates several fields of a worker.
use Rattle.std.specs.Prelude.{ℕ, ◌+◌, ◌≤◌, List, Option}
use Rattle.kcl_defs.specs.declared.consumer.Ask.{Ask}
use Rattle.kcl_defs.specs.Workers.{Chore}
use Rattle.kds_defs.specs.declared.reply.Stored.{Stored}
use Rattle.kds_defs.specs.Lawful.{IsLimit}
use Rattle.kcl_consumer.specs.Standing.{ConsumerValue}
use Rattle.kcl_worker.specs.Asks.{AskWithin}
use Rattle.kcl_worker.specs.Outlook.{IsAsking, NoneOver}

-- The invariant of a worker; `room` is the capacity of the retired list, enough for all its consumers.
pub record IsWorker {P : Type 0} (asks : P → List Stored → Ask → Type 0) (may : List Stored → Ask → Type 0)
    (name most : ℕ) (chore : Option Chore) (cs : List (ConsumerValue P)) (retired many room : ℕ) : Type 0 where
  pub live : NoneOver cs
  pub quiet : IsAsking chore cs
  pub fits : retired + many ≤ room
  pub named : 1 ≤ name
  pub limited : IsLimit most
  pub within : AskWithin asks may cs
