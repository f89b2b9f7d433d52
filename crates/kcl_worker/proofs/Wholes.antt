-- When the invariant `IsWorker` still holds after a call.
use Rattle.std.proofs.Common.{ℕ, ◌+◌, ◌≤◌, List, Option}
use Rattle.kcl_defs.specs.declared.consumer.Ask.{Ask}
use Rattle.kcl_defs.specs.Workers.{Chore}
use Rattle.kds_defs.specs.declared.reply.Stored.{Stored}
use Rattle.kcl_consumer.specs.Standing.{ConsumerValue}
use Rattle.kcl_worker.specs.Asks.{AskWithin}
use Rattle.kcl_worker.specs.Outlook.{IsAsking, NoneOver}
use Rattle.kcl_worker.specs.Whole.{IsWorker}

-- Primed names are the values after the call.
pub still_worker : {P : Type 0} {asks : P → List Stored → Ask → Type 0} {may other : List Stored → Ask → Type 0}
    {name most retired many room retired' many' room' : ℕ} {chore chore' : Option Chore} {cs cs' :
    List (ConsumerValue P)}
    → IsWorker asks may name most chore cs retired many room → NoneOver cs' → IsAsking chore' cs'
    → retired' + many' ≤ room' → AskWithin asks other cs'
    → IsWorker asks other name most chore' cs' retired' many' room'
still_worker old live quiet fits within = record {
  live = live;
  quiet = quiet;
  fits = fits;
  named = old.named;
  limited = old.limited;
  within = within;
}
