-- The state of the machine as contracts see it, and what it stands for.
use Rattle.std.specs.Prelude.{ℕ, ◌≡◌, List, [], ◌∷◌, length, Result}
use Rattle.kds_defs.specs.declared.command.Command.{Command}
use Rattle.kds_defs.specs.declared.command.Turn.{Turn}
use Rattle.kds_defs.specs.declared.reply.Refusal.{Refusal}
use Rattle.kds_defs.specs.declared.reply.Reply.{Reply}
use Rattle.kds_defs.specs.declared.reply.Row.{Row}
use Rattle.kds_defs.specs.Histories.{clock as clock_of, journal}
use Rattle.kds_defs.specs.Journal.{Journal}
use Rattle.kds_defs.specs.Streams.{live_streams}
use Rattle.kcl_book.specs.Tenures.{TenureValue}
use Rattle.kcl_leases.specs.Standing as lease
use Rattle.kcl_leases.specs.Standing.{LeasesValue, over}
use Rattle.kds_service.specs.Clocks.{next_in_rotation}
use Rattle.kds_service.specs.Shown.{ServiceValue, ShowsAll}

-- The machine's state: the stream service, the lease rows, and the tenures by number.
pub record WorldValue : Type 0 where
  pub service : ServiceValue
  pub rows : List Row
  pub tenures : List TenureValue

-- The machine with these parts.
abbrev pub world : (s : ServiceValue) (rows : List Row) (ts : List TenureValue) → WorldValue
world s rows ts = record { service = s; rows = rows; tenures = ts }

-- The machine as lease commands see it, with the shards at the service's clock.
abbrev pub leased : (w : WorldValue) → LeasesValue
leased w = over w.service.clock (ShowsAll w.service) w.rows w.tenures

-- The machine has the streams, rows and tenures of the journal.
abbrev pub Stands : (w : WorldValue) (log : Journal) → Type 0
Stands w log = lease.Stands (leased w) log

-- For each journal of `old`, `gives` is the answer to the command at the clock, and `new` has the lines added.
abbrev pub Leads : (old new : WorldValue) (actor : ℕ) (command : Command) (gives : Result Reply Refusal) → Type 0
Leads old new actor command gives = lease.Leads (leased old) (leased new) actor command gives

-- The index of the live stream that is settled next; each turn settles one, in rotation.
abbrev pub next_to_settle_of : (h : List Turn) → ℕ
next_to_settle_of [] = 0
next_to_settle_of (turn ∷ h) = next_in_rotation (length (live_streams (journal (turn ∷ h)))) (next_to_settle_of h)

-- The machine has the history's clock, its journal's state, and its next stream to settle.
pub record StandsFor (w : WorldValue) (h : List Turn) : Type 0 where
  pub clock_is : w.service.clock ≡ clock_of h
  pub stands : Stands w (journal h)
  pub next_to_settle_is : w.service.next_to_settle ≡ next_to_settle_of h
