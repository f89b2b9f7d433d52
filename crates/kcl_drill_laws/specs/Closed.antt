-- A drill's history once its threads have ended, and the accounts of root, feeder and members.
use Rattle.std.specs.Prelude.{◌≡◌, ℕ, ◌+◌, ◌*◌, ◌/◌, ◌≤◌, ◌==◌, false, List, ◌∷◌, length, Some}
use Rattle.std.specs.List.{AllByRecursion}
use Rattle.kds_defs.specs.declared.command.Command.{Command}
use Rattle.kds_defs.specs.declared.command.Command.TheVariants as command
use Rattle.kds_defs.specs.declared.command.Origin.TheVariants as origin
use Rattle.kds_defs.specs.declared.command.Turn.{Turn}
use Rattle.kds_base.specs.declared.lease_key.ShardRef.{ShardRef}
use Rattle.kds_defs.specs.declared.reply.Row.{Row}
use Rattle.kds_defs.specs.Journal.{Journal}
use Rattle.kds_defs.specs.Kinds.{is_service}
use Rattle.kds_defs.specs.Leases.{origin_of, row}
use Rattle.kds_defs.specs.Lawful.{IsHistory, IsLawful}
use Rattle.kds_turn.specs.declared.view.Account.{Account}
use Rattle.kds_turn.specs.Known.{Continues, account}
use Rattle.kds_turn.specs.Passes.{PassValue, AreAllBy, IsSplitInto}
use Rattle.kcl_live.specs.Records.{AreOnLeasesAt}
use Rattle.kcl_drill_threads.specs.Feeding.{HasFed, HasFedSoFar}
use Rattle.kcl_drill.specs.declared.limits.TheConstants.{MEMBER_TURNS, MOST_RECORDS, MOST_WORKERS, RECORDS_A_TURN, TICK}

-- A drill may give the command; one that makes a row must ask for the origin TRIM_HORIZON.
abbrev pub IsDrillCommand : (asked : Command) → Type 0
IsDrillCommand (command.Create name count) = Unit {0}
IsDrillCommand (command.Put name item) = Unit {0}
IsDrillCommand (command.Split name sh hash) = Unit {0}
IsDrillCommand (command.Merge name sh other) = Unit {0}
IsDrillCommand (command.MakeLease key beginning) = beginning ≡ origin.TrimHorizon
IsDrillCommand asked = is_service asked ≡ false

-- Each turn has a command that a drill may give.
abbrev pub AreDrillTurns : (h : List Turn) → Type 0
AreDrillTurns h = AllByRecursion (λ turn. IsDrillCommand turn.what) h

-- The account has at most as many turns as a member may make with `records` records.
abbrev pub IsFew : (records : ℕ) (a : Account) → Type 0
IsFew records a = length a.turns ≤ 3 * (MEMBER_TURNS + records / RECORDS_A_TURN)

-- A member's account after its run: few turns on leases, one each tick, and rows made from TRIM_HORIZON.
pub record IsMemberAccount (records : ℕ) (a : Account) : Type 0 where
  pub moments : AreOnLeasesAt TICK a.turns
  pub most : IsFew records a
  pub horizon : AreDrillTurns a.turns

-- The accounts of the root, the feeder and the members.
abbrev pub all_accounts : (root feeder : PassValue) (members : List Account) → List Account
all_accounts root feeder members = account root.by root.own ∷ account feeder.by feeder.own ∷ members

-- The history of a drill whose threads all ended without an error: only their turns.
pub record IsClosed (number records : ℕ) (root feeder : PassValue) (members : List Account) (h : List Turn) :
    Type 0 where
  pub limit : records ≤ MOST_RECORDS
  pub few : length members ≤ MOST_WORKERS
  pub apart : (root.by == feeder.by) ≡ false
  pub fed : HasFed number records root feeder
  pub ran : AllByRecursion (IsMemberAccount records) members
  pub history : IsHistory h
  pub seen : Continues h feeder.seen
  pub all : AreAllBy (all_accounts root feeder members) h
  pub own : IsSplitInto (all_accounts root feeder members) h

-- The history of a drill whose threads may have ended early: only their turns.
pub record IsStopped (number records : ℕ) (root feeder : PassValue) (members : List Account) (h : List Turn) :
    Type 0 where
  pub limit : records ≤ MOST_RECORDS
  pub few : length members ≤ MOST_WORKERS
  pub fed : HasFedSoFar number records root feeder
  pub ran : AllByRecursion (IsFew records) members
  pub all : AreAllBy (all_accounts root feeder members) h
  pub own : IsSplitInto (all_accounts root feeder members) h

-- The turns are lawful turns on leases, by the actor `actor` at the moment `moment`.
abbrev pub AreLeased : (actor moment : ℕ) (more : List Turn) → Type 0
AreLeased actor moment more =
    AllByRecursion (λ turn. (turn.by ≡ actor) × (turn.at ≡ moment) × (is_service turn.what ≡ false) × IsLawful turn)
    more

-- Each row in the journal was made with the origin TRIM_HORIZON.
abbrev pub AreFromHorizon : (log : Journal) → Type 0
AreFromHorizon log = (key : ShardRef) (r : Row) → row log key ≡ Some r → origin_of log key ≡ Some origin.TrimHorizon
