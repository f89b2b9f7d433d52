-- Shards, rows and tenures as lease commands see them, and the journals for which they stand.
use Rattle.std.specs.Prelude.{ℕ, ◌≡◌, ◌≢◌, ◌≤◌, if◌then◌else◌, List, [], ◌∷◌, drop, length, map, Option, None, Result}
use Rattle.std.specs.Prelude.{IfSome}
use Rattle.std.specs.Option.{option_map}
use Rattle.kds_base.specs.declared.lease_key.Checkpoint.TheVariants.{At}
use Rattle.kds_base.specs.declared.lease_key.ShardRef.{ShardRef}
use Rattle.kds_defs.specs.declared.command.Command.{Command}
use Rattle.kds_defs.specs.declared.reply.Refusal.{Refusal}
use Rattle.kds_defs.specs.declared.reply.Reply.{Reply}
use Rattle.kds_defs.specs.declared.reply.Row.{Row}
use Rattle.kds_defs.specs.Histories.{answer_of, decide, lines_of}
use Rattle.kds_defs.specs.Journal.{Journal, Line, with_lines}
use Rattle.kds_defs.specs.Leases.{ReadDone, TenureState, checkpoint_in, delivered, given_reads, last_ended, reach, row}
use Rattle.kds_defs.specs.Leases.{row_keys, taken_count, tenure}
use Rattle.kds_defs.specs.Records.{position_after}
use Rattle.kds_defs.specs.Shards.{ShardState, shard_at}
use Rattle.kds_defs.specs.StreamCommands.{last_number}
use Rattle.kds_defs.specs.Streams.{is_live}
use Rattle.kds_defs.specs.Subjects.{stream_of}
use Rattle.kcl_book.specs.declared.tenure.PendingRead.{PendingRead}
use Rattle.kcl_book.specs.Tenures.{TenureValue, tenure_at}
use Rattle.kcl_table.specs.Rows.{row_of}

-- The shard of the key, if its stream is live.
abbrev pub live_shard : (log : Journal) (key : ShardRef) → Option ShardState
live_shard log key = if is_live log key.stream then shard_at log key.stream key.shard else None

-- The shards as lease commands see them: a clock, and the journals that lead to them.
pub record Facing : Type 1 where
  pub clock : ℕ
  pub shows : Journal → Type 0

-- The shards at this clock, to which the journals in `shows` lead.
abbrev pub facing : (clock : ℕ) (shows : Journal → Type 0) → Facing
facing clock shows = record { clock = clock; shows = shows }

-- One more line at the clock about no stream, and so about a lease, changes no shard.
abbrev pub KeepsShards : (clock : ℕ) (shows : Journal → Type 0) → Type 0
KeepsShards clock shows = (log : Journal) (line : Line) → shows log → line.clock ≡ clock → stream_of line.what ≡ None
    → shows (line ∷ log)

-- The leases as contracts see them, with the tenures in the order of their numbers.
pub record LeasesValue : Type 1 where
  pub shards : Facing
  pub rows : List Row
  pub tenures : List TenureValue

abbrev pub leases : (s : Facing) (rows : List Row) (ts : List TenureValue) → LeasesValue
leases s rows ts = record { shards = s; rows = rows; tenures = ts }

-- The leases with these rows and tenures, over shards at this clock.
abbrev pub over : (clock : ℕ) (shows : Journal → Type 0) (rows : List Row) (ts : List TenureValue) → LeasesValue
over clock shows rows ts = leases (facing clock shows) rows ts

-- ---- Tenures

-- The reads as the book keeps them: each with the position after it, from `position` on.
abbrev pub pending_from : (position : ℕ) (rs : List ReadDone) → List PendingRead
pending_from position [] = []
pending_from position (r ∷ rs) =
    record { reach = position_after position r.numbers; end = r.ended }
    ∷ pending_from (position_after position r.numbers) rs

-- The tenure as the book keeps it, with only the reads not given.
abbrev pub kept : (tenure_state : TenureState) → TenureValue
kept T =
    record {
      by = T.by;
      key = T.key;
      start = T.start;
      opened = T.opened;
      reach = reach T;
      delivered = delivered T;
      pending = pending_from (delivered T) (drop T.given T.reads);
      at_end = last_ended (given_reads T);
    }

-- No more reads are given than were made.
abbrev pub IsGiven : (tenure_state : TenureState) → Type 0
IsGiven T = T.given ≤ length T.reads

-- ---- Rows

-- No two rows have the same key.
abbrev pub AreDistinct : (rs : List Row) → Type 0
AreDistinct [] = Unit {0}
AreDistinct (r ∷ rs) = (row_of rs r.key ≡ None) × AreDistinct rs

-- No checkpoint is the greatest number, so the number after a checkpoint always exists.
abbrev pub AreBounded : (rows : List Row) → Type 0
AreBounded rows = (key : ShardRef) → checkpoint_in (row_of rows key) ≢ At last_number

-- ---- Rows and tenures

-- The leases have the journal's shards, rows and tenures; keys differ, and numbers are within bounds.
pub record Stands (w : LeasesValue) (log : Journal) : Type 0 where
  pub shows : w.shards.shows log
  pub keys_are : row_keys log ≡ map (λ (r : Row). r.key) w.rows
  pub row_is : (key : ShardRef) → row log key ≡ row_of w.rows key
  pub distinct : AreDistinct w.rows
  pub bounded : AreBounded w.rows
  pub count_is : taken_count log ≡ length w.tenures
  pub few : length w.tenures ≤ last_number
  pub tenure_is : (t : ℕ) → option_map kept (tenure log t) ≡ tenure_at w.tenures t
  pub given : (t : ℕ) → IfSome (tenure log t) IsGiven

-- For each journal of the old leases, the answer is the decision's, and the new ones have its lines too.
abbrev pub Leads : (old new : LeasesValue) (actor : ℕ) (command : Command) (gives : Result Reply Refusal) → Type 0
Leads old new actor command gives = (log : Journal) → Stands old log
    → (gives ≡ answer_of (decide log old.shards.clock actor command))
    × Stands new (with_lines (lines_of (decide log old.shards.clock actor command)) log)

-- The command leads from these rows and tenures to the primed ones, with the shards unchanged.
abbrev pub LeadsOver : (clock : ℕ) (shows : Journal → Type 0) (rows : List Row) (ts : List TenureValue)
    (rows' : List Row) (ts' : List TenureValue) (actor : ℕ) (command : Command) (gives : Result Reply Refusal) → Type 0
LeadsOver clock shows rows ts rows' ts' actor command gives =
    Leads (over clock shows rows ts) (over clock shows rows' ts') actor command gives
