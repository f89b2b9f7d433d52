-- Where reading a shard begins, what one read returns, and how far the reader is behind.
use Rattle.std.specs.Prelude.{ℕ, ◌+◌, ◌-◌, List, Option, Some, None}
use Rattle.kds_defs.specs.declared.command.Start.{Start}
use Rattle.kds_defs.specs.declared.command.Start.TheVariants as start
use Rattle.kds_defs.specs.declared.limits.TheConstants.{BATCH_BYTES}
use Rattle.kds_defs.specs.Records.{Logged, beginning, first_at, left_among}

-- Where reading begins; a time later than every record gives `next` (Kinesis API Reference, GetShardIterator).
abbrev pub position_from : (next : ℕ) (left : List Logged) (start : Start) → ℕ
position_from next left (start.At q) = q
position_from next left (start.After q) = q + 1
position_from next left start.TrimHorizon = 0
position_from next left start.Latest = next
position_from next left (start.Time moment) = first_at left moment next

-- The longest batch at `position` within `limit` records and BATCH_BYTES (Kinesis API Reference, GetRecords).
abbrev pub batch_among : (floor position limit : ℕ) (rs : List Logged) → List Logged
batch_among floor position limit rs = beginning limit BATCH_BYTES (left_among floor position rs)

-- The milliseconds from a moment to `clock`, or 0 for none or a later one.
abbrev pub behind_by : (clock : ℕ) (moment : Option ℕ) → ℕ
behind_by clock None = 0
behind_by clock (Some moment) = clock - moment
