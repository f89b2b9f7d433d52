-- The next sequence number of a stream, the records of its shards, and the batch that a read returns.
use Rattle.std.specs.Prelude.{ℕ, zero, suc, ◌+◌, ◌-◌, ◌==◌, ◌&&◌, not, nat_le, nat_lt, if◌then◌else◌, Bool, List, []}
use Rattle.std.specs.Prelude.{◌∷◌, ◌++◌, length, map}
use Rattle.std.specs.List.{filter}
use Rattle.kds_defs.specs.declared.entry.Entry.{Entry}
use Rattle.kds_defs.specs.declared.entry.Entry.TheVariants as entry
use Rattle.kds_defs.specs.declared.reply.Stored.{Stored}
use Rattle.kds_defs.specs.declared.limits.TheConstants.{BATCH_BYTES}
use Rattle.kds_defs.specs.Journal.{Line, Journal}
use Rattle.kds_defs.specs.Streams.{is_live, trim_floor}

-- How many sequence numbers of the stream an entry takes.
abbrev pub draws : (entry : Entry) (s : ℕ) → ℕ
draws (entry.Put stream shard seq hash bytes key_bytes) s = if stream == s then 1 else 0
draws (entry.Split stream shard key_hash seq low high) s = if stream == s then 1 else 0
draws (entry.Merged stream shard other seq child) s = if stream == s then 1 else 0
draws _ s = 0

-- The stream's next sequence number: 1 plus the number of its puts, splits and merges so far.
abbrev pub next_number : (log : Journal) (s : ℕ) → ℕ
next_number [] s = 1
next_number (line ∷ log) s = draws line.what s + next_number log s

-- A record of a shard; `bytes` counts its payload and key together.
pub record Logged : Type 0 where
  pub seq : ℕ
  pub arrival : ℕ
  pub bytes : ℕ
  pub key : List ℕ
  pub payload : List ℕ

-- A record as a read returns it.
abbrev pub stored : (r : Logged) → Stored
stored r = record { seq = r.seq; arrival = r.arrival; key = r.key; payload = r.payload }

-- A record that a read returned, with its number of bytes.
abbrev pub logged : (r : Stored) → Logged
logged r = record {
  seq = r.seq;
  arrival = r.arrival;
  bytes = length r.payload + length r.key;
  key = r.key;
  payload = r.payload;
}

-- The value of `records` after `line` with this entry.
abbrev pub records_after : (line : Line) (entry : Entry) (s sh : ℕ) (old : List Logged) → List Logged
records_after line (entry.Put stream shard seq hash bytes key_bytes) s sh old =
    if (stream == s) && (shard == sh)
    then old ++ (record {
      seq = seq;
      arrival = line.clock;
      bytes = bytes + key_bytes;
      key = line.key;
      payload = line.payload;
    } ∷ [])
    else old
records_after line _ s sh old = old

-- All records of a shard, also trimmed ones, in the order of their puts (Kinesis API Reference, Record).
abbrev pub records : (log : Journal) (s sh : ℕ) → List Logged
records [] s sh = []
records (line ∷ log) s sh = records_after line line.what s sh (records log s sh)

-- ---- The batch from any list of records

-- Whether a record is left for a reader: it arrived at `floor` or later, and is at `position` or above.
abbrev pub is_left : (floor position : ℕ) (r : Logged) → Bool
is_left floor position r = not (nat_lt r.arrival floor) && nat_le position r.seq

-- The records that are left for a reader.
abbrev pub left_among : (floor position : ℕ) (rs : List Logged) → List Logged
left_among floor position rs = filter (is_left floor position) rs

-- The longest prefix within `limit` records and `room` bytes of payloads and keys.
abbrev pub beginning : (limit room : ℕ) (rs : List Logged) → List Logged
beginning zero room rs = []
beginning (suc limit) room [] = []
beginning (suc limit) room (r ∷ rs) =
    if nat_le r.bytes room then r ∷ beginning limit (room - r.bytes) rs else []

-- The records' sequence numbers, in order.
abbrev pub numbers_of : (rs : List Logged) → List ℕ
numbers_of rs = map (λ r. r.seq) rs

-- One above the last number in a read at `position`, or `position` if the read is empty.
abbrev pub position_after : (position : ℕ) (ns : List ℕ) → ℕ
position_after position [] = position
position_after position (n ∷ ns) = position_after (n + 1) ns

-- ---- The batch from a shard

-- The shard's untrimmed records from `position` on; a stream that isn't live has none.
abbrev pub left_from : (log : Journal) (c s sh position : ℕ) → List Logged
left_from log c s sh position =
    if is_live log s then left_among (trim_floor log c s) position (records log s sh) else []

-- The longest prefix of `left_from` within a read's limits on count and bytes (Kinesis API Reference, GetRecords).
abbrev pub batch : (log : Journal) (c s sh position limit : ℕ) → List Logged
batch log c s sh position limit = beginning limit BATCH_BYTES (left_from log c s sh position)

-- The sequence number of the first record that arrived at `moment` or later (AT_TIMESTAMP), `otherwise` if none did.
abbrev pub first_at : (rs : List Logged) (moment otherwise : ℕ) → ℕ
first_at [] moment otherwise = otherwise
first_at (r ∷ rs) moment otherwise = if nat_le moment r.arrival then r.seq else first_at rs moment otherwise
