-- What is true of every journal that a machine can leave, in five parts.
use Rattle.std.specs.Prelude.{ℕ, ◌+◌, ◌^◌, ◌<◌, ◌≤◌, ◌≡◌, ◌⊎◌, true, if◌then◌else◌, List, [], ◌∷◌, ◌++◌, map, Option}
use Rattle.std.specs.Prelude.{Some, None}
use Rattle.std.specs.List.{AllByRecursion}
use Rattle.kds_base.specs.Span.{Span, covers, Covers}
use Rattle.kds_base.specs.declared.lease_key.Checkpoint.{Checkpoint}
use Rattle.kds_base.specs.declared.lease_key.Checkpoint.TheVariants.{TrimHorizon, At, ShardEnd}
use Rattle.kds_base.specs.declared.lease_key.ShardRef.{ShardRef}
use Rattle.kds_defs.specs.declared.entry.Entry.{Entry}
use Rattle.kds_defs.specs.declared.entry.Entry.TheVariants as entry
use Rattle.kds_defs.specs.declared.reply.Row.{Row}
use Rattle.kds_defs.specs.Journal.{Journal}
use Rattle.kds_defs.specs.Leases.{row, counter_in, tenure_in, is_marked_to_end, tenure, TenureState, ReadDone}
use Rattle.kds_defs.specs.Leases.{given_reads}
use Rattle.kds_defs.specs.Leases.{key_of}
use Rattle.kds_defs.specs.Records.{Logged, records, next_number}
use Rattle.kds_defs.specs.Shards.{ShardState, shard_at, is_open, open_shards, is_expired}
use Rattle.kds_defs.specs.Keys.{ref}
use Rattle.kds_defs.specs.Streams.{was_made, is_trimmed}

-- ---- Partition of the keys (guide on resharding)

-- The number of ranges that contain the key.
abbrev pub times_covered : (rs : List Span) (k : ℕ) → ℕ
times_covered [] k = 0
times_covered (r ∷ rs) k = (if covers r k then 1 else 0) + times_covered rs k

-- Each hash key lies in exactly one range.
abbrev pub IsPartition : (ranges : List Span) → Type 0
IsPartition ranges = (k : ℕ) → k < 2 ^ 128 → times_covered ranges k ≡ 1

-- The ranges of the stream's open shards.
abbrev pub open_ranges : (log : Journal) (s : ℕ) → List Span
open_ranges log s = map (λ x. x.range) (open_shards log s)

-- In each stream that was made, each hash key lies in the range of exactly one open shard.
abbrev pub HasPartitions : (log : Journal) → Type 0
HasPartitions log = (s : ℕ) → was_made log s ≡ true → IsPartition (open_ranges log s)

-- ---- One home: each put is in the open shard whose range contains its hash key

-- The shard is open, and its range contains the key.
pub record IsHome (log : Journal) (s k sh : ℕ) : Type 0 where
  pub state : ShardState
  pub made : shard_at log s sh ≡ Some state
  pub is_open_now : is_open state ≡ true
  pub contains : Covers state.range k

-- A put's shard is its home, and a put, split or merge takes its stream's next sequence number.
abbrev pub IsPlaced : (log : Journal) (entry : Entry) → Type 0
IsPlaced log (entry.Put s sh number hash bytes key_bytes) = IsHome log s hash sh × (number ≡ next_number log s)
IsPlaced log (entry.Split s sh key_hash number low high) = number ≡ next_number log s
IsPlaced log (entry.Merged s sh other number child) = number ≡ next_number log s
IsPlaced log _ = Unit {0}

-- Each put went to its home, and each put, split and merge took the next sequence number.
abbrev pub ArePlaced : (log : Journal) → Type 0
ArePlaced [] = Unit {0}
ArePlaced (line ∷ log) = IsPlaced log line.what × ArePlaced log

-- ---- Fence: only the tenure that holds a row renews, frees or marks it (Kinesis Client Library, leases)

-- The tenure belongs to the actor and holds its row.
pub record HoldsRow (log : Journal) (actor t : ℕ) : Type 0 where
  pub state : TenureState
  pub begun : tenure log t ≡ Some state
  pub own : state.by ≡ actor
  pub current : tenure_in (row log state.key) ≡ t

-- The tenure belongs to the actor, holds its row, and raises the row's counter to `counter`.
pub record WritesRow (log : Journal) (actor t counter : ℕ) : Type 0 where
  pub holds : HoldsRow log actor t
  pub next : counter ≡ counter_in (row log holds.state.key) + 1

-- A renewal, freeing, mark or opening is by the actor whose tenure holds the row; a write raises its counter by one.
abbrev pub IsFenced : (log : Journal) (actor : ℕ) (entry : Entry) → Type 0
IsFenced log actor (entry.Renewed t counter) = WritesRow log actor t counter
IsFenced log actor (entry.Freed t counter) = WritesRow log actor t counter
IsFenced log actor (entry.Marked t counter target) = WritesRow log actor t counter
IsFenced log actor (entry.Opened t) = HoldsRow log actor t
IsFenced log actor _ = Unit {0}

-- Each renewal, freeing, mark and opening was by the actor whose tenure held the row.
abbrev pub AreFenced : (log : Journal) → Type 0
AreFenced [] = Unit {0}
AreFenced (line ∷ log) = IsFenced log line.by line.what × AreFenced log

-- ---- Lineage: a shard is opened after its parents, and read after it was opened

-- There is a shard, and it is expired.
abbrev pub IsExpiredState : (log : Journal) (c s : ℕ) (x : Option ShardState) → Type 0
IsExpiredState log c s None = ⊥
IsExpiredState log c s (Some x) = is_expired log c s x ≡ true

-- The parent, if there is one, was processed to its end or is expired.
abbrev pub IsPast : (log : Journal) (c s : ℕ) (parent : Option ℕ) → Type 0
IsPast log c s None = Unit {0}
IsPast log c s (Some parent) = (is_marked_to_end (row log (ref s parent)) ≡ true)
    ⊎ IsExpiredState log c s (shard_at log s parent)

-- There is a shard, and each of its parents was processed to its end or is expired.
abbrev pub ArePastState : (log : Journal) (c s : ℕ) (x : Option ShardState) → Type 0
ArePastState log c s None = ⊥
ArePastState log c s (Some x) = IsPast log c s x.parent × IsPast log c s x.adjacent

-- There is a key with a shard, and each parent was processed to its end or is expired.
abbrev pub AreParentsPast : (log : Journal) (c : ℕ) (key : Option ShardRef) → Type 0
AreParentsPast log c None = ⊥
AreParentsPast log c (Some key) = ArePastState log c key.stream (shard_at log key.stream key.shard)

-- The entry opens tenure `t`.
abbrev pub IsOpening : (entry : Entry) (t : ℕ) → Type 0
IsOpening (entry.Opened tenure) t = tenure ≡ t
IsOpening _ t = ⊥

-- Some line opens tenure `t`.
abbrev pub WasOpened : (log : Journal) (t : ℕ) → Type 0
WasOpened [] t = ⊥
WasOpened (line ∷ log) t = IsOpening line.what t ⊎ WasOpened log t

-- An opening comes after the parents' ends or expiry, and a read after its tenure's opening.
abbrev pub IsInLine : (log : Journal) (c : ℕ) (entry : Entry) → Type 0
IsInLine log c (entry.Opened t) = AreParentsPast log c (key_of log t)
IsInLine log c (entry.Read t limit ended numbers) = WasOpened log t
IsInLine log c _ = Unit {0}

-- Each opening came after the parents' ends or expiry, and each read after its tenure's opening.
abbrev pub AreInLine : (log : Journal) → Type 0
AreInLine [] = Unit {0}
AreInLine (line ∷ log) = IsInLine log line.clock line.what × AreInLine log

-- ---- Coverage: each record up to a row's checkpoint was delivered or is trimmed

-- The number is in the list.
abbrev pub IsAmong : (n : ℕ) (xs : List ℕ) → Type 0
IsAmong n [] = ⊥
IsAmong n (x ∷ xs) = (n ≡ x) ⊎ IsAmong n xs

-- The sequence number is in one of the reads.
abbrev pub IsRead : (n : ℕ) (rs : List ReadDone) → Type 0
IsRead n [] = ⊥
IsRead n (r ∷ rs) = IsAmong n r.numbers ⊎ IsRead n rs

-- The sequence number is in a given read of some tenure of the key.
pub record IsDelivered (log : Journal) (key : ShardRef) (n : ℕ) : Type 0 where
  pub by_tenure : ℕ
  pub state : TenureState
  pub begun : tenure log by_tenure ≡ Some state
  pub of_key : state.key ≡ key
  pub given : IsRead n (given_reads state)

-- The record was delivered, or is trimmed.
abbrev pub IsSettled : (log : Journal) (c : ℕ) (key : ShardRef) (r : Logged) → Type 0
IsSettled log c key r = IsDelivered log key r.seq ⊎ (is_trimmed log c key.stream r.arrival ≡ true)

-- Each record from `floor` on and below `position` was delivered, or is trimmed.
abbrev pub SettledBetween : (log : Journal) (c : ℕ) (key : ShardRef) (floor position : ℕ) → Type 0
SettledBetween log c key floor position =
    AllByRecursion (λ r. floor ≤ r.seq → r.seq < position → IsSettled log c key r) (records log key.stream key.shard)

-- Each record from `floor` on was delivered, or is trimmed.
abbrev pub SettledFrom : (log : Journal) (c : ℕ) (key : ShardRef) (floor : ℕ) → Type 0
SettledFrom log c key floor =
    AllByRecursion (λ r. floor ≤ r.seq → IsSettled log c key r) (records log key.stream key.shard)

-- Each record from `floor` up to the checkpoint was delivered, or is trimmed.
abbrev pub IsCovered : (log : Journal) (c : ℕ) (key : ShardRef) (floor : ℕ) (checkpoint : Checkpoint) → Type 0
IsCovered log c key floor TrimHorizon = Unit {0}
IsCovered log c key floor (At q) = SettledBetween log c key floor (q + 1)
IsCovered log c key floor ShardEnd = SettledFrom log c key floor

-- The sequence numbers of the reads, one read after another.
abbrev pub all_numbers : (rs : List ReadDone) → List ℕ
all_numbers [] = []
all_numbers (r ∷ rs) = r.numbers ++ all_numbers rs

-- The numbers rise strictly, from `position` or above.
abbrev pub RiseFrom : (position : ℕ) (ns : List ℕ) → Type 0
RiseFrom position [] = Unit {0}
RiseFrom position (n ∷ ns) = (position ≤ n) × RiseFrom (n + 1) ns

-- Each record from a row's floor to its checkpoint was delivered or is trimmed, and a tenure's reads rise strictly.
pub record AreCovered (log : Journal) (c : ℕ) : Type 0 where
  pub rows : (key : ShardRef) (r : Row) → row log key ≡ Some r → IsCovered log c key r.floor r.checkpoint
  pub reads_rise : (t : ℕ) (T : TenureState) → tenure log t ≡ Some T → RiseFrom 0 (all_numbers T.reads)

-- ---- The five parts together, at the clock `c`

-- The journal is safe: open shards partition the keys, each put is in its home, checkpoints cover only what was
-- delivered or is trimmed, shards open after their parents, and only the tenure that holds a row writes it.
pub record IsSafe (log : Journal) (c : ℕ) : Type 0 where
  pub partition : HasPartitions log
  pub one_home : ArePlaced log
  pub coverage : AreCovered log c
  pub lineage : AreInLine log
  pub fence : AreFenced log
