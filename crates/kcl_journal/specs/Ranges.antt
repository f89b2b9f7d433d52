-- The entries that a journal's text can have: their numbers are in range.
use Rattle.std.specs.Prelude.{◌≡◌, ℕ, ◌+◌, ◌^◌, ◌<◌, ◌≤◌, Bool, true, false, ◌==◌, is_none, IfSome}
use Rattle.std.specs.List.{AllByRecursion}
use Rattle.kds_base.specs.Names.{IsName}
use Rattle.kds_defs.specs.declared.entry.Entry.{Entry}
use Rattle.kds_defs.specs.declared.entry.Entry.TheVariants as entry
use Rattle.kds_defs.specs.declared.limits.TheConstants.{RECORD_BYTES}
use Rattle.kds_defs.specs.Lawful.{IsShardCount, IsRetention, IsLimit}
use Rattle.kds_defs.specs.Subjects.{stream_of}
use Rattle.kcl_script_fields.specs.Commands.{IsKey, IsTarget}
use Rattle.kcl_script_fields.specs.Origins.{IsOrigin}
use Rattle.kcl_journal.specs.declared.line.EntryLine.{EntryLine}
use Rattle.kcl_journal.specs.declared.line.TheConstants.{FIRST_RECORD_BYTES, FIRST_VERSION, KEY_BYTES}

-- Whether the version is the first.
abbrev pub is_first : (version : ℕ) → Bool
is_first version = version == FIRST_VERSION

-- The number fits into 64 bits.
abbrev pub Is64 : (n : ℕ) → Type 0
Is64 n = n < 2 ^ 64

-- The number can be a hash key, below 2^128.
abbrev pub IsHash : (n : ℕ) → Type 0
IsHash n = n < 2 ^ 128

-- The number can be a counter after a write: at least 1, and 64 bits.
abbrev pub IsCounter : (n : ℕ) → Type 0
IsCounter n = (1 ≤ n) × Is64 n

-- The number can be a worker's: at least 1, and 32 bits.
abbrev pub IsWorkerNo : (n : ℕ) → Type 0
IsWorkerNo n = (1 ≤ n) × (n < 2 ^ 32)

-- Possible byte counts: the first version (true) has 0 for the key; later a key has a byte and both fit a record.
abbrev pub AreSizesBy : (has_sizes : Bool) (bytes key_bytes : ℕ) → Type 0
AreSizesBy true bytes key_bytes = (bytes ≤ FIRST_RECORD_BYTES) × (key_bytes ≡ 0)
AreSizesBy false bytes key_bytes = ((1 ≤ key_bytes) × (key_bytes ≤ KEY_BYTES)) × (bytes + key_bytes ≤ RECORD_BYTES)

-- Possible byte counts of payload and key in this version.
abbrev pub AreSizes : (version bytes key_bytes : ℕ) → Type 0
AreSizes version bytes key_bytes = AreSizesBy (is_first version) bytes key_bytes

-- A text in this version can have the entry: its numbers are in range.
abbrev pub IsTellable : (version : ℕ) (change : Entry) → Type 0
IsTellable version (entry.Made s name count) = Is64 s × (IsName name × IsShardCount count)
IsTellable version (entry.Put s sh number hash bytes key_bytes) =
    Is64 s × (Is64 sh × (Is64 number × (IsHash hash × AreSizes version bytes key_bytes)))
IsTellable version (entry.Split s sh key_hash number low high) =
    Is64 s × (Is64 sh × (IsHash key_hash × (Is64 number × (Is64 low × Is64 high))))
IsTellable version (entry.Merged s sh other number child) =
    Is64 s × (Is64 sh × (Is64 other × (Is64 number × Is64 child)))
IsTellable version (entry.Kept s hours) = Is64 s × IsRetention hours
IsTellable version (entry.LeaseMade key origin) = IsKey key × IsOrigin origin
IsTellable version (entry.Taken key t counter owner) = IsKey key × (Is64 t × (IsCounter counter × IsWorkerNo owner))
IsTellable version (entry.Renewed t counter) = Is64 t × IsCounter counter
IsTellable version (entry.Freed t counter) = Is64 t × IsCounter counter
IsTellable version (entry.Opened t) = Is64 t
IsTellable version (entry.Read t limit ended numbers) = Is64 t × (IsLimit limit × AllByRecursion Is64 numbers)
IsTellable version (entry.Given t) = Is64 t
IsTellable version (entry.Marked t counter target) = Is64 t × (IsCounter counter × IsTarget target)
IsTellable version (entry.LeaseCut key counter) = IsKey key × Is64 counter
IsTellable version change = IfSome (stream_of change) Is64

-- Whether the entry is about a lease, not a stream.
abbrev pub is_lease_entry : (change : Entry) → Bool
is_lease_entry change = is_none (stream_of change)

-- Whether the entry names a tenure that an earlier entry began.
abbrev pub is_tenure_entry : (entry : Entry) → Bool
is_tenure_entry (entry.Renewed t counter) = true
is_tenure_entry (entry.Freed t counter) = true
is_tenure_entry (entry.Opened t) = true
is_tenure_entry (entry.Read t limit ended numbers) = true
is_tenure_entry (entry.Given t) = true
is_tenure_entry (entry.Marked t counter target) = true
is_tenure_entry _ = false

-- Whether the entry is a split or a merge.
abbrev pub is_resharding : (entry : Entry) → Bool
is_resharding (entry.Split s sh hash number low high) = true
is_resharding (entry.Merged s sh other number child) = true
is_resharding _ = false

-- A text in this version can have the line: its clock, actor and entry are in range.
pub record IsEntryLine (version : ℕ) (line : EntryLine) : Type 0 where
  pub clock : line.clock < 2 ^ 62
  pub by : line.by < 2 ^ 32
  pub what : IsTellable version line.what
