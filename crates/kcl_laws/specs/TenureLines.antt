-- A tenure, as the lines of the journal determine it (Kinesis Client Library, leases).
use Rattle.std.specs.Prelude.{ℕ, ◌+◌, ◌≡◌, Bool, false, ◌==◌, if◌then◌else◌, List, [], ◌∷◌, ◌++◌, length, Option, Some}
use Rattle.std.specs.List.{filter, find, list_any}
use Rattle.kds_base.specs.declared.lease_key.ShardRef.{ShardRef}
use Rattle.kds_defs.specs.declared.entry.Entry.{Entry}
use Rattle.kds_defs.specs.declared.entry.Entry.TheVariants as entry
use Rattle.kds_defs.specs.Journal.{Journal}
use Rattle.kds_defs.specs.Keys.{ref}
use Rattle.kds_defs.specs.Leases.{ReadDone, TenureState, checkpoint_in, row, taken_count, tenure}

-- An entry with its actor and the lines before it.
pub record Told : Type 0 where
  pub by : ℕ
  pub what : Entry
  pub before : Journal

-- All lines, each with the lines before it, the newest first.
abbrev pub all_told : (log : Journal) → List Told
all_told [] = []
all_told (line ∷ log) = record { by = line.by; what = line.what; before = log } ∷ all_told log

-- ---- The take by which a tenure began

-- Whether the entry begins tenure `t`: the n-th take of a journal begins tenure n.
abbrev pub is_taking : (t : ℕ) (journal : Journal) (entry : Entry) → Bool
is_taking t journal (entry.Taken key tenure counter owner) = t == taken_count journal + 1
is_taking t journal _ = false

-- Whether the line begins tenure `t`.
abbrev pub begins : (t : ℕ) (l : Told) → Bool
begins t l = is_taking t l.before l.what

-- The line by which tenure `t` began, if it has begun.
abbrev pub taking : (log : Journal) (t : ℕ) → Option Told
taking log t = find (begins t) (all_told log)

-- The lines that are newer than the beginning of tenure `t`, or all lines if none of them begins it.
abbrev pub newer_than : (t : ℕ) (ls : List Told) → List Told
newer_than t [] = []
newer_than t (l ∷ ls) = if begins t l then [] else l ∷ newer_than t ls

-- The lines since tenure `t` began, or all lines if it hasn't begun.
abbrev pub since_taking : (log : Journal) (t : ℕ) → List Told
since_taking log t = newer_than t (all_told log)

-- The key of the row that a take takes; shard 0 of stream 0 for other entries.
abbrev pub taken_key : (entry : Entry) → ShardRef
taken_key (entry.Taken key tenure counter owner) = key
taken_key _ = ref 0 0

-- ---- The lines since the tenure began

abbrev pub is_opening : (t : ℕ) (entry : Entry) → Bool
is_opening t (entry.Opened tenure) = tenure == t
is_opening t _ = false

-- Whether one of the lines opens tenure `t`.
abbrev pub was_opened : (t : ℕ) (ls : List Told) → Bool
was_opened t ls = list_any (λ l. is_opening t l.what) ls

abbrev pub is_giving : (t : ℕ) (entry : Entry) → Bool
is_giving t (entry.Given tenure) = tenure == t
is_giving t _ = false

-- The lines by which reads of tenure `t` become given.
abbrev pub givings : (t : ℕ) (ls : List Told) → List Told
givings t ls = filter (λ l. is_giving t l.what) ls

-- The reads `older`, with the entry's read at the end if it is a read of tenure `t`.
abbrev pub with_read_told : (t : ℕ) (entry : Entry) (older : List ReadDone) → List ReadDone
with_read_told t (entry.Read tenure limit ended numbers) older =
    if tenure == t then older ++ (record { numbers = numbers; ended = ended } ∷ []) else older
with_read_told t _ older = older

-- The reads of tenure `t` in these lines, the oldest first; the lines have the newest first.
abbrev pub reads_told : (t : ℕ) (ls : List Told) → List ReadDone
reads_told t [] = []
reads_told t (l ∷ ls) = with_read_told t l.what (reads_told t ls)

-- ---- The tenure

-- Tenure `t` exists, and its fields follow from the take that began it and the lines since then.
pub record IsToldTenure (log : Journal) (t : ℕ) (begun : Told) : Type 0 where
  pub told : TenureState
  pub there : tenure log t ≡ Some told
  pub by : told.by ≡ begun.by
  pub key : told.key ≡ taken_key begun.what
  pub start : told.start ≡ checkpoint_in (row begun.before told.key)
  pub opened : told.opened ≡ was_opened t (since_taking log t)
  pub reads : told.reads ≡ reads_told t (since_taking log t)
  pub given : told.given ≡ length (givings t (since_taking log t))
