-- The journal, a machine's event log: a list of lines, the newest first.
use Rattle.std.specs.Prelude.{ℕ, List, [], ◌∷◌}
use Rattle.kds_defs.specs.declared.entry.Entry.{Entry}

-- An event with its command's clock and actor, and for a put also the record's partition key and payload.
pub record Line : Type 0 where
  pub clock : ℕ
  pub by : ℕ
  pub what : Entry
  pub key : List ℕ
  pub payload : List ℕ

-- A machine's event log, the newest line first.
abbrev pub Journal : Type 0
Journal = List Line

-- The journal after `lines`, which, unlike a journal, have the oldest first.
abbrev pub with_lines : (lines : List Line) (log : Journal) → Journal
with_lines [] log = log
with_lines (line ∷ lines) log = with_lines lines (line ∷ log)

-- A line with an empty key and payload, as all entries other than puts have it.
abbrev pub plain_line : (clock actor : ℕ) (entry : Entry) → Line
plain_line clock actor entry = record { clock = clock; by = actor; what = entry; key = []; payload = [] }
