-- What each status of an audit says of its bytes and of what was written to the sink.
use Rattle.std.specs.Prelude.{◌≡◌, ◌⊎◌, ℕ, List, [], ◌++◌, true, false}
use Rattle.std.specs.declared.option.Option.{Option}
use Rattle.std.specs.Io.KnownBytes.{Appends}
use Rattle.kds_defs.specs.Safe.{IsSafe}
use Rattle.kds_ends.specs.Causes.{AppendsFront}
use Rattle.kds_ends.specs.declared.status.Status.{Status}
use Rattle.kds_ends.specs.declared.status.Status.TheVariants.{Done, Unsound, Read, Write, Memory, TooLong}
use Rattle.kcl_audit_streams.specs.declared.rule.Rule.{Rule}
use Rattle.kcl_audit.specs.Progress.{AuditEnd, audit_of, over, sound, unsound}
use Rattle.kcl_audit.specs.Text.{IsJournal, audit_text, journal_of}
use Rattle.kcl_audit.specs.Stages.{is_sound}

-- By status: the result and what was written, all for Done and Unsound, a prefix for Write and Memory, else nothing.
abbrev pub TellsAudit : (status : Status) (bytes : List ℕ) (held now : Option (List ℕ)) → Type 0
TellsAudit Done bytes held now = (n : ℕ) × (audit_of bytes ≡ sound n) × Appends held now (audit_text (audit_of bytes))
TellsAudit Unsound bytes held now = (n : ℕ) × (r : Rule) × (audit_of bytes ≡ unsound n r)
    × Appends held now (audit_text (audit_of bytes))
TellsAudit TooLong bytes held now = (audit_of bytes ≡ over) × Appends held now []
TellsAudit Read bytes held now = Appends held now []
TellsAudit Write bytes held now = AppendsFront held now (audit_text (audit_of bytes))
TellsAudit Memory bytes held now = AppendsFront held now (audit_text (audit_of bytes))
TellsAudit _ bytes held now = ⊥

-- An audit may end with this status.
abbrev pub IsAuditStatus : (status : Status) → Type 0
IsAuditStatus Done = Unit {0}
IsAuditStatus Unsound = Unit {0}
IsAuditStatus TooLong = Unit {0}
IsAuditStatus Read = Unit {0}
IsAuditStatus Write = Unit {0}
IsAuditStatus Memory = Unit {0}
IsAuditStatus _ = ⊥

-- The status of an audit with this result, without I/O faults and with enough memory.
abbrev pub audit_status : (over : AuditEnd) → Status
audit_status (sound n) = Done
audit_status (unsound n r) = Unsound
audit_status over = TooLong

-- The status belongs to the result of the bytes' audit, or is Memory.
abbrev pub AuditsAs : (bytes : List ℕ) (status : Status) → Type 0
AuditsAs bytes status = (status ≡ audit_status (audit_of bytes)) ⊎ (status ≡ Memory)

-- The bytes are the text of a legal journal, and its state is safe at the last line's clock.
pub record IsSafely (bytes : List ℕ) : Type 0 where
  pub count : ℕ
  pub journal : IsJournal bytes count
  pub safe : IsSafe (journal_of journal.entries) journal.end

-- The bytes are the text of no legal journal.
abbrev pub IsNoJournal : (bytes : List ℕ) → Type 0
IsNoJournal bytes = (n : ℕ) → IsJournal bytes n → ⊥

-- What an audit's end writes after `along`: the rest for Done and Unsound, a prefix for Write, nothing for Memory.
abbrev pub TellsEnd : (status : Status) (end : AuditEnd) (along : List ℕ) (held now : Option (List ℕ)) → Type 0
TellsEnd Done end along held now =
    (is_sound end ≡ true) × ((added : List ℕ) × (along ++ added ≡ audit_text end) × Appends held now added)
TellsEnd Unsound end along held now =
    (is_sound end ≡ false) × ((added : List ℕ) × (along ++ added ≡ audit_text end) × Appends held now added)
TellsEnd Write end along held now = (added : List ℕ) × (along ++ added ≡ audit_text end) × AppendsFront held now added
TellsEnd Memory end along held now = Appends held now []
TellsEnd _ end along held now = ⊥
