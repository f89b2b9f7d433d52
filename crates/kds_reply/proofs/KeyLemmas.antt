-- The partition keys in journals of histories and in answers are valid UTF-8.
use Rattle.std.proofs.Common.{subst, ℕ, zero, suc, ◌-◌, List, [], ◌∷◌, map, Bool, true, false, nat_le, ◌==◌, ◌&&◌}
use Rattle.std.proofs.Common.{if◌then◌else◌}
use Rattle.std.specs.List.{AllByRecursion}
use Rattle.std.specs.Prelude.{Result}
use Rattle.std.specs.Str.{IsUtf8}
use Rattle.std.proofs.lemmas.Str.{IsUtf8-nil, utf8_lossy-IsUtf8}
use Rattle.kds_base.proofs.Facts.{all_append, all_filter}
use Rattle.kds_defs.specs.declared.command.Command.{Command}
use Rattle.kds_defs.specs.declared.command.Turn.{Turn}
use Rattle.kds_defs.specs.declared.entry.Entry.{Entry}
use Rattle.kds_defs.specs.declared.entry.Entry.TheVariants as entry
use Rattle.kds_defs.specs.declared.limits.TheConstants.{BATCH_BYTES}
use Rattle.kds_defs.specs.declared.reply.Refusal.{Refusal}
use Rattle.kds_defs.specs.declared.reply.Reply.{Reply}
use Rattle.kds_defs.specs.Decision.{refuse◌if◌else◌, with◌or◌then◌}
use Rattle.kds_defs.specs.Histories.{clock, journal, answer}
use Rattle.kds_defs.specs.Journal.{Line, Journal}
use Rattle.kds_defs.specs.Lawful.{IsLawful, IsItem, IsLawfulCommand, IsHistory}
use Rattle.kds_defs.specs.LeaseCommands.{read}
use Rattle.kds_defs.specs.Leases.{reach}
use Rattle.kds_defs.specs.Records.{Logged, stored, records_after, records, is_left, left_from, beginning, batch}
use Rattle.kds_defs.specs.Streams.{is_live, trim_floor}
use Rattle.kds_defs.proofs.Walk.{Outcome, IsAdded, Alone, Stored_one, Answers, Adds, Gets, Puts, Reads, each_journal}
use Rattle.kds_defs.proofs.Walk.{of_all, walk}
use Rattle.kds_reply.specs.Keys.{IsPrintedWhole, ArePrintedWhole}

-- ---- Lists

all-if : {A : Type 0} (P : A → Type 0) (b : Bool) (xs ys : List A) → AllByRecursion P xs → AllByRecursion P ys
    → AllByRecursion P (if b then xs else ys)
all-if P true xs ys h k = h
all-if P false xs ys h k = k

-- ---- Partition keys in lines and records

-- The partition key in the line is valid UTF-8.
abbrev HasTextKey : Line → Type 0
HasTextKey line = IsUtf8 line.key

-- The record's partition key is valid UTF-8.
abbrev IsKeptText : Logged → Type 0
IsKeptText r = IsUtf8 r.key

-- All partition keys in the journal are valid UTF-8.
abbrev HasTextKeys : Journal → Type 0
HasTextKeys log = AllByRecursion HasTextKey log

record_text : (line : Line) (e : Entry) (s sh : ℕ) (old : List Logged) → HasTextKey line
    → AllByRecursion IsKeptText old
    → AllByRecursion IsKeptText (records_after line e s sh old)
record_text line (entry.Put stream shard seq hash bytes key_bytes) s sh old h k =
    all-if IsKeptText ((stream == s) && (shard == sh)) _ old (all_append IsKeptText old _ k (h, tt)) k
record_text line _ s sh old h k = k

records_text : (log : Journal) (s sh : ℕ) → HasTextKeys log → AllByRecursion IsKeptText (records log s sh)
records_text [] s sh h = tt
records_text (line ∷ log) s sh h = record_text line line.what s sh (records log s sh) h.0 (records_text log s sh h.1)

left_text : (log : Journal) (c s sh position : ℕ) → HasTextKeys log
    → AllByRecursion IsKeptText (left_from log c s sh position)
left_text log c s sh position h =
    all-if IsKeptText (is_live log s) _ []
    (all_filter IsKeptText (is_left (trim_floor log c s) position) (records log s sh) (records_text log s sh h)) tt

beginning_text : (limit room : ℕ) (rs : List Logged) → AllByRecursion IsKeptText rs
    → AllByRecursion IsKeptText (beginning limit room rs)
beginning_text zero room rs h = tt
beginning_text (suc limit) room [] h = tt
beginning_text (suc limit) room (r ∷ rs) h =
    all-if IsKeptText (nat_le r.bytes room) _ [] (h.0, beginning_text limit (room - r.bytes) rs h.1) tt

printed_text : (rs : List Logged) → AllByRecursion IsKeptText rs → AllByRecursion IsPrintedWhole (map stored rs)
printed_text [] h = tt
printed_text (r ∷ rs) h = (utf8_lossy-IsUtf8 r.key h.0, printed_text rs h.1)

batch_text : (log : Journal) (c s sh position limit : ℕ) → HasTextKeys log
    → AllByRecursion IsPrintedWhole (map stored (batch log c s sh position limit))
batch_text log c s sh position limit h =
    printed_text _ (beginning_text limit BATCH_BYTES _ (left_text log c s sh position h))

-- ---- The lines and the answer of a command

line_text : (log : Journal) (c actor : ℕ) (command : Command) (line : Line) → IsAdded log c actor command line
    → IsLawfulCommand command → HasTextKey line
line_text log c actor _ _ (Alone _ _ _ (Puts name item s named fits)) lawful = lawful.1.key.text
line_text log c actor _ _ (Stored_one name items old s n item among) lawful =
    (of_all IsItem items item among lawful.1.each).key.text
line_text log c actor _ _ _ lawful = IsUtf8-nil

answer_text : (log : Journal) (c actor : ℕ) (command : Command) (lines : List Line) (answer : Result Reply Refusal)
    → Outcome log c actor command lines answer
    → HasTextKeys log → ArePrintedWhole answer
answer_text log c actor _ _ _ (Answers _ _ (Gets iter limit rs next late xs read)) h =
    subst (AllByRecursion IsPrintedWhole) read.are
    (batch_text log read.clock read.stream read.shard read.position read.limit h)
answer_text log c actor _ _ _ (Adds _ _ _ (Reads t position limit T place ended begun same)) h =
    batch_text log c T.key.stream T.key.shard (reach T) limit h
answer_text log c actor _ _ _ _ h = tt

-- ---- The answers of a history

journal_text : (h : List Turn) → IsHistory h → HasTextKeys (journal h)
journal_text h is = each_journal HasTextKey IsLawful (λ log c turn lawful line added.
    line_text log c turn.by turn.what line added lawful.1) h is

pub answers_text : (h : List Turn) (turn : Turn) → IsHistory (turn ∷ h) → ArePrintedWhole (answer h turn)
answers_text h turn is =
    answer_text (journal h) (clock (turn ∷ h)) turn.by turn.what _ _
    (walk (journal h) (clock (turn ∷ h)) turn.by turn.what) (journal_text h is.1)
