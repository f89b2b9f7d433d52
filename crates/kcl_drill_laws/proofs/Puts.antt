-- One PutRecords puts at most 500 records, so a shard has at most 500 records for each turn.
use Rattle.std.proofs.Common.{◌≡◌, ℕ, ◌+◌, ◌≤◌, List, [], ◌∷◌, ◌++◌, length, refl, arith, ◌*◌, suc}
use Rattle.std.specs.List.{AllByRecursion}
use Rattle.std.specs.Prelude.{Result, ◌==◌, ◌&&◌}
use Rattle.std.proofs.lemmas.List.{length_push}
use Rattle.std.proofs.lemmas.Bool.{cond_both}
use Rattle.kds_defs.specs.declared.command.Command.{Command}
use Rattle.kds_defs.specs.declared.command.NewItem.{NewItem}
use Rattle.kds_defs.specs.declared.command.Turn.{Turn}
use Rattle.kds_defs.specs.declared.entry.Entry.{Entry}
use Rattle.kds_defs.specs.declared.entry.Entry.TheVariants as entry
use Rattle.kds_defs.specs.declared.reply.Refusal.{Refusal}
use Rattle.kds_defs.specs.declared.reply.Reply.{Reply}
use Rattle.kds_defs.specs.Histories.{clock, decide, decision, journal, lines_of}
use Rattle.kds_defs.specs.Journal.{Line, Journal, with_lines}
use Rattle.kds_defs.specs.Lawful.{IsHistory, IsLawfulCommand}
use Rattle.kds_defs.specs.PutCommands.{is_held_back, put_lines}
use Rattle.kds_defs.specs.Records.{Logged, next_number, records, records_after}
use Rattle.kds_defs.specs.ScaleCommands.{step_lines, steps_to}
use Rattle.kds_defs.specs.StreamCommands.{put_line}
use Rattle.kds_defs.proofs.Walk.{Outcome, Refuses, Answers, Adds, Stores, Scales, each_step, walk}
use Rattle.kcl_drill_laws.specs.Parents.{AreFewRecords}

-- The number 1 for the entry of a put, and 0 for any other entry.
abbrev weight : Entry → ℕ
weight (entry.Put stream shard number hash bytes key_bytes) = 1
weight _ = 0

-- The number of puts among the lines.
abbrev puts : List Line → ℕ
puts [] = 0
puts (line ∷ ls) = weight line.what + puts ls

puts_with : (ls : List Line) (log : Journal) → puts (with_lines ls log) ≡ puts ls + puts log
puts_with [] log = omega arith
puts_with (line ∷ ls) log = let n = puts_with ls (line ∷ log) in omega arith

-- ---- The lines of a decision

few_puts : (items : List NewItem) (log : Journal) (c actor s : ℕ) → puts (put_lines log c actor s items) ≤ length items
few_puts [] log c actor s = omega arith
few_puts (item ∷ items) log c actor s =
    let line = put_line log c actor s (next_number log s) item in
    let skip = few_puts items log c actor s in
    let take = few_puts items (line ∷ log) c actor s in
    cond_both (is_held_back log c s item) (put_lines log c actor s items)
    (line ∷ put_lines (line ∷ log) c actor s items)
    (λ ls. puts ls ≤ suc (length items)) (λ back. omega arith) (λ goes. omega arith)

no_steps : (ls : List Line) → AllByRecursion (λ line. weight line.what ≡ 0) ls → puts ls ≡ 0
no_steps [] none = refl
no_steps (line ∷ ls) none = omega (arith, none.0, no_steps ls none.1)

one : (e : Entry) → weight e + 0 ≤ 500
one (entry.Put stream shard number hash bytes key_bytes) = omega arith
one _ = omega arith

few : (log : Journal) (c actor : ℕ) (command : Command) (lines : List Line) (answer : Result Reply Refusal)
    → Outcome log c actor command lines answer
    → IsLawfulCommand command → puts lines ≤ 500
few log c actor _ _ _ (Refuses command r may) lawful = omega arith
few log c actor _ _ _ (Answers command r shows) lawful = omega arith
few log c actor _ _ _ (Adds command line r tells) lawful = one line.what
few log c actor _ _ _ (Stores name items s named fits) lawful =
    omega (arith, few_puts items log c actor s, lawful.1.few)
few log c actor _ _ _ (Scales name goal s named room fits) lawful =
    let none = each_step (λ line. weight line.what ≡ 0) c actor s (steps_to log s goal) log (λ sh other n child. refl)
    (λ sh is_at n low high. refl) in
    let n = no_steps (step_lines log c actor s (steps_to log s goal)) none in
    omega arith

decided_few : (log : Journal) (c actor : ℕ) (command : Command) → IsLawfulCommand command
    → puts (lines_of (decide log c actor command)) ≤ 500
decided_few log c actor command lawful = few log c actor command _ _ (walk log c actor command) lawful

turns_few : (h : List Turn) → IsHistory h → puts (journal h) ≤ 500 * length h
turns_few [] lawful = omega arith
turns_few (turn ∷ h) lawful =
    let d = decision (journal h) (clock (turn ∷ h)) turn in
    let n = puts_with (lines_of d) (journal h) in
    omega (arith, n, decided_few (journal h) (clock (turn ∷ h)) turn.by turn.what lawful.0.1, turns_few h lawful.1)

-- ---- The records of a shard

-- A put adds at most one record to a shard, and any other line adds none.
records_by : (l : Line) (e : Entry) (s sh n : ℕ) (rs : List Logged) → length rs ≤ n
    → length (records_after l e s sh rs) ≤ weight e + n
records_by l (entry.Put stream shard number hash bytes key_bytes) s sh n rs le =
    let r : Logged = record {
      seq = number;
      arrival = l.clock;
      bytes = bytes + key_bytes;
      key = l.key;
      payload = l.payload;
    } in
    cond_both ((stream == s) && (shard == sh)) (rs ++ r ∷ []) rs (λ xs. length xs ≤ 1 + n)
    (λ here. omega (arith, length_push rs r, le)) (λ elsewhere. omega arith)
records_by l _ s sh n rs le = omega arith

-- A shard has at most as many records as the journal has puts.
records_few : (log : Journal) (s sh : ℕ) → length (records log s sh) ≤ puts log
records_few [] s sh = omega arith
records_few (l ∷ log) s sh = records_by l l.what s sh (puts log) (records log s sh) (records_few log s sh)

pub few_records : (h : List Turn) → IsHistory h → AreFewRecords h
few_records h lawful s sh = omega (arith, records_few (journal h) s sh, turns_few h lawful)
