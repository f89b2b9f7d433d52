-- Each turn adds at most one line about a lease, so counters and tenures are at most as many as turns.
use Rattle.std.proofs.Common.{◌≡◌, ℕ, ◌+◌, ◌≤◌, Bool, true, false, List, [], ◌∷◌, length, Option, Some, None, refl}
use Rattle.std.proofs.Common.{arith}
use Rattle.std.specs.Prelude.{Result, if◌then◌else◌}
use Rattle.std.specs.List.{AllByRecursion}
use Rattle.std.specs.Option.{option_map}
use Rattle.std.proofs.lemmas.Bool.{cond_both}
use Rattle.kds_base.specs.declared.lease_key.ShardRef.{ShardRef}
use Rattle.kds_defs.specs.declared.command.Command.{Command}
use Rattle.kds_defs.specs.declared.command.Turn.{Turn}
use Rattle.kds_defs.specs.declared.entry.Entry.{Entry}
use Rattle.kds_defs.specs.declared.entry.Entry.TheVariants as entry
use Rattle.kds_defs.specs.declared.reply.Refusal.{Refusal}
use Rattle.kds_defs.specs.declared.reply.Reply.{Reply}
use Rattle.kds_defs.specs.declared.reply.Row.{Row}
use Rattle.kds_defs.specs.Decision.{with◌or◌then◌}
use Rattle.kds_defs.specs.Histories.{clock, decide, decision, journal, lines_of}
use Rattle.kds_defs.specs.Journal.{Line, Journal, with_lines}
use Rattle.kds_defs.specs.Keys.{same_key}
use Rattle.kds_defs.specs.Leases.{counter_in, freed_row, is_key, key_of, made_row, marked_row, renewed_row, row}
use Rattle.kds_defs.specs.Leases.{row_after, taken_count, taken_count_after, taken_row}
use Rattle.kds_defs.specs.ScaleCommands.{steps_to}
use Rattle.kds_defs.proofs.Walk.{Outcome, Refuses, Answers, Adds, Stores, Scales, each_put, each_step, walk}
use Rattle.kcl_drill.specs.Apart.{is_stream_entry}
use Rattle.kcl_drill_laws.specs.Parents.{AreCounted}

-- The number 1 for an entry about a lease, and 0 for an entry about a stream.
abbrev weight : Entry → ℕ
weight e = if is_stream_entry e then 0 else 1

-- The number of lines about leases.
abbrev leases : List Line → ℕ
leases [] = 0
leases (line ∷ ls) = weight line.what + leases ls

leases_with : (ls : List Line) (log : Journal) → leases (with_lines ls log) ≡ leases ls + leases log
leases_with [] log = omega arith
leases_with (line ∷ ls) log = let n = leases_with ls (line ∷ log) in omega arith

-- ---- The lines of a decision

none_of : (ls : List Line) → AllByRecursion (λ line. weight line.what ≡ 0) ls → leases ls ≤ 1
none_of ls none = let n = none_in ls none in omega arith
  where
    none_in : (ls : List Line) → AllByRecursion (λ line. weight line.what ≡ 0) ls → leases ls ≡ 0
    none_in [] none = refl
    none_in (line ∷ ls) none = omega (arith, none.0, none_in ls none.1)

one : (e : Entry) → weight e + 0 ≤ 1
one (entry.Made stream name shards) = omega arith
one _ = omega arith

few : (log : Journal) (c actor : ℕ) (command : Command) (lines : List Line) (answer : Result Reply Refusal)
    → Outcome log c actor command lines answer → leases lines ≤ 1
few log c actor _ _ _ (Refuses command r may) = omega arith
few log c actor _ _ _ (Answers command r shows) = omega arith
few log c actor _ _ _ (Adds command line r tells) = one line.what
few log c actor _ _ _ (Stores name items s named fits) =
    none_of _ (each_put (λ line. weight line.what ≡ 0) c actor s items log (λ is_before n item among. refl))
few log c actor _ _ _ (Scales name goal s named room fits) =
    none_of _ (each_step (λ line. weight line.what ≡ 0) c actor s (steps_to log s goal) log (λ sh other n child. refl)
    (λ sh is_at n low high. refl))

decided_few : (log : Journal) (c actor : ℕ) (command : Command) → leases (lines_of (decide log c actor command)) ≤ 1
decided_few log c actor command = few log c actor command _ _ (walk log c actor command)

turns_few : (h : List Turn) → leases (journal h) ≤ length h
turns_few [] = omega arith
turns_few (turn ∷ h) =
    let d = decision (journal h) (clock (turn ∷ h)) turn in
    let n = leases_with (lines_of d) (journal h) in
    omega (arith, n, decided_few (journal h) (clock (turn ∷ h)) turn.by turn.what, turns_few h)

-- ---- The counter of a row, and the number of tenures

raised : (f : Row → Row) (b : Bool) (o : Option Row) (n : ℕ) → ((x : Row) → (f x).counter ≡ x.counter + 1)
    → counter_in o ≤ n
    → counter_in (if b then option_map f o else o) ≤ 1 + n
raised f true None n keeps le = omega arith
raised f true (Some x) n keeps le = omega (arith, keeps x, le)
raised f false o n keeps le = omega arith

counter_by : (log : Journal) (line : Line) (e : Entry) (key : ShardRef) (o : Option Row) (n : ℕ) → counter_in o ≤ n
    → counter_in (row_after log line e key o) ≤ weight e + n
counter_by log line (entry.LeaseMade k origin) key o n le =
    cond_both (same_key k key) (Some (made_row log line.clock key origin)) o (λ p. counter_in p ≤ 1 + n)
    (λ own. omega arith) (λ other. omega arith)
counter_by log line (entry.LeaseCut k counter) key o n le =
    cond_both (same_key k key) None o (λ p. counter_in p ≤ 1 + n) (λ own. omega arith) (λ other. omega arith)
counter_by log line (entry.Taken k tenure counter owner) key o n le =
    raised (taken_row (taken_count log + 1) owner) (same_key k key) o n (λ x. refl) le
counter_by log line (entry.Renewed tenure counter) key o n le =
    raised renewed_row (is_key (key_of log tenure) key) o n (λ x. refl) le
counter_by log line (entry.Freed tenure counter) key o n le =
    raised freed_row (is_key (key_of log tenure) key) o n (λ x. refl) le
counter_by log line (entry.Marked tenure counter target) key o n le =
    raised (marked_row target) (is_key (key_of log tenure) key) o n (λ x. refl) le
counter_by log line _ key o n le = omega arith

counter_few : (log : Journal) (key : ShardRef) → counter_in (row log key) ≤ leases log
counter_few [] key = omega arith
counter_few (line ∷ log) key = counter_by log line line.what key (row log key) (leases log) (counter_few log key)

taken_by : (e : Entry) (n m : ℕ) → n ≤ m → taken_count_after e n ≤ weight e + m
taken_by (entry.Taken key tenure counter owner) n m le = omega arith
taken_by _ n m le = omega arith

taken_few : (log : Journal) → taken_count log ≤ leases log
taken_few [] = omega arith
taken_few (line ∷ log) = taken_by line.what (taken_count log) (leases log) (taken_few log)

pub all_counted : (h : List Turn) → AreCounted h
all_counted h = record {
  counters = λ key. omega (arith, counter_few (journal h) key, turns_few h);
  tenures = omega (arith, taken_few (journal h), turns_few h);
}
