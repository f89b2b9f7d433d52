-- Sequence numbers rise from the shard's starting one on, and byte counts are correct.
use Rattle.std.proofs.Common.{◌≡◌, ℕ, ◌+◌, ◌≤◌, Bool, true, false, List, [], ◌∷◌, ◌++◌, length, Option, Some, None}
use Rattle.std.proofs.Common.{refl, sym, ap, subst, arith}
use Rattle.std.specs.Prelude.{◌==◌, ◌&&◌, if◌then◌else◌}
use Rattle.std.specs.List.{AllByRecursion}
use Rattle.std.proofs.lemmas.Bool.Decides.{nat_tests}
use Rattle.kds_base.proofs.Facts.{equal_so, neither_right}
use Rattle.kds_defs.specs.declared.command.Command.{Command}
use Rattle.kds_defs.specs.declared.command.Turn.{Turn}
use Rattle.kds_defs.specs.declared.entry.Entry.{Entry}
use Rattle.kds_defs.specs.declared.entry.Entry.TheVariants as entry
use Rattle.kds_defs.specs.declared.limits.TheConstants.{RECORD_BYTES}
use Rattle.kds_defs.specs.declared.reply.Reply.{Reply}
use Rattle.kds_defs.specs.Decision.{Accepted, refuse◌if◌else◌, with◌or◌then◌}
use Rattle.kds_defs.specs.Histories.{journal}
use Rattle.kds_defs.specs.Journal.{Line, Journal}
use Rattle.kds_defs.specs.Lawful.{IsLawful, IsHistory, IsItem, IsLawfulCommand}
use Rattle.kds_defs.specs.Legal.{IsLegal, told}
use Rattle.kds_defs.specs.Records.{Logged, draws, next_number, records, records_after}
use Rattle.kds_defs.specs.Shards.{ShardState, shard_at, shards, start_of}
use Rattle.kds_defs.specs.StreamCommands.{last_number}
use Rattle.kds_defs.proofs.Walk.{IsAdded, Alone, Stored_one, Puts, each_journal, of_all}
use Rattle.kds_defs.proofs.Decisions.{passes}
use Rattle.kcl_laws.proofs.Batches.{IsRising, rising, all_push}
use Rattle.kcl_laws.proofs.StartLemmas.{IsFrom, records_from, starts_at, starts_below}
use Rattle.kcl_laws.specs.Recorded.{AreDrawn, IsSized, RiseBetween}

-- ---- Numbers

rise_on : (p : ℕ) (rs : List Logged) (q : ℕ) → IsRising p rs q → RiseBetween p rs q
rise_on p [] q is = is
rise_on p (r ∷ rs) q is = (is.0, rise_on (r.seq + 1) rs q is.1)

rise_from : (start p : ℕ) (rs : List Logged) (q : ℕ) → start ≤ q → AllByRecursion (λ (r : Logged). start ≤ r.seq) rs
    → IsRising p rs q → RiseBetween start rs q
rise_from start p [] q le is_from is = le
rise_from start p (r ∷ rs) q le is_from is = (is_from.0, rise_on (r.seq + 1) rs q is.1)

drawn_of : (start : ℕ) (o : Option ShardState) (rs : List Logged) (q : ℕ)
    → ((x : ShardState) → o ≡ Some x → x.start ≤ q) → AllByRecursion (IsFrom o) rs
    → IsRising 1 rs q → RiseBetween (start_of o) rs q
drawn_of start None [] q below is_from is = omega arith
drawn_of start None (r ∷ rs) q below is_from is = absurd is_from.0
drawn_of start (Some x) rs q below is_from is = rise_from x.start 1 rs q (below x refl) is_from is

pub all_drawn : (log : Journal) → IsLegal log → (s sh : ℕ) → AreDrawn log s sh
all_drawn log legal s sh =
    drawn_of 0 (shard_at log s sh) (records log s sh) (next_number log s)
    (λ x is. starts_at (shards log s) (next_number log s) sh x (starts_below log s) is)
    (records_from log legal s sh) (rising log legal s sh)

-- ---- The next number

one_more : (b : Bool) (s stream n : ℕ) → (stream == s) ≡ b → (n == last_number) ≡ false → (b ≡ true → n ≤ last_number)
    → (m : ℕ) → m ≤ last_number
    → (b ≡ true → n ≡ m) → (if b then 1 else 0) + m ≤ last_number
one_more true s stream n is free fits m le same = let e = same refl in grind (arith, nat_tests)
one_more false s stream n is free fits m le same = omega arith

next_by : (log : Journal) (line : Line) (e : Entry) (reply : Reply) (s : ℕ)
    → told log line e ≡ Accepted (line ∷ []) reply → next_number log s ≤ last_number
    → draws e s + next_number log s ≤ last_number
next_by log line (entry.Put stream shard number hash bytes key_bytes) reply s h le =
    let a = passes _ _ _ _ reply h in
    let b = passes _ _ _ _ reply a.1 in
    let d = passes _ _ _ _ reply b.1 in
    one_more (stream == s) s stream (next_number log stream) refl d.0
    (λ is. subst (λ k. next_number log k ≤ last_number) (sym (equal_so stream s is)) le)
    (next_number log s) le (λ is. ap (next_number log) (equal_so stream s is))
next_by log line (entry.Split stream shard key_hash number low high) reply s h le =
    let a = passes _ _ _ _ reply h in
    let b = passes _ _ _ _ reply a.1 in
    let d = passes _ _ _ _ reply b.1 in
    let e = passes _ _ _ _ reply d.1 in
    let f = passes _ _ _ _ reply e.1 in
    let g = passes _ _ _ _ reply f.1 in
    one_more (stream == s) s stream (next_number log stream) refl (neither_right _ _ g.0)
    (λ is. subst (λ k. next_number log k ≤ last_number) (sym (equal_so stream s is)) le) (next_number log s) le
    (λ is. ap (next_number log) (equal_so stream s is))
next_by log line (entry.Merged stream shard other number child) reply s h le =
    let a = passes _ _ _ _ reply h in
    let b = passes _ _ _ _ reply a.1 in
    let d = passes _ _ _ _ reply b.1 in
    let e = passes _ _ _ _ reply d.1 in
    let f = passes _ _ _ _ reply e.1 in
    one_more (stream == s) s stream (next_number log stream) refl (neither_right _ _ f.0)
    (λ is. subst (λ k. next_number log k ≤ last_number) (sym (equal_so stream s is)) le) (next_number log s) le
    (λ is. ap (next_number log) (equal_so stream s is))
next_by log line _ reply s h le = omega arith

pub next_fits : (log : Journal) → IsLegal log → (s : ℕ) → next_number log s ≤ last_number
next_fits [] legal s = omega arith
next_fits (line ∷ log) legal s = next_by log line line.what legal.0.reply s legal.0.allowed (next_fits log legal.1 s)

-- ---- Bytes

IsSizedEntry : Line → Entry → Type 0
IsSizedEntry line (entry.Put s sh number hash bytes key_bytes) =
    (bytes ≡ length line.payload) × (key_bytes ≡ length line.key)
    × (length line.payload + length line.key ≤ RECORD_BYTES)
IsSizedEntry line _ = Unit {0}

-- Each put among the lines has the byte counts of its payload and key.
abbrev AreSized : List Line → Type 0
AreSized ls = AllByRecursion (λ l. IsSizedEntry l l.what) ls

sized_if : (b : Bool) (earlier : List Logged) (r : Logged) → IsSized r → AllByRecursion IsSized earlier
    → AllByRecursion IsSized (if b then earlier ++ (r ∷ []) else earlier)
sized_if true earlier r new old = all_push IsSized earlier r old new
sized_if false earlier r new old = old

sized_by : (line : Line) (e : Entry) (s sh : ℕ) (earlier : List Logged) → IsSizedEntry line e
    → AllByRecursion IsSized earlier
    → AllByRecursion IsSized (records_after line e s sh earlier)
unfolding IsSizedEntry
sized_by line (entry.Put stream shard number hash bytes key_bytes) s sh earlier is old =
    let r : Logged = record {
      seq = number;
      arrival = line.clock;
      bytes = bytes + key_bytes;
      key = line.key;
      payload = line.payload;
    } in
    sized_if ((stream == s) && (shard == sh)) earlier r (omega (arith, is.0, is.1), omega (arith, is.0, is.1, is.2)) old
sized_by line _ s sh earlier is old = old

sized_records : (log : Journal) (s sh : ℕ) → AreSized log → AllByRecursion IsSized (records log s sh)
sized_records [] s sh are = tt
sized_records (line ∷ log) s sh are =
    sized_by line line.what s sh (records log s sh) are.0 (sized_records log s sh are.1)

-- ---- The lines of a history

line_sized : (log : Journal) (c actor : ℕ) (command : Command) (line : Line) → IsAdded log c actor command line
    → IsLawfulCommand command → IsSizedEntry line line.what
unfolding IsSizedEntry
line_sized log c actor _ _ (Alone _ _ _ (Puts name item s named fits)) is = (refl, refl, is.1.bytes)
line_sized log c actor _ _ (Stored_one name items old s n item among) is =
    (refl, refl, (of_all IsItem items item among is.1.each).bytes)
line_sized log c actor _ _ _ is = tt

sized_journal : (h : List Turn) → IsHistory h → AreSized (journal h)
sized_journal h lawful =
    each_journal (λ line. IsSizedEntry line line.what) IsLawful (λ log c turn is line added.
    line_sized log c turn.by turn.what line added is.1) h lawful

pub all_sized : (h : List Turn) → IsHistory h → (s sh : ℕ) → AllByRecursion IsSized (records (journal h) s sh)
all_sized h lawful s sh = sized_records (journal h) s sh (sized_journal h lawful)
