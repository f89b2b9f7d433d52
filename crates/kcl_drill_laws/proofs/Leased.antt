-- Turns on leases change no stream, and no trim floor at their clock or later.
use Rattle.std.proofs.Common.{◌≡◌, ℕ, ◌≤◌, false, List, [], ◌∷◌, ◌++◌, None, refl, ◌∙◌, arith}
use Rattle.std.specs.List.{AllByRecursion, filter, find}
use Rattle.kds_defs.proofs.Elsewhere.{SameStream, count_same, floor_same, of_no_stream, same_again, same_along}
use Rattle.kds_defs.proofs.Elsewhere.{same_stream}
use Rattle.kds_defs.specs.declared.command.Command.{Command}
use Rattle.kds_defs.specs.declared.command.Turn.{Turn}
use Rattle.kds_defs.specs.Histories.{clock, decide, decision, journal, lines_of}
use Rattle.kds_defs.specs.Journal.{Line, Journal, with_lines}
use Rattle.kds_defs.specs.Kinds.{is_service}
use Rattle.kds_defs.specs.Streams.{is_live, live_streams, made_count, numbers_from, same_name, trim_floor}
use Rattle.kds_defs.specs.Subjects.{stream_of}
use Rattle.kds_defs.proofs.Walk.{IsAdded, Alone, Makes, each_line}
use Rattle.kcl_drill_laws.specs.Leasing.{AreOnLeases, HasSameStreams}

-- Each line is about a lease, at the clock `c`.
abbrev AreLeases : ℕ → List Line → Type 0
AreLeases c ls = AllByRecursion (λ l. (stream_of l.what ≡ None) × (l.clock ≡ c)) ls

lease_line : (log : Journal) (c actor : ℕ) (command : Command) (line : Line) → IsAdded log c actor command line
    → is_service command ≡ false
    → (stream_of line.what ≡ None) × (line.clock ≡ c)
lease_line log c actor _ _ (Alone _ _ _ (Makes key start)) is = (refl, refl)
lease_line log c actor _ _ _ is = (cc, refl)

lease_adds : (log : Journal) (c actor : ℕ) (command : Command) → is_service command ≡ false
    → AreLeases c (lines_of (decide log c actor command))
lease_adds log c actor command is =
    each_line (λ l. (stream_of l.what ≡ None) × (l.clock ≡ c)) log c actor command
    (λ line added. lease_line log c actor command line added is)

-- ---- What lines about leases leave unchanged

-- Both journals made the same number of streams, and say the same of each.
record SameReadings (log log' : Journal) : Type 0 where
  count : made_count log ≡ made_count log'
  each : (s : ℕ) → SameStream log log' s

line_same : (log log' : Journal) (line : Line) → stream_of line.what ≡ None → SameReadings log log'
    → SameReadings (line ∷ log) log'
line_same log log' line none same = record {
  count = count_same line.what (made_count log) none ∙ same.count;
  each = λ s. same_along (line ∷ log) log log' s (same_stream log line s (of_no_stream line.what s none)) (same.each s);
}

lines_same : (c : ℕ) (ls : List Line) (log log' : Journal) → AreLeases c ls → SameReadings log log'
    → SameReadings (with_lines ls log) log'
lines_same c [] log log' are same = same
lines_same c (line ∷ ls) log log' are same =
    lines_same c ls (line ∷ log) log' are.1 (line_same log log' line are.0.0 same)

turns_same : (more h : List Turn) → AreOnLeases more → SameReadings (journal (more ++ h)) (journal h)
turns_same [] h are = record { count = refl; each = same_again (journal h) }
turns_same (turn ∷ more) h are =
    let log = journal (more ++ h) in
    let moment = clock (turn ∷ (more ++ h)) in
    lines_same moment (lines_of (decision log moment turn)) log (journal h)
    (lease_adds log moment turn.by turn.what are.0)
    (turns_same more h are.1)

-- ---- The streams

live_same : (log log' : Journal) → SameReadings log log' → live_streams log ≡ live_streams log'
live_same log log' same = λ i. filter (λ s. (same.each s).live i) (numbers_from 1 (same.count i))

pub streams_same : (more h : List Turn) → AreOnLeases more → HasSameStreams (journal (more ++ h)) (journal h)
streams_same more h are =
    let same = turns_same more h are in
    let live = live_same (journal (more ++ h)) (journal h) same in
    record {
      live = live;
      named = λ name. λ i. find (λ s. same_name ((same.each s).named i) name) (live i);
      shards = λ s. (same.each s).shards_are;
      records = λ s. (same.each s).records_are;
      next = λ s. (same.each s).next_is;
      hours = λ s. (same.each s).hours_are;
    }

-- ---- The trim floors

pub live_stays : (more h : List Turn) → AreOnLeases more → (s : ℕ)
    → is_live (journal (more ++ h)) s ≡ is_live (journal h) s
live_stays more h are s = ((turns_same more h are).each s).live

trim_lines : (d : ℕ) (ls : List Line) (log : Journal) (c s : ℕ) → AreLeases d ls → d ≤ c
    → trim_floor (with_lines ls log) c s ≡ trim_floor log c s
trim_lines d [] log c s are le = refl
trim_lines d (line ∷ ls) log c s are le =
    let same = same_stream log line s (of_no_stream line.what s are.0.0) in
    trim_lines d ls (line ∷ log) c s are.1 le ∙ floor_same log line s c (omega (arith, are.0.1, le)) same.hours_are

pub floor_stays : (more h : List Turn) (c : ℕ) → AreOnLeases more → clock (more ++ h) ≤ c → (s : ℕ)
    → trim_floor (journal (more ++ h)) c s ≡ trim_floor (journal h) c s
floor_stays [] h c are le s = refl
floor_stays (turn ∷ more) h c are le s =
    let log = journal (more ++ h) in
    let moment = clock (turn ∷ (more ++ h)) in
    trim_lines moment (lines_of (decision log moment turn)) log c s (lease_adds log moment turn.by turn.what are.0) le
    ∙ floor_stays more h c are.1 (omega arith) s
