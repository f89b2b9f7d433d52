-- Which journals a service shows (represents), and when a command leads from one service to another.
use Rattle.std.specs.Prelude.{ℕ, ◌≡◌, ◌+◌, ◌==◌, ◌||◌, ◌<◌, ◌++◌, Bool, false, List, [], ◌∷◌, map, remove, slice_get}
use Rattle.std.specs.Prelude.{slice_set, Result, Some}
use Rattle.std.specs.List.{AllByRecursion}
use Rattle.kds_defs.specs.declared.command.Command.{Command}
use Rattle.kds_defs.specs.declared.reply.Refusal.{Refusal}
use Rattle.kds_defs.specs.declared.reply.Reply.{Reply}
use Rattle.kds_defs.specs.Histories.{answer_of, decide, lines_of}
use Rattle.kds_defs.specs.declared.entry.Entry.TheVariants as entry
use Rattle.kds_defs.specs.Journal.{Journal, Line, plain_line, with_lines}
use Rattle.kds_defs.specs.Streams.{is_live, made_count}
use Rattle.kds_defs.specs.Subjects.{IsFresh}
use Rattle.kds_stream.specs.Showing.{Shows}
use Rattle.kds_stream.specs.Value.{StreamValue}
use Rattle.kds_service.specs.Lines.{AreOf}

-- A service: the live streams are in the order of their numbers; `made_count` counts every stream ever made.
pub record ServiceValue : Type 0 where
  pub clock : ℕ
  pub clock_before : ℕ
  pub made_count : ℕ
  pub streams : List StreamValue
  pub next_to_settle : ℕ

-- The service at the clock `c` with the earlier clock `b`, of `n` streams ever made, the first to be settled next.
abbrev pub service : (c b n : ℕ) (vs : List StreamValue) → ServiceValue
service c b n vs = record { clock = c; clock_before = b; made_count = n; streams = vs; next_to_settle = 0 }

abbrev pub names_of : (vs : List StreamValue) → List (List ℕ)
names_of vs = map (λ v. v.name) vs

abbrev pub numbers_of : (vs : List StreamValue) → List ℕ
numbers_of vs = map (λ v. v.no) vs

-- All streams are at the clock `c`.
abbrev pub AreAt : (c : ℕ) (vs : List StreamValue) → Type 0
AreAt c vs = AllByRecursion (λ v. v.clock ≡ c) vs

-- The numbers rise, and are all above `low`.
abbrev pub IsRising : (low : ℕ) (ns : List ℕ) → Type 0
IsRising low [] = Unit {0}
IsRising low (n ∷ ns) = (low < n) × IsRising n ns

-- Whether the number `s` is in the list.
abbrev pub is_among : (ns : List ℕ) (s : ℕ) → Bool
is_among [] s = false
is_among (n ∷ ns) s = (n == s) || is_among ns s

-- Each of the streams shows the journal.
abbrev pub AreShown : (log : Journal) (vs : List StreamValue) → Type 0
AreShown log vs = AllByRecursion (λ v. Shows v log) vs

-- The service shows the journal: its streams do, no other stream is live, and higher numbers are unused.
pub record ShowsStreams (w : ServiceValue) (log : Journal) : Type 0 where
  pub made : made_count log ≡ w.made_count
  pub at : AreAt w.clock w.streams
  pub rising : IsRising 0 (numbers_of w.streams)
  pub shown : AreShown log w.streams
  pub others : (s : ℕ) → is_among (numbers_of w.streams) s ≡ false → is_live log s ≡ false
  pub unmade : (s : ℕ) → w.made_count < s → IsFresh log s

-- The service shows the journal; which stream is settled next doesn't matter.
abbrev pub ShowsAll : (w : ServiceValue) (journal : Journal) → Type 0
ShowsAll w = ShowsStreams (record w { next_to_settle = 0 })

-- The statement is true of each journal that a service with the streams shows, and of this service's clock.
abbrev pub InJournalsOf : (vs : List StreamValue) (holds : Journal → ℕ → Type 0) → Type 0
InJournalsOf vs holds = (c b n : ℕ) (log : Journal) → ShowsAll (service c b n vs) log → holds log c

-- ---- The service still shows the journal after a stream is changed, added or removed

-- Here the service has the clock `c`, the earlier clock `b`, the streams `vs`, and `n` streams ever made.
module _ (c b n : ℕ) (vs : List StreamValue) (log : Journal) where
  -- The service with `v` in place of the stream at `i` shows the journal with lines of this stream.
  abbrev pub StaysShown : (i : ℕ) (x v : StreamValue) (lines : List Line) → Type 0
  StaysShown i x v lines =
      slice_get vs i ≡ Some x → v.no ≡ x.no → v.clock ≡ c → AreOf x.no c lines → Shows v (with_lines lines log)
      → ShowsAll (service c b n (slice_set vs i v)) (with_lines lines log)

  -- The service with the new stream at its end shows the journal with the line that makes it.
  abbrev pub StaysShownWith : (v : StreamValue) (actor : ℕ) (name : List ℕ) (count : ℕ) → Type 0
  StaysShownWith v actor name count =
      let made : Line = plain_line c actor (entry.Made (n + 1) name count) in
      v.no ≡ n + 1 → v.clock ≡ c → Shows v (made ∷ log) → ShowsAll (service c b (n + 1) (vs ++ v ∷ [])) (made ∷ log)

  -- The service without the stream at `i` shows the journal with the line that deletes it.
  abbrev pub StaysShownWithout : (i : ℕ) (x : StreamValue) (actor : ℕ) → Type 0
  StaysShownWithout i x actor = slice_get vs i ≡ Some x
      → ShowsAll (service c b n (remove vs i)) (plain_line c actor (entry.Gone x.no) ∷ log)

-- After each journal that the service showed, the answer is the machine's, and it then shows its lines too.
abbrev pub Leads : (old new : ServiceValue) (command : Command) (gives : Result Reply Refusal) → Type 0
Leads old new command gives = (log : Journal) (actor : ℕ) → ShowsAll old log
    → (gives ≡ answer_of (decide log old.clock actor command))
    × ShowsAll new (with_lines (lines_of (decide log old.clock actor command)) log)

-- The command leads to the streams `ws` in place of `vs`; the clocks and the count of streams stay.
abbrev pub LeadsTo : (c : ℕ) (vs ws : List StreamValue) (command : Command) (gives : Result Reply Refusal) → Type 0
LeadsTo c vs ws command gives = (b n : ℕ) → Leads (service c b n vs) (service c b n ws) command gives
