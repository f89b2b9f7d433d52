-- Reading an input line by line: which lines the taker took, what was written, and why it stopped.
use Rattle.std.specs.Prelude.{◌≡◌, ◌⊎◌, ℕ, ◌+◌, List, [], ◌∷◌, ◌++◌, length, Result, Err}
use Rattle.std.specs.declared.option.Option.{Option}
use Rattle.std.specs.Io.KnownBytes.{Consumes}
use Rattle.kds_lines.specs.Lines.{Fed, Begins, IsTooLong, NoFeed, lined}
use Rattle.kds_lines.specs.Telling.{Unwritten}
use Rattle.kds_lines.specs.Writing.{Wrote}
use Rattle.kds_lines.specs.declared.outcome.Outcome.{Outcome}
use Rattle.kds_lines.specs.declared.outcome.Outcome.TheVariants.{Stopped, TooLong, Read, Write, Memory}
use Rattle.kds_lines.specs.declared.line_buffer.LineBuffer.{LineBuffer}

-- The bytes `fed` were fed: the taker took their whole lines, and the rest and unwritten output are in the buffer.
pub record Stands (took : List (List ℕ) → Type 0) (output : List (List ℕ) → List ℕ) (fed : List ℕ)
    (line_buffer : LineBuffer)
    (start now : Option (List ℕ)) : Type 0 where
  pub texts : List (List ℕ)
  pub bytes : Fed fed texts line_buffer.used line_buffer.held
  pub count : line_buffer.count ≡ length texts
  pub taken : took texts
  pub wrote : Wrote start now (output texts) line_buffer.output []

-- Why the reading stopped after the lines `texts` of `fed`; Write and Memory tell nothing more.
abbrev pub Stops : (outcome : Outcome) (refuses : List (List ℕ) → List ℕ → Type 0) (fed : List ℕ)
    (texts : List (List ℕ)) → Type 0
Stops TooLong refuses fed texts = IsTooLong fed texts
Stops (Stopped n) refuses fed texts = (text : List ℕ) × Begins fed (texts ++ text ∷ []) × refuses texts text
    × (n ≡ length texts + 1)
Stops Read refuses fed texts = texts ≡ (lined fed).texts
Stops Write refuses fed texts = Unit {0}
Stops Memory refuses fed texts = Unit {0}
Stops _ refuses fed texts = ⊥

-- The taker took `texts`; with Memory, it may have taken a part of the next line too.
abbrev pub HasTakenFed : (outcome : Outcome) (took : List (List ℕ) → Type 0) (broke : List (List ℕ) → List ℕ → Type 0)
    (fed : List ℕ) (texts : List (List ℕ)) → Type 0
HasTakenFed Memory took broke fed texts =
    took texts ⊎ ((text : List ℕ) × Begins fed (texts ++ text ∷ []) × broke texts text)
HasTakenFed _ took broke fed texts = took texts

-- The reading stopped with `outcome` in `fed`; output is missing only if the sink failed or memory ran out.
pub record Halted (outcome : Outcome) (took : List (List ℕ) → Type 0) (broke refuses : List (List ℕ) → List ℕ → Type 0)
    (output : List (List ℕ) → List ℕ) (fed waits : List ℕ) (start now : Option (List ℕ)) : Type 0 where
  pub texts : List (List ℕ)
  pub begins : Begins fed texts
  pub taken : HasTakenFed outcome took broke fed texts
  pub stops : Stops outcome refuses fed texts
  pub missing : List ℕ
  pub wrote : Wrote start now (output texts) waits missing
  pub unwritten : Unwritten outcome missing

-- All of `piece` but `rest` was fed after `fed`, and the line buffer stands for it.
pub record FedLines (took : List (List ℕ) → Type 0) (output : List (List ℕ) → List ℕ) (fed piece rest : List ℕ)
    (line_buffer : LineBuffer)
    (start now : Option (List ℕ)) : Type 0 where
  pub front : List ℕ
  pub parts : piece ≡ front ++ rest
  pub stands : Stands took output (fed ++ front) line_buffer start now

-- ---- One step of a reading

-- A step, with the taker's lines, the line buffer and the sink's bytes before and after it.
module _ (took took_now : List (List ℕ) → Type 0) (output : List (List ℕ) → List ℕ) (old new : LineBuffer)
    (held now : Option (List ℕ)) where
  -- Whatever was fed before, the step feeds `piece`.
  abbrev pub Feeds : (piece : List ℕ) → Type 0
  Feeds piece = (fed : List ℕ) (start : Option (List ℕ)) → Stands took output fed old start held
      → Stands took_now output (fed ++ piece) new start now

  -- Whatever was fed before, the step feeds `piece` except for `rest` at its end.
  abbrev pub FeedsFront : (piece rest : List ℕ) → Type 0
  FeedsFront piece rest = (fed : List ℕ) (start : Option (List ℕ)) → Stands took output fed old start held
      → FedLines took_now output fed piece rest new start now

  -- Whatever was fed before, the step feeds `tail` and a line feed, which end the held line.
  abbrev pub EndsLine : (tail : List ℕ) → Type 0
  EndsLine tail =
      (fed : List ℕ) (start : Option (List ℕ)) → Stands took output fed old start held → NoFeed tail
      → Stands took_now output (fed ++ (tail ++ 10 ∷ [])) new start now

  module _ (broke refuses : List (List ℕ) → List ℕ → Type 0) where
    -- Whatever was fed before, the reading stops in `piece`.
    abbrev pub StopsIn : (outcome : Outcome) (piece : List ℕ) → Type 0
    StopsIn outcome piece =
        (fed : List ℕ) (start : Option (List ℕ)) → Stands took output fed old start held
        → Halted outcome took_now broke refuses output (fed ++ piece) new.output start now

    -- Whatever was fed before, the reading stops in the line that ends with `tail`.
    abbrev pub StopsInLine : (outcome : Outcome) (tail : List ℕ) → Type 0
    StopsInLine outcome tail =
        (fed : List ℕ) (start : Option (List ℕ)) → Stands took output fed old start held → NoFeed tail
        → Halted outcome took_now broke refuses output (fed ++ (tail ++ 10 ∷ [])) new.output start now

-- The number of bytes fed, with the line feeds of the completed lines.
abbrev pub fed_count : (line_buffer : LineBuffer) → ℕ
fed_count line_buffer = line_buffer.used + length line_buffer.held

-- All that was taken from the source was fed, and no output waits.
pub record Running (took : List (List ℕ) → Type 0) (output : List (List ℕ) → List ℕ) (all left : Option (List ℕ))
    (line_buffer : LineBuffer)
    (start now : Option (List ℕ)) : Type 0 where
  pub fed : List ℕ
  pub consumed : Consumes all left fed
  pub stands : Stands took output fed line_buffer start now
  pub flushed : line_buffer.output ≡ []

-- The reading stopped in the bytes taken from the source, and no output waits.
pub record HaltedAfter (outcome : Outcome) (took : List (List ℕ) → Type 0)
    (broke refuses : List (List ℕ) → List ℕ → Type 0)
    (output : List (List ℕ) → List ℕ) (all left start now : Option (List ℕ)) : Type 0 where
  pub fed : List ℕ
  pub consumed : Consumes all left fed
  pub halted : Halted outcome took broke refuses output fed [] start now

-- ---- One round of a reading: a read and what follows from it

-- A round, with the taker's lines and the bytes of the source and the sink before and after it.
module _ (took took_now : List (List ℕ) → Type 0) (output : List (List ℕ) → List ℕ)
    (left left_now held now : Option (List ℕ)) where
  -- A running reading still runs, now with the line buffer `new`.
  abbrev pub RunsOn : (old new : LineBuffer) → Type 0
  RunsOn old new = (all start : Option (List ℕ)) → Running took output all left old start held
      → Running took_now output all left_now new start now

  -- A running reading has now stopped with `outcome`.
  abbrev pub StopsRunning : (broke refuses : List (List ℕ) → List ℕ → Type 0) (outcome : Outcome) (old : LineBuffer)
      → Type 0
  StopsRunning broke refuses outcome old =
      (all start : Option (List ℕ)) → Running took output all left old start held
      → HaltedAfter outcome took_now broke refuses output all left_now start now

-- The outcome if a piece's output can't be written: Memory if feeding ran out of it, otherwise Write.
abbrev pub lost_after : (result : Result (Unit {0}) Outcome) → Outcome
lost_after (Err Memory) = Memory
lost_after _ = Write

-- Why bytes that end no line can't be held: too long after `texts`, or want of memory.
abbrev pub HoldStops : (outcome : Outcome) (fed : List ℕ) (texts : List (List ℕ)) → Type 0
HoldStops TooLong fed texts = IsTooLong fed texts
HoldStops Memory fed texts = Unit {0}
HoldStops _ fed texts = ⊥

-- A line may stop the reading with this outcome: it is refused or too long, or memory runs out.
abbrev pub IsOwnStop : (outcome : Outcome) → Type 0
IsOwnStop (Stopped n) = Unit {0}
IsOwnStop TooLong = Unit {0}
IsOwnStop Memory = Unit {0}
IsOwnStop _ = ⊥

-- Feeding a piece may stop the reading with this outcome: the sink fails, or a line stops it.
abbrev pub IsFeedStop : (o : Outcome) → Type 0
IsFeedStop Write = Unit {0}
IsFeedStop o = IsOwnStop o

-- The reading may stop before the input's end with this outcome: the source fails, or feeding stops it.
abbrev pub IsStop : (o : Outcome) → Type 0
IsStop Read = Unit {0}
IsStop o = IsFeedStop o
