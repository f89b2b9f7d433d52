-- After a line or piece was fed, the buffer stands for the fed bytes, or the reading is halted.
use Rattle.std.proofs.Common.{◌≡◌, ℕ, ◌+◌, List, [], ◌∷◌, ◌++◌, length, Bool, true, false, Option, Some, None, refl}
use Rattle.std.proofs.Common.{sym, ap, ◌∙◌, subst, ◌<◌, ◌≤◌, ◌⊎◌, arith, inl, inr}
use Rattle.std.proofs.lemmas.Grind.{common_steps}
use Rattle.std.proofs.lemmas.List.{append_assoc, append-nil, length-append}
use Rattle.std.specs.Io.KnownBytes.{Appends, IsAtEnd, Keeps}
use Rattle.std.specs.Option.{IfSome}
use Rattle.std.specs.Prelude.{◌==◌, if◌then◌else◌, OnOk, OnErr, IfErr, Result, Ok, Err}
use Rattle.std.proofs.KnownBytes.{Appends-trans, Consumes-kept}
use Rattle.kds_ends.specs.Causes.{AppendsFront}
use Rattle.kds_defs.specs.declared.limits.TheConstants.{LINE_BYTES, INPUT_BYTES}
use Rattle.kds_lines.specs.declared.outcome.Outcome.{Outcome}
use Rattle.kds_lines.specs.declared.outcome.Outcome.TheVariants.{Whole, Unfinished, Stopped, TooLong, Read, Write}
use Rattle.kds_lines.specs.declared.outcome.Outcome.TheVariants.{Memory}
use Rattle.kds_lines.specs.declared.line_buffer.LineBuffer.{LineBuffer}
use Rattle.kds_lines.specs.Lines.{unfinished, too_long, is_too_long, lined, last_of, preceded_by, Fed, Begins}
use Rattle.kds_lines.specs.Lines.{IsTooLong}
use Rattle.kds_lines.specs.Lines.{NoFeed}
use Rattle.kds_lines.specs.Writing.{Wrote, Loses}
use Rattle.kds_lines.specs.LineBuffer.{Stands, Stops, Halted, HasTakenFed, FedLines, Running, HaltedAfter, HoldStops}
use Rattle.kds_lines.specs.LineBuffer.{IsOwnStop, IsFeedStop, IsStop, lost_after}
use Rattle.kds_lines.specs.Taking.{Goes, Breaks}
use Rattle.kds_lines.specs.Telling.{Because, HasTaken, Unwritten, Told}
use Rattle.kds_lines.proofs.Pieces.{line_fed, line_over, more_fed, more_over, at_end, lines_so_far, fed_begins}
use Rattle.kds_lines.proofs.Pieces.{begins_more, too_long_more}

-- ---- The output that waits is written

pub flushed : (start old now : Option (List ℕ)) (output waits missing : List ℕ)
    → Wrote start old output waits missing → Appends old now waits → Wrote start now output [] missing
flushed start old now output waits missing w a = record {
  front = w.front ++ waits;
  parts = w.parts ∙ sym (append_assoc w.front waits missing);
  written = Appends-trans start old now w.front waits w.written a;
}

pub lost : (start old now : Option (List ℕ)) (output waits missing : List ℕ)
    → Wrote start old output waits missing → AppendsFront old now waits → Loses start now output
lost start old now output waits missing w a = (
  a.1 ++ missing,
  record {
    front = w.front ++ a.0;
    parts = w.parts ∙ ap (λ z. w.front ++ (z ++ missing)) a.2 ∙ ap (λ z. w.front ++ z) (append_assoc a.0 a.1 missing)
        ∙ sym (append_assoc w.front a.0 (a.1 ++ missing));
    written = Appends-trans start old now w.front a.0 w.written a.3;
  },
)

pub flush_ok : {E : Type 0} (r : Result (Unit {0}) E) (old now : Option (List ℕ)) (piece waits : List ℕ)
    → piece ≡ waits → OnOk r (Appends old now piece)
    → OnOk r ((start : Option (List ℕ)) (whole missing : List ℕ) → Wrote start old whole waits missing
    → Wrote start now whole [] missing)
flush_ok (Ok x) old now piece waits e h =
    λ start whole missing w.
    flushed start old now whole waits missing w (subst (λ (z : List ℕ). Appends old now z) e h)
flush_ok (Err x) old now piece waits e h = tt

pub flush_err : {E : Type 0} (r : Result (Unit {0}) E) (old now : Option (List ℕ)) (piece waits : List ℕ)
    → piece ≡ waits → OnErr r (AppendsFront old now piece)
    → OnErr r ((start : Option (List ℕ)) (whole missing : List ℕ) → Wrote start old whole waits missing
    → Loses start now whole)
flush_err (Ok x) old now piece waits e h = tt
flush_err (Err x) old now piece waits e h =
    λ start whole missing w.
    lost start old now whole waits missing w (subst (λ (z : List ℕ). AppendsFront old now z) e h)

-- ---- A line ends

at_length : (len used : ℕ) (w : List ℕ) {b : Bool} → len ≡ length w → is_too_long len (used + len + 1) ≡ b
    → is_too_long (length w) (used + length w + 1) ≡ b
at_length len used w {b} el h = subst (λ (z : ℕ). is_too_long z (used + z + 1) ≡ b) el h

module _ (earlier took : List (List ℕ) → Type 0) (broke refuses : List (List ℕ) → List ℕ → Type 0)
    (output : List (List ℕ) → List ℕ) where
  -- A line that the taker takes is fed.
  pub line_taken : (y a : List ℕ) (len : ℕ) (old new : LineBuffer) (start now : Option (List ℕ))
      → len ≡ length (old.held ++ a)
      → (st : Stands earlier output y old start now) → NoFeed a → is_too_long len (old.used + len + 1) ≡ false
      → ((lines : List (List ℕ)) → earlier lines → Goes took output lines (old.held ++ a) old.output new.output)
      → new.held ≡ [] → new.used ≡ old.used + len + 1 → new.count ≡ old.count + 1
      → Stands took output (y ++ (a ++ 10 ∷ [])) new start now
  line_taken y a len old new start now el st n short goes eh eu ec =
      let g = goes st.texts st.taken in
      let fed = line_fed y a st.texts old.used old.held st.bytes n (at_length len old.used (old.held ++ a) el short) in
      let used : new.used ≡ old.used + length (old.held ++ a) + 1 = eu ∙ ap (λ z. old.used + z + 1) el in
      record {
        texts = st.texts ++ (old.held ++ a) ∷ [];
        bytes = rw (eh, used) fed;
        count = ec ∙ ap (λ z. z + 1) st.count ∙ sym (length-append st.texts ((old.held ++ a) ∷ []));
        taken = g.taken;
        wrote = record {
          front = st.wrote.front;
          parts = g.grows ∙ ap (λ z. z ++ g.added) st.wrote.parts
              ∙ append_assoc st.wrote.front (old.output ++ []) g.added
              ∙ ap (λ z. st.wrote.front ++ (z ++ g.added)) (append-nil old.output)
              ∙ ap (λ z. st.wrote.front ++ z) (sym g.wrote ∙ sym (append-nil new.output));
          written = st.wrote.written;
        };
      }

  pub line_stops : (o : Outcome) (y a : List ℕ) (ts : List (List ℕ)) (used : ℕ) (held waits : List ℕ)
      (start now : Option (List ℕ)) → Fed y ts used held → NoFeed a
      → HasTakenFed o took broke (y ++ (a ++ 10 ∷ [])) ts → Stops o refuses (y ++ (a ++ 10 ∷ [])) ts → Unwritten o []
      → Wrote start now (output ts) waits []
      → Halted o took broke refuses output (y ++ (a ++ 10 ∷ [])) waits start now
  line_stops o y a ts used held waits start now f n taken stops all w = record {
    texts = ts;
    begins = begins_more y (a ++ 10 ∷ []) ts (fed_begins y ts used held f);
    taken = taken;
    stops = stops;
    missing = [];
    wrote = w;
    unwritten = all;
  }

  line_breaks : (y a held waits : List ℕ) (ts : List (List ℕ)) (used : ℕ) (start now : Option (List ℕ))
      → Fed y ts used held → NoFeed a
      → is_too_long (length (held ++ a)) (used + length (held ++ a) + 1) ≡ false → Wrote start now (output ts) waits []
      → Breaks took broke output ts (held ++ a)
      → Halted Memory took broke refuses output (y ++ (a ++ 10 ∷ [])) waits start now
  line_breaks y a held waits ts used start now f n short w (inl taken) =
      line_stops Memory y a ts used held waits start now f n (inl taken) tt tt w
  line_breaks y a held waits ts used start now f n short w (inr (inr part)) =
      line_stops Memory y a ts used held waits start now f n
      (inr (held ++ a, fed_begins _ _ _ _ (line_fed y a ts used held f n short), part)) tt tt w
  line_breaks y a held waits ts used start now f n short w (inr (inl more)) = record {
    texts = ts ++ (held ++ a) ∷ [];
    begins = fed_begins _ _ _ _ (line_fed y a ts used held f n short);
    taken = inl more.0;
    stops = tt;
    missing = more.1.0;
    wrote = record {
      front = w.front;
      parts = more.1.1 ∙ ap (λ z. z ++ more.1.0) w.parts ∙ append_assoc w.front (waits ++ []) more.1.0
          ∙ ap (λ z. w.front ++ (z ++ more.1.0)) (append-nil waits);
      written = w.written;
    };
    unwritten = tt;
  }

  -- A line that is too long, or makes the input so, halts the reading with TooLong.
  pub stands_over : (y a : List ℕ) (len : ℕ) (old : LineBuffer) (start now : Option (List ℕ))
      → len ≡ length (old.held ++ a)
      → Stands took output y old start now → NoFeed a → is_too_long len (old.used + len + 1) ≡ true
      → Halted TooLong took broke refuses output (y ++ (a ++ 10 ∷ [])) old.output start now
  stands_over y a len old start now el st n over =
      line_stops TooLong y a st.texts old.used old.held old.output start now st.bytes n st.taken
      (line_over y a st.texts old.used old.held st.bytes n (at_length len old.used (old.held ++ a) el over))
      refl st.wrote

  -- A line that the taker refuses halts the reading with Stopped and the line's number.
  pub stands_stops : (y a waits : List ℕ) (len : ℕ) (old : LineBuffer) (start now : Option (List ℕ))
      → len ≡ length (old.held ++ a)
      → (st : Stands earlier output y old start now) → NoFeed a → is_too_long len (old.used + len + 1) ≡ false
      → waits ≡ old.output
      → ((lines : List (List ℕ)) → earlier lines → took lines × refuses lines (old.held ++ a))
      → Halted (Stopped (old.count + 1)) took broke refuses output (y ++ (a ++ 10 ∷ [])) waits start now
  stands_stops y a waits len old start now el st n short same stops =
      let s = stops st.texts st.taken in
      let fed = line_fed y a st.texts old.used old.held st.bytes n (at_length len old.used (old.held ++ a) el short) in
      line_stops (Stopped (old.count + 1)) y a st.texts old.used old.held waits start now st.bytes n s.0
      (old.held ++ a, fed_begins _ _ _ _ fed, s.1, ap (λ z. z + 1) st.count) refl (rw same st.wrote)

  -- A line at which memory runs out halts the reading with Memory.
  pub stands_breaks : (y a waits : List ℕ) (len : ℕ) (old : LineBuffer) (start now : Option (List ℕ))
      → len ≡ length (old.held ++ a)
      → (st : Stands earlier output y old start now) → NoFeed a → is_too_long len (old.used + len + 1) ≡ false
      → waits ≡ old.output
      → ((lines : List (List ℕ)) → earlier lines → Breaks took broke output lines (old.held ++ a))
      → Halted Memory took broke refuses output (y ++ (a ++ 10 ∷ [])) waits start now
  stands_breaks y a waits len old start now el st n short same breaks =
      line_breaks y a old.held waits st.texts old.used start now st.bytes n
      (at_length len old.used (old.held ++ a) el short) (rw same st.wrote) (breaks st.texts st.taken)

  -- ---- Output is written, or lost

  -- Writing waiting output leaves the buffer standing for the fed bytes.
  pub stands_written : (y : List ℕ) (old new : LineBuffer) (start mid now : Option (List ℕ)) → new.held ≡ old.held
      → new.count ≡ old.count → new.used ≡ old.used
      → (st : Stands took output y old start mid)
      → ((whole missing : List ℕ) → Wrote start mid whole old.output missing → Wrote start now whole new.output missing)
      → Stands took output y new start now
  stands_written y old new start mid now eh ec eu st writes = record {
    texts = st.texts;
    bytes = rw (eh, eu) st.bytes;
    count = ec ∙ st.count;
    taken = st.taken;
    wrote = writes (output st.texts) [] st.wrote;
  }

  -- A failed write halts the reading with Write, and the unwritten output is lost.
  pub stands_lost : (y waits : List ℕ) (old : LineBuffer) (start mid now : Option (List ℕ)) → waits ≡ []
      → (st : Stands took output y old start mid)
      → ((whole missing : List ℕ) → Wrote start mid whole old.output missing → Loses start now whole)
      → Halted Write took broke refuses output y waits start now
  stands_lost y waits old start mid now none st loses =
      let l = loses (output st.texts) [] st.wrote in record {
        texts = st.texts;
        begins = fed_begins _ _ _ _ st.bytes;
        taken = st.taken;
        stops = tt;
        missing = l.0;
        wrote = rw none l.1;
        unwritten = tt;
      }

  -- Waiting output may be written after the reading was halted.
  pub halted_written : (o : Outcome) (y waits : List ℕ) (start mid now : Option (List ℕ))
      → Halted o took broke refuses output y waits start mid
      → ((whole missing : List ℕ) → Wrote start mid whole waits missing → Wrote start now whole [] missing)
      → Halted o took broke refuses output y [] start now
  halted_written o y waits start mid now h writes = record {
    texts = h.texts;
    begins = h.begins;
    taken = h.taken;
    stops = h.stops;
    missing = h.missing;
    wrote = writes (output h.texts) h.missing h.wrote;
    unwritten = h.unwritten;
  }

  lost_there : (y : List ℕ) (ts : List (List ℕ)) (start now : Option (List ℕ)) → Begins y ts → took ts
      → Loses start now (output ts)
      → Halted Write took broke refuses output y [] start now
  lost_there y ts start now begins taken l = record {
    texts = ts;
    begins = begins;
    taken = taken;
    stops = tt;
    missing = l.0;
    wrote = l.1;
    unwritten = tt;
  }

  pub halted_lost : (o : Outcome) (y waits : List ℕ) (start mid now : Option (List ℕ))
      → Halted o took broke refuses output y waits start mid
      → ((whole missing : List ℕ) → Wrote start mid whole waits missing → Loses start now whole)
      → Halted (lost_after (Err o)) took broke refuses output y [] start now
  halted_lost Memory y waits start mid now h loses =
      let l = loses (output h.texts) h.missing h.wrote in record {
        texts = h.texts;
        begins = h.begins;
        taken = h.taken;
        stops = tt;
        missing = l.0;
        wrote = l.1;
        unwritten = tt;
      }
  halted_lost _ y waits start mid now h loses =
      lost_there y h.texts start now h.begins h.taken (loses (output h.texts) h.missing h.wrote)

  -- Output that can't be written after a piece was fed halts the reading with `lost_after r`.
  pub fed_lost : (r : Result (Unit {0}) Outcome) (piece : List ℕ) (old new : LineBuffer)
      (held mid now : Option (List ℕ))
      → OnOk r ((fed : List ℕ) (start : Option (List ℕ)) → Stands earlier output fed old start held
      → Stands took output (fed ++ piece) new start mid)
      → IfErr r (λ o. (fed : List ℕ) (start : Option (List ℕ)) → Stands earlier output fed old start held
      → Halted o took broke refuses output (fed ++ piece) new.output start mid)
      → (fed : List ℕ) (start : Option (List ℕ)) → Stands earlier output fed old start held
      → ((whole missing : List ℕ) → Wrote start mid whole new.output missing → Loses start now whole)
      → Halted (lost_after r) took broke refuses output (fed ++ piece) [] start now
  fed_lost (Ok x) piece old new held mid now ok err fed start st loses =
      stands_lost (fed ++ piece) [] new start mid now refl (ok fed start st) loses
  fed_lost (Err o) piece old new held mid now ok err fed start st loses =
      halted_lost o (fed ++ piece) new.output start mid now (err fed start st) loses

  -- ---- The lines of a piece, one after another

  stops_more : (o : Outcome) (y z : List ℕ) (ts : List (List ℕ)) → IsFeedStop o → Stops o refuses y ts
      → Stops o refuses (y ++ z) ts
  stops_more TooLong y z ts k s = too_long_more y z ts s
  stops_more (Stopped n) y z ts k s = (s.0, begins_more y z _ s.1, s.2, s.3)
  stops_more Write y z ts k s = tt
  stops_more Memory y z ts k s = tt
  stops_more _ y z ts k s = absurd k

  taken_more : (o : Outcome) (y z : List ℕ) (ts : List (List ℕ)) → HasTakenFed o took broke y ts
      → HasTakenFed o took broke (y ++ z) ts
  taken_more Memory y z ts (inl t) = inl t
  taken_more Memory y z ts (inr part) = inr (part.0, begins_more y z _ part.1, part.2)
  taken_more _ y z ts t = t

  pub halted_more : (o : Outcome) (y z waits : List ℕ) (start now : Option (List ℕ)) → IsFeedStop o
      → Halted o took broke refuses output y waits start now
      → Halted o took broke refuses output (y ++ z) waits start now
  halted_more o y z waits start now k h = record {
    texts = h.texts;
    begins = begins_more y z h.texts h.begins;
    taken = taken_more o y z h.texts h.taken;
    stops = stops_more o y z h.texts k h.stops;
    missing = h.missing;
    wrote = h.wrote;
    unwritten = h.unwritten;
  }

  pub lines_begin : (fed piece : List ℕ) (line_buffer : LineBuffer) (start now : Option (List ℕ))
      → Stands took output fed line_buffer start now → FedLines took output fed piece piece line_buffer start now
  lines_begin fed piece line_buffer start now st = record {
    front = [];
    parts = refl;
    stands = subst (λ (z : List ℕ). Stands took output z line_buffer start now) (sym (append-nil fed)) st;
  }

  pub lines_go : (fed piece rest line next : List ℕ) (old new : LineBuffer) (start mid now : Option (List ℕ))
      → (f : FedLines earlier output fed piece rest old start mid) → rest ≡ line ++ next
      → Stands took output ((fed ++ f.front) ++ line) new start now → FedLines took output fed piece next new start now
  lines_go fed piece rest line next old new start mid now f parts st = record {
    front = f.front ++ line;
    parts = f.parts ∙ ap (λ z. f.front ++ z) parts ∙ sym (append_assoc f.front line next);
    stands = subst (λ (z : List ℕ). Stands took output z new start now) (append_assoc fed f.front line) st;
  }

  -- A reading halted in a line of the piece is halted in the piece.
  pub lines_stop : (fed piece rest line next waits : List ℕ) (old : LineBuffer) (start mid now : Option (List ℕ))
      (o : Outcome) → IsFeedStop o
      → (f : FedLines earlier output fed piece rest old start mid) → rest ≡ line ++ next
      → Halted o took broke refuses output ((fed ++ f.front) ++ line) waits start now
      → Halted o took broke refuses output (fed ++ piece) waits start now
  lines_stop fed piece rest line next waits old start mid now o k f parts h =
      let e : ((fed ++ f.front) ++ line) ++ next ≡ fed ++ piece =
      append_assoc (fed ++ f.front) line next ∙ append_assoc fed f.front (line ++ next)
      ∙ ap (λ z. fed ++ (f.front ++ z)) (sym parts) ∙ ap (λ z. fed ++ z) (sym f.parts) in
      subst (λ (z : List ℕ). Halted o took broke refuses output z waits start now) e
      (halted_more o ((fed ++ f.front) ++ line) next waits start now k h)

  -- ---- The bytes of a piece after its last line feed

  -- The rest of a piece, without a line feed, is held, and the whole piece was fed.
  pub piece_held : (fed piece rest : List ℕ) (old new : LineBuffer) (start now : Option (List ℕ))
      → (f : FedLines took output fed piece rest old start now) → NoFeed rest
      → new.output ≡ old.output → new.count ≡ old.count
      → ((y : List ℕ) (ts : List (List ℕ)) → Fed y ts old.used old.held → NoFeed rest
      → Fed (y ++ rest) ts new.used new.held)
      → Stands took output (fed ++ piece) new start now
  piece_held fed piece rest old new start now f n eo ec holds =
      let e : (fed ++ f.front) ++ rest ≡ fed ++ piece =
      append_assoc fed f.front rest ∙ ap (λ z. fed ++ z) (sym f.parts) in
      subst (λ (z : List ℕ). Stands took output z new start now) e (record {
        texts = f.stands.texts;
        bytes = holds (fed ++ f.front) f.stands.texts f.stands.bytes n;
        count = ec ∙ f.stands.count;
        taken = f.stands.taken;
        wrote = rw eo f.stands.wrote;
      })

  held_stops : (o : Outcome) (y : List ℕ) (ts : List (List ℕ)) → took ts → HoldStops o y ts → Stops o refuses y ts
      × (Unwritten o [] × HasTakenFed o took broke y ts)
  held_stops TooLong y ts t h = (h, (refl, t))
  held_stops Memory y ts t h = (tt, (tt, inl t))
  held_stops _ y ts t h = absurd h

  -- The rest of a piece that can't be held halts the reading.
  pub piece_stops : (fed piece rest waits : List ℕ) (old : LineBuffer) (start now : Option (List ℕ)) (o : Outcome)
      → (f : FedLines took output fed piece rest old start now) → NoFeed rest
      → waits ≡ old.output → ((y : List ℕ) (ts : List (List ℕ)) → Fed y ts old.used old.held → NoFeed rest
      → HoldStops o (y ++ rest) ts)
      → Halted o took broke refuses output (fed ++ piece) waits start now
  piece_stops fed piece rest waits old start now o f n eo holds =
      let e : (fed ++ f.front) ++ rest ≡ fed ++ piece =
      append_assoc fed f.front rest ∙ ap (λ z. fed ++ z) (sym f.parts) in
      let s = held_stops o ((fed ++ f.front) ++ rest) f.stands.texts f.stands.taken
      (holds (fed ++ f.front) f.stands.texts f.stands.bytes n) in
      subst (λ (z : List ℕ). Halted o took broke refuses output z waits start now) e (record {
        texts = f.stands.texts;
        begins = begins_more (fed ++ f.front) rest f.stands.texts (fed_begins _ _ _ _ f.stands.bytes);
        taken = s.1.1;
        stops = s.0;
        missing = [];
        wrote = rw eo f.stands.wrote;
        unwritten = s.1.0;
      })

-- ---- Bytes without a line feed

some_over : (used : ℕ) (w : List ℕ) → used ≤ INPUT_BYTES → is_too_long (length w) (used + length w) ≡ true
    → (0 < length w)
    × ((LINE_BYTES < length w) ⊎ (INPUT_BYTES < used + length w))
some_over used w h over = (grind (arith, common_steps), grind (arith, common_steps))

pub hold_over : (y a : List ℕ) (len used : ℕ) (held : List ℕ) (ts : List (List ℕ)) → len ≡ length (held ++ a)
    → used ≤ INPUT_BYTES → Fed y ts used held → NoFeed a
    → is_too_long len (used + len) ≡ true → IsTooLong (y ++ a) ts
hold_over y a len used held ts el small f n over =
    let over' : is_too_long (length (held ++ a)) (used + length (held ++ a)) ≡ true =
    subst (λ (z : ℕ). is_too_long z (used + z) ≡ true) el over in
    let o = some_over used (held ++ a) small over' in
    more_over y a ts used held f n o.0 o.1

pub hold_fed : (y a : List ℕ) (used : ℕ) (held now : List ℕ) (ts : List (List ℕ)) → now ≡ held ++ a → Fed y ts used held
    → NoFeed a → Fed (y ++ a) ts used now
hold_fed y a used held now ts e f n = rw e (more_fed y a ts used held f n)

pub own_is_feed : (o : Outcome) → IsOwnStop o → IsFeedStop o
own_is_feed (Stopped n) h = tt
own_is_feed TooLong h = tt
own_is_feed Memory h = tt
own_is_feed Write h = tt
own_is_feed _ h = absurd h

pub own_is_no_write : (o : Outcome) → IsOwnStop o → o ≡ Write → ⊥
own_is_no_write o h e = let bad : IsOwnStop Write = subst (λ (z : Outcome). IsOwnStop z) e h in bad

-- ---- The size of the input

not_over : (len used : ℕ) → len ≤ LINE_BYTES → used + len ≤ INPUT_BYTES → is_too_long len (used + len) ≡ false
not_over len used a b = grind (arith, common_steps)

-- ---- What is known at the end of the reading

module _ (took : List (List ℕ) → Type 0) (broke refuses : List (List ℕ) → List ℕ → Type 0)
    (output : List (List ℕ) → List ℕ) where
  -- A source that fails and keeps its bytes halts the reading with Read.
  pub halted_read : (all left after start now : Option (List ℕ)) (line_buffer : LineBuffer)
      → Running took output all left line_buffer start now → Keeps left after
      → HaltedAfter Read took broke refuses output all after start now
  halted_read all left after start now line_buffer r keeps =
      let st = r.stands in record {
        fed = r.fed;
        consumed = Consumes-kept all left after r.fed r.consumed keeps;
        halted = record {
          texts = st.texts;
          begins = fed_begins _ _ _ _ st.bytes;
          taken = st.taken;
          stops = sym (lines_so_far _ _ _ _ st.bytes);
          missing = [];
          wrote = subst (λ (z : List ℕ). Wrote start now (output st.texts) z []) r.flushed st.wrote;
          unwritten = refl;
        };
      }

  told_with : (o : Outcome) (x fed : List ℕ) (left start now : Option (List ℕ))
      (h : Halted o took broke refuses output fed [] start now) (rest : List (List ℕ))
      → (lined x).texts ≡ h.texts ++ rest → HasTaken o took broke h.texts rest → Because o refuses x left h.texts rest
      → Told o took broke refuses output x left start now
  told_with o x fed left start now h rest parts taken because = record {
    texts = h.texts;
    rest = rest;
    parts = parts;
    taken = taken;
    because = because;
    front = h.wrote.front;
    back = h.missing;
    output_is = h.wrote.parts;
    written = h.wrote.written;
    unwritten = h.unwritten;
  }

  begun : (x fed ys : List ℕ) (ts : List (List ℕ)) → x ≡ fed ++ ys → (b : Begins fed ts)
      → (lined x).texts ≡ ts ++ (b ys).0
  begun x fed ys ts e b = ap (λ z. (lined z).texts) e ∙ (b ys).1

  told_broken : (x fed ys : List ℕ) (start now : Option (List ℕ)) → x ≡ fed ++ ys
      → (h : Halted Memory took broke refuses output fed [] start now)
      → HasTakenFed Memory took broke fed h.texts → Told Memory took broke refuses output x (Some ys) start now
  told_broken x fed ys start now e h (inl t) =
      told_with Memory x fed (Some ys) start now h (h.begins ys).0 (begun x fed ys _ e h.begins) (inl t) tt
  told_broken x fed ys start now e h (inr part) =
      let later = (part.1 ys).0 in
      told_with Memory x fed (Some ys) start now h (part.0 ∷ later) (begun x fed ys _ e part.1
      ∙ append_assoc h.texts (part.0 ∷ []) later)
      (inr (part.0, later, refl, part.2)) tt

  told_at : (o : Outcome) (x fed ys : List ℕ) (start now : Option (List ℕ)) → IsStop o → x ≡ fed ++ ys
      → Halted o took broke refuses output fed [] start now
      → Told o took broke refuses output x (Some ys) start now
  told_at TooLong x fed ys start now k e h =
      let d : lined x ≡ record { texts = h.texts; end = too_long } = ap lined e ∙ h.stops ys in
      told_with TooLong x fed (Some ys) start now h [] (ap (λ l. l.texts) d ∙ sym (append-nil h.texts)) h.taken
      (ap (λ l. l.end) d, refl)
  told_at (Stopped n) x fed ys start now k e h =
      let s = h.stops in
      let later = (s.1 ys).0 in
      told_with (Stopped n) x fed (Some ys) start now h (s.0 ∷ later) (begun x fed ys _ e s.1
      ∙ append_assoc h.texts (s.0 ∷ []) later) h.taken (s.0, later, refl, s.2, s.3)
  told_at Read x fed ys start now k e h =
      told_with Read x fed (Some ys) start now h (h.begins ys).0 (begun x fed ys _ e h.begins) h.taken (
        fed,
        ys,
        e,
        refl,
        h.stops,
      )
  told_at Write x fed ys start now k e h =
      told_with Write x fed (Some ys) start now h (h.begins ys).0 (begun x fed ys _ e h.begins) h.taken tt
  told_at Memory x fed ys start now k e h = told_broken x fed ys start now e h h.taken
  told_at Whole x fed ys start now k e h = absurd k
  told_at (Unfinished n) x fed ys start now k e h = absurd k

  -- A reading halted before the input's end is told of all the source's bytes.
  pub told_halt : (o : Outcome) (all left start now : Option (List ℕ)) → IsStop o
      → HaltedAfter o took broke refuses output all left start now
      → IfSome all (λ bytes. Told o took broke refuses output bytes left start now)
  told_halt o None left start now k h = tt
  told_halt o (Some x) None start now k h = absurd h.consumed
  told_halt o (Some x) (Some ys) start now k h = told_at o x h.fed ys start now k h.consumed h.halted

  told_last : (x : List ℕ) (count used : ℕ) (held : List ℕ) (ts : List (List ℕ)) (left start now : Option (List ℕ))
      → length held ≤ LINE_BYTES → used + length held ≤ INPUT_BYTES
      → lined x ≡ preceded_by ts (last_of used held) → count ≡ length ts → took ts → Wrote start now (output ts) [] []
      → Told (if length held == 0 then Whole else Unfinished (count + 1)) took broke refuses output x left start now
  told_last x count used [] ts left start now a b e c t w = record {
    texts = ts;
    rest = [];
    parts = ap (λ l. l.texts) e;
    taken = t;
    because = (ap (λ l. l.end) e, refl);
    front = w.front;
    back = [];
    output_is = w.parts;
    written = w.written;
    unwritten = refl;
  }
  told_last x count used (d ∷ held) ts left start now a b e c t w =
      let short : is_too_long (length (d ∷ held)) (used + length (d ∷ held)) ≡ false = not_over _ _ a b in
      let open_end : (lined x).end ≡ unfinished =
      ap (λ l. l.end) e ∙ ap (λ z. if z then too_long else unfinished) short in
      let some : (length (d ∷ held) == 0) ≡ false = grind (arith, common_steps) in
      rw some (record {
        texts = ts;
        rest = [];
        parts = ap (λ l. l.texts) e;
        taken = t;
        because = (open_end, refl, ap (λ z. z + 1) c);
        front = w.front;
        back = [];
        output_is = w.parts;
        written = w.written;
        unwritten = refl;
      })

  -- At the source's end, the reading is told as Whole without held bytes, and otherwise as Unfinished.
  pub told_end : (all left start now : Option (List ℕ)) (line_buffer : LineBuffer)
      → Running took output all left line_buffer start now → IsAtEnd left
      → length line_buffer.held ≤ LINE_BYTES → line_buffer.used + length line_buffer.held ≤ INPUT_BYTES
      → IfSome all (λ bytes. Told (if length line_buffer.held == 0 then Whole else Unfinished (line_buffer.count + 1))
      took broke refuses output bytes left start now)
  told_end None left start now line_buffer r e a b = tt
  told_end (Some x) None start now line_buffer r e a b = absurd r.consumed
  told_end (Some x) (Some ys) start now line_buffer r e a b =
      let same : r.fed ≡ x = sym (r.consumed ∙ ap (λ z. r.fed ++ z) e ∙ append-nil r.fed) in
      let st = r.stands in
      let last : lined x ≡ preceded_by st.texts (last_of line_buffer.used line_buffer.held) =
      ap lined (sym same) ∙ at_end r.fed st.texts line_buffer.used line_buffer.held st.bytes in
      told_last x line_buffer.count line_buffer.used line_buffer.held st.texts (Some ys) start now a b last st.count
      st.taken
      (subst (λ (z : List ℕ). Wrote start now (output st.texts) z []) r.flushed st.wrote)
