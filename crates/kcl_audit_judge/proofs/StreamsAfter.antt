-- The model's verdict on a stream's entry is right, and after a good one the changed model represents the journal.
use Rattle.std.proofs.Common.{◌≡◌, ◌≢◌, ℕ, zero, suc, ◌+◌, ◌-◌, ◌<◌, ◌≤◌, Bool, true, false, List, [], ◌∷◌, ◌++◌}
use Rattle.std.proofs.Common.{length, slice_get}
use Rattle.std.proofs.Common.{Option, Some, None, refl, sym, ap, subst, ◌∙◌, arith}
use Rattle.std.specs.Prelude.{if◌then◌else◌, Ok}
use Rattle.std.proofs.lemmas.List.{length-append}
use Rattle.std.proofs.lemmas.Option.{slice_get_within}
use Rattle.kds_base.proofs.Facts.{equal_so}
use Rattle.kds_defs.proofs.Elsewhere.{fresh_other, of_other}
use Rattle.kds_defs.specs.declared.entry.Entry.{Entry}
use Rattle.kds_defs.specs.declared.entry.Entry.TheVariants as entry
use Rattle.kcl_laws.specs.ShownLines.{entry_line}
use Rattle.kds_defs.specs.Journal.{Line, Journal}
use Rattle.kds_defs.specs.Legal.{last_clock, told}
use Rattle.kds_defs.specs.Streams.{made_count}
use Rattle.kds_defs.specs.Subjects.{stream_of}
use Rattle.kcl_audit_streams.specs.Judging.{changed_at, changed_of, entry_verdict, in_its, in_live, exceeds_open_limit}
use Rattle.kcl_audit_streams.specs.Judging.{made_refusal, new_stream, stream_verdict}
use Rattle.kcl_audit_streams.specs.Judging.{streams_after, with_entry}
use Rattle.kcl_audit_streams.specs.Standing.{AreStreams, IsStream, Shows, ShowsAll, StreamValue, StreamsValue, if_live}
use Rattle.kcl_audit_streams.specs.Standing.{stream_at}
use Rattle.kcl_audit_streams.specs.Verdict.{Verdict, judged}
use Rattle.kcl_audit_streams.proofs.Changed.{IsOf, agrees_so, is_of, past_by}
use Rattle.kcl_audit_streams.proofs.Keys.{stream_found, stream_get, stream_none}
use Rattle.kcl_audit_streams.proofs.Others.{stream_other}
use Rattle.kcl_audit_streams.proofs.StreamSteps.{IsLater, made_kept, made_step, stream_step}
use Rattle.kcl_audit_streams.proofs.StreamTold.{gone_told, live_told}
use Rattle.kcl_audit_judge.proofs.LiveStreams.{full_is, made_told}

-- ---- The verdict on an entry of a stream

later_told : (w : StreamsValue) (log : Journal) (actor : ℕ) (change : Entry) → Shows w log → IsLater change
    → (o : Option ℕ)
    → stream_of change ≡ o → o ≢ None
    → judged (told log (entry_line w.clock actor change) change) change
    ≡ in_its w.streams o (entry_verdict (exceeds_open_limit w.streams 1) w.clock change)
later_told w log actor change sh later None is is_own = absurd (is_own refl)
later_told w log actor change sh later (Some s) is is_own = found (stream_at w.streams s) refl
  where
    some : (v : StreamValue) (b : Bool) → IsStream log s v → v.live ≡ b
        → judged (told log (entry_line w.clock actor change) change) change
        ≡ in_live (if b then Some v else None) (entry_verdict (exceeds_open_limit w.streams 1) w.clock change)
    some v true st live =
        live_told log w.clock actor s change later is v (exceeds_open_limit w.streams 1) st live sh.order
        (full_is log w.streams sh.all)
    some v false st live = gone_told log w.clock actor s change later is (st.lives ∙ live)

    found : (o : Option StreamValue) → stream_at w.streams s ≡ o
        → judged (told log (entry_line w.clock actor change) change) change
        ≡ in_live (if_live o) (entry_verdict (exceeds_open_limit w.streams 1) w.clock change)
    found None is_at = gone_told log w.clock actor s change later is (stream_none w log s sh is_at).gone
    found (Some v) is_at = some v v.live (stream_found w log s v sh is_at) refl

pub stream_told : (w : StreamsValue) (log : Journal) (actor : ℕ) (change : Entry) → Shows w log
    → stream_of change ≢ None
    → judged (told log (entry_line w.clock actor change) change) change ≡ stream_verdict w.streams w.clock change
stream_told w log actor (entry.Made s name count) sh is_own = made_told log w.streams sh.all w.clock actor s count name
stream_told w log actor change sh is_own = later_told w log actor change sh tt (stream_of change) refl is_own

-- ---- One changed stream in the list

length-changed : (i : ℕ) (g : StreamValue → StreamValue) (vs : List StreamValue)
    → length (changed_at i g vs) ≡ length vs
length-changed i g [] = refl
length-changed zero g (v ∷ vs) = refl
length-changed (suc i) g (v ∷ vs) = ap suc (length-changed i g vs)

-- `line` is a line of the stream `s`, with a clock not below the journal's.
module _ (log : Journal) (line : Line) (s : ℕ) (order : last_clock log ≤ line.clock)
    (is_own : stream_of line.what ≡ Some s) where
  above : (n : ℕ) (vs : List StreamValue) → s < n → AreStreams log n vs → AreStreams (line ∷ log) n vs
  above n [] lt h = tt
  above n (v ∷ vs) lt h =
      let apart : s ≢ n = λ e. omega arith in
      (stream_other log line n v order (of_other line.what s n is_own apart) h.0, above (n + 1) vs (omega arith) h.1)

  changed_streams : (n i : ℕ) (vs : List StreamValue) (v : StreamValue) (g : StreamValue → StreamValue) → s ≡ n + i
      → slice_get vs i ≡ Some v
      → IsStream (line ∷ log) s (g v) → AreStreams log n vs
      → AreStreams (line ∷ log) n (changed_at i g vs)
  changed_streams n i [] v g is_at is next h = tt
  changed_streams n zero (u ∷ vs) v g is_at is next h =
      let same : v ≡ u = cc in
      let here : s ≡ n = omega arith in
      let lt : s < n + 1 = omega arith in (
        subst (λ m. IsStream (line ∷ log) m (g u)) here
            (subst (λ (x : StreamValue). IsStream (line ∷ log) s (g x)) same next),
        above (n + 1) vs lt h.1,
      )
  changed_streams n (suc i) (u ∷ vs) v g is_at is next h =
      let apart : s ≢ n = λ e. omega arith in
      let is_on : s ≡ n + 1 + i = omega arith in (
        stream_other log line n u order (of_other line.what s n is_own apart) h.0,
        changed_streams (n + 1) i vs v g is_on is next h.1,
      )

  last_stream : (n : ℕ) (vs : List StreamValue) (v : StreamValue) → s ≡ n + length vs → IsStream (line ∷ log) s v
      → AreStreams log n vs
      → AreStreams (line ∷ log) n (vs ++ v ∷ [])
  last_stream n [] v is_at next h = let here : s ≡ n = omega arith in
      (subst (λ m. IsStream (line ∷ log) m v) here next, tt)
  last_stream n (u ∷ vs) v is_at next h =
      let apart : s ≢ n = λ e. omega arith in
      let is_on : s ≡ n + 1 + length vs = omega arith in (
        stream_other log line n u order (of_other line.what s n is_own apart) h.0,
        last_stream (n + 1) vs v is_on next h.1,
      )

  -- ---- All streams

  pub shows_changed : (vs : List StreamValue) (f : StreamValue → Verdict) (g : StreamValue → StreamValue)
      (o : IsOf vs s f)
      → made_count (line ∷ log) ≡ made_count log → ShowsAll vs log
      → IsStream (line ∷ log) s (g o.value) → ShowsAll (changed_at (s - 1) g vs) (line ∷ log)
  shows_changed vs f g o count sh next =
      let some = o.some in
      let within = slice_get_within vs (s - 1) o.value o.at in
      let len = length-changed (s - 1) g vs in
      let is_at : s ≡ 1 + (s - 1) = omega arith in
      record {
        made = count ∙ sh.made ∙ sym len;
        streams = changed_streams 1 (s - 1) vs o.value g is_at o.at next sh.streams;
        others = λ m beyond. (
            let far : length vs < m = subst (λ n. n < m) len beyond in
            let apart : s ≢ m = λ e. omega arith in
            fresh_other log line m (sh.others m far) (of_other line.what s m is_own apart));
        none = (let apart : s ≢ 0 = λ e. omega arith in
            fresh_other log line 0 sh.none (of_other line.what s 0 is_own apart));
      }

  pub shows_made : (vs : List StreamValue) (v : StreamValue) → s ≡ length vs + 1
      → made_count (line ∷ log) ≡ made_count log + 1 → ShowsAll vs log
      → IsStream (line ∷ log) s v → ShowsAll (vs ++ v ∷ []) (line ∷ log)
  shows_made vs v is count sh next =
      let len : length (vs ++ v ∷ []) ≡ length vs + 1 = length-append vs (v ∷ []) in
      let is_at : s ≡ 1 + length vs = omega arith in
      record {
        made = count ∙ ap (λ n. n + 1) sh.made ∙ sym len;
        streams = last_stream 1 vs v is_at next sh.streams;
        others = λ m beyond. (
            let far : length vs + 1 < m = subst (λ n. n < m) len beyond in
            let further : length vs < m = omega arith in
            let apart : s ≢ m = λ e. omega arith in
            fresh_other log line m (sh.others m further) (of_other line.what s m is_own apart));
        none = (let apart : s ≢ 0 = λ e. omega arith in
            fresh_other log line 0 sh.none (of_other line.what s 0 is_own apart));
      }

-- ---- The model after each good entry

its_stream : (vs : List StreamValue) (log : Journal) (s : ℕ) (f : StreamValue → Verdict) (o : IsOf vs s f)
    → ShowsAll vs log → IsStream log s o.value
its_stream vs log s f o sh =
    let some = o.some in
    let is_at : 1 + (s - 1) ≡ s = omega arith in
    subst (λ m. IsStream log m o.value) is_at (stream_get log 1 (s - 1) vs o.value sh.streams o.at)

all_later : (vs : List StreamValue) (log : Journal) (d actor : ℕ) (change : Entry) → ShowsAll vs log
    → last_clock log ≤ d
    → IsLater change
    → (o : Option ℕ) → stream_of change ≡ o → o ≢ None → in_its vs o (entry_verdict (exceeds_open_limit vs 1) d change)
    ≡ Ok tt
    → ShowsAll (changed_of o (with_entry d change) vs) (entry_line d actor change ∷ log)
all_later vs log d actor change sh order later None is is_own good = absurd (is_own refl)
all_later vs log d actor change sh order later (Some s) is is_own good =
    let f = entry_verdict (exceeds_open_limit vs 1) d change in
    let o = is_of vs s f good in
    shows_changed log (entry_line d actor change) s order is vs f (with_entry d change) o
    (made_kept change (made_count log) later) sh
    (stream_step d actor s o.value log (exceeds_open_limit vs 1) change later is o.good order
    (its_stream vs log s f o sh))

all_after : (vs : List StreamValue) (log : Journal) (d actor : ℕ) (change : Entry) → ShowsAll vs log
    → last_clock log ≤ d
    → stream_of change ≢ None
    → stream_verdict vs d change ≡ Ok tt → ShowsAll (streams_after d change vs) (entry_line d actor change ∷ log)
all_after vs log d actor (entry.Made s name count) sh order is_own good =
    let p = past_by (made_refusal vs name count) _ good in
    let is = equal_so s (length vs + 1) (agrees_so _ p.1) in
    let beyond : length vs < s = omega arith in
    shows_made log (entry_line d actor (entry.Made s name count)) s order refl vs (new_stream name count) is refl sh
    (made_step log d actor s count name (sh.others s beyond))
all_after vs log d actor change sh order is_own good =
    all_later vs log d actor change sh order tt (stream_of change) refl is_own good

pub shows_after : (old new : StreamsValue) (log : Journal) (actor : ℕ) (change : Entry) → Shows old log
    → stream_of change ≢ None
    → stream_verdict old.streams old.clock change ≡ Ok tt
    → new.clock ≡ old.clock → new.streams ≡ streams_after old.clock change old.streams
    → Shows new (entry_line old.clock actor change ∷ log)
shows_after old new log actor change sh is_own good is_at is =
    record {
      all = subst (λ xs. ShowsAll xs (entry_line old.clock actor change ∷ log)) (sym is)
          (all_after old.streams log old.clock actor change sh.all sh.order is_own good);
      order = omega arith;
    }
