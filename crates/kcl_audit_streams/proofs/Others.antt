-- A line of another stream or of a lease leaves a stream's model unchanged.
use Rattle.std.proofs.Common.{◌≡◌, ◌≢◌, ℕ, ◌+◌, ◌≤◌, List, [], ◌∷◌, None, Some, map, sym, ap, subst, ◌∙◌, arith}
use Rattle.kds_defs.proofs.Elsewhere.{count_same, floor_same, fresh_other, of_no_stream, same_stream}
use Rattle.kds_defs.specs.Journal.{Line, Journal}
use Rattle.kds_defs.specs.Legal.{last_clock}
use Rattle.kds_defs.specs.Streams.{made_count}
use Rattle.kds_defs.specs.Subjects.{stream_of}
use Rattle.kcl_laws.specs.Recorded.{bare}
use Rattle.kcl_audit_streams.specs.Standing.{AreStreams, IsStream, Shows, StreamValue, StreamsValue}

pub stream_other : (log : Journal) (line : Line) (s : ℕ) (v : StreamValue) → last_clock log ≤ line.clock
    → stream_of line.what ≢ Some s → IsStream log s v
    → IsStream (line ∷ log) s v
stream_other log line s v order other st =
    let same = same_stream log line s other in
    record {
      was = same.was ∙ st.was;
      named = same.named ∙ st.named;
      lives = same.live ∙ st.lives;
      lasts = same.hours_are ∙ st.lasts;
      trims = λ c later. floor_same log line s c later same.hours_are ∙ st.trims c (omega arith);
      draws = same.next_is ∙ st.draws;
      shards_are = same.shards_are ∙ st.shards_are;
      records_are = λ sh. ap (map bare) (same.records_are sh) ∙ st.records_are sh;
      limited = same.enforced_is ∙ st.limited;
      puts_are = λ sh. same.puts_are sh ∙ st.puts_are sh;
    }

-- ---- A line of a lease and all streams

streams_kept : (log : Journal) (line : Line) (n : ℕ) (vs : List StreamValue) → last_clock log ≤ line.clock
    → stream_of line.what ≡ None
    → AreStreams log n vs → AreStreams (line ∷ log) n vs
streams_kept log line n [] order none h = tt
streams_kept log line n (v ∷ vs) order none h = (
  stream_other log line n v order (of_no_stream line.what n none) h.0,
  streams_kept log line (n + 1) vs order none h.1,
)

pub shows_lease : (w : StreamsValue) (log : Journal) (line : Line) → Shows w log → line.clock ≡ w.clock
    → stream_of line.what ≡ None → Shows w (line ∷ log)
shows_lease w log line sh is_at none =
    let order : last_clock log ≤ line.clock = subst (λ n. last_clock log ≤ n) (sym is_at) sh.order in
    record {
      all = record {
        made = count_same line.what (made_count log) none ∙ sh.all.made;
        streams = streams_kept log line 1 w.streams order none sh.all.streams;
        others = λ s beyond. fresh_other log line s (sh.all.others s beyond) (of_no_stream line.what s none);
        none = fresh_other log line 0 sh.all.none (of_no_stream line.what 0 none);
      };
      order = subst (λ n. n ≤ w.clock) (sym is_at) (omega arith);
    }
