-- A line about another stream or about a lease doesn't change what a stream shows.
use Rattle.std.proofs.Common.{◌≡◌, ◌≢◌, ℕ, ◌+◌, List, [], ◌∷◌, Some, sym, subst, ◌∙◌, arith}
use Rattle.kds_defs.proofs.Elsewhere.{floor_same, same_stream}
use Rattle.kds_defs.specs.Journal.{Line, Journal}
use Rattle.kds_defs.specs.Rates.{puts}
use Rattle.kds_defs.specs.Records.{records}
use Rattle.kds_defs.specs.Streams.{floor_of}
use Rattle.kds_defs.specs.Subjects.{stream_of}
use Rattle.kds_log.specs.Log.{LogValue}
use Rattle.kds_stream_logs.proofs.Rates.{stand_along}
use Rattle.kds_stream.specs.Showing.{AreKept, IsKept, Shows}
use Rattle.kds_stream.specs.Value.{StreamValue}

-- ---- Journals with the same records

pub kept_along : (floor : ℕ) (log log' : Journal) (s n : ℕ) (ls : List LogValue)
    → ((sh : ℕ) → records log' s sh ≡ records log s sh)
    → AreKept floor log s n ls → AreKept floor log' s n ls
kept_along floor log log' s n [] same h = tt
kept_along floor log log' s n (l ∷ ls) same h =
    (subst (λ rs. IsKept floor rs l.kept) (sym (same n)) h.0, kept_along floor log log' s (n + 1) ls same h.1)

pub shows_other : (v : StreamValue) (log : Journal) (line : Line) → Shows v log → line.clock ≡ v.clock
    → stream_of line.what ≢ Some v.no → Shows v (line ∷ log)
shows_other v log line shown is_at other =
    let same = same_stream log line v.no other in
    record {
      stored = record {
        live = same.live ∙ shown.stored.live;
        was = same.was ∙ shown.stored.was;
        named = same.named ∙ shown.stored.named;
        made_is = same.made_is ∙ shown.stored.made_is;
        hours_are = same.hours_are ∙ shown.stored.hours_are;
        shards_are = same.shards_are ∙ shown.stored.shards_are;
        next_is = same.next_is ∙ shown.stored.next_is;
        floor_is = floor_same log line v.no v.clock (omega arith) same.hours_are ∙ shown.stored.floor_is;
        kept = kept_along (floor_of v.cut) log (line ∷ log) v.no 0 v.logs same.records_are shown.stored.kept;
        none_beyond = λ sh beyond. same.records_are sh ∙ shown.stored.none_beyond sh beyond;
      };
      rates =
          record {
            enforced_is = same.enforced_is ∙ shown.rates.enforced_is;
            stand = stand_along (puts log v.no) (puts (line ∷ log) v.no) 0 v.windows (λ sh any. sym (same.puts_are sh))
                shown.rates.stand;
            none_beyond = λ sh beyond. same.puts_are sh ∙ shown.rates.none_beyond sh beyond;
          };
    }
