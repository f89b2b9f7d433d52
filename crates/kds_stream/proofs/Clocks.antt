-- A stream shows its journal and keeps its invariant when its clock moves on or a log is settled.
use Rattle.std.proofs.Common.{◌≡◌, ℕ, zero, suc, ◌+◌, ◌≤◌, Bool, true, false, List, [], ◌∷◌, length, Option, refl, sym}
use Rattle.std.proofs.Common.{ap, ◌∙◌, arith}
use Rattle.std.specs.Prelude.{cond, not, nat_le, nat_lt, ◌&&◌}
use Rattle.std.proofs.lemmas.Bool.Decides.{nat_tests}
use Rattle.kds_base.proofs.Facts.{all_filter}
use Rattle.kds_defs.specs.Journal.{Journal}
use Rattle.kds_defs.specs.Records.{Logged, is_left, left_among, records}
use Rattle.kds_defs.specs.Streams.{floor_of}
use Rattle.kds_log.specs.Log.{LogValue}
use Rattle.kds_stream.proofs.Cuts.{advanced_floor, later_floor, trims_later}
use Rattle.kds_stream.proofs.Rates.{rated_later}
use Rattle.kds_stream.specs.Showing.{AreKept, Shows}
use Rattle.kds_stream.proofs.LogLemmas.{all-settled, arrived_later, length-settled}
use Rattle.kds_stream_logs.specs.Logs.{HasArrived, IsBelow, settled_at}
use Rattle.kds_stream.specs.Value.{IsStream, StreamValue, cut_at, later_cut}

-- ---- Logs and a higher trim floor

pub kept_higher : (floor higher : ℕ) (log : Journal) (s n : ℕ) (ls : List LogValue) → floor ≤ higher
    → AreKept floor log s n ls → AreKept higher log s n ls
kept_higher floor higher log s n [] le h = tt
kept_higher floor higher log s n (l ∷ ls) le h = (
  record { from = h.0.from; early = omega (arith, le, h.0.early); rest = h.0.rest },
  kept_higher floor higher log s (n + 1) ls le h.1,
)

-- A stream still shows its journal when its clock moves on and its cut with it.
pub shows_advanced : (v : StreamValue) (log : Journal) (clock : ℕ) (cut : Option ℕ)
    → cut ≡ later_cut v.cut (cut_at clock v.hours) → v.clock ≤ clock → Shows v log
    → Shows (record v { clock = clock; cut = cut; clock_before = v.clock; cut_before = v.cut }) log
shows_advanced v log clock cut is later shown =
    let higher : floor_of v.cut ≤ floor_of cut =
    omega (arith, ap floor_of is, later_floor v.cut (cut_at clock v.hours)) in
    record {
      stored = record {
        live = shown.stored.live;
        was = shown.stored.was;
        named = shown.stored.named;
        made_is = shown.stored.made_is;
        hours_are = shown.stored.hours_are;
        shards_are = shown.stored.shards_are;
        next_is = shown.stored.next_is;
        floor_is = advanced_floor log v.clock clock v.no v.hours v.cut later shown.stored.hours_are
            shown.stored.floor_is ∙ ap floor_of (sym is);
        kept = kept_higher (floor_of v.cut) (floor_of cut) log v.no 0 v.logs higher shown.stored.kept;
        none_beyond = shown.stored.none_beyond;
      };
      rates = shown.rates;
    }

-- A stream keeps its invariant when its clock moves on and its cut with it.
pub stream_advanced : (v : StreamValue) (clock : ℕ) (cut : Option ℕ) → cut ≡ later_cut v.cut (cut_at clock v.hours)
    → v.clock ≤ clock → IsStream v
    → IsStream (record v { clock = clock; cut = cut; clock_before = v.clock; cut_before = v.cut })
stream_advanced v clock cut later_is later is = record {
  as_many = is.as_many;
  few = is.few;
  lasting = is.lasting;
  numbers = is.numbers;
  endings = is.endings;
  arrivals = arrived_later v.clock_before v.clock v.logs is.order is.arrivals;
  order = later;
  trims = omega (arith, ap floor_of later_is, trims_later v.clock clock v.hours v.cut is.lasting later is.trims);
  trims_before = is.trims;
  rated = rated_later v.clock_before v.clock (length v.tree) v.windows is.order is.rated;
  drawn = is.drawn;
  fits = is.fits;
}

-- ---- Records are trimmed twice

left_twice_by : (b c : Bool) (r : Logged) (rs : List Logged) (f p g : ℕ) → is_left g 0 r ≡ b → is_left f p r ≡ c → g ≤ f
    → left_among f p (left_among g 0 rs) ≡ left_among f p rs
    → left_among f p (cond b (r ∷ left_among g 0 rs) (left_among g 0 rs))
    ≡ cond c (r ∷ left_among f p rs) (left_among f p rs)
left_twice_by true c r rs f p g isb isc le h =
    ap (λ d. cond d (r ∷ left_among f p (left_among g 0 rs)) (left_among f p (left_among g 0 rs))) isc
    ∙ ap (λ xs. cond c (r ∷ xs) xs) h
left_twice_by false true r rs f p g isb isc le h = absurd (late r.arrival r.seq f p g isb isc le)
  where
    late : (arrival seq f p g : ℕ) → (not (nat_lt arrival g) && nat_le 0 seq) ≡ false
        → (not (nat_lt arrival f) && nat_le p seq) ≡ true → g ≤ f → ⊥
    late arrival seq f p g isb isc le = grind (arith, nat_tests)
left_twice_by false false r rs f p g isb isc le h = h

-- Trimming at an earlier floor first makes no difference.
pub left_twice : (f p g : ℕ) (rs : List Logged) → g ≤ f → left_among f p (left_among g 0 rs) ≡ left_among f p rs
left_twice f p g [] le = refl
left_twice f p g (r ∷ rs) le =
    left_twice_by (is_left g 0 r) (is_left f p r) r rs f p g refl refl le (left_twice f p g rs le)

-- ---- A settled stream

kept_settled : (floor : ℕ) (log : Journal) (s n i : ℕ) (ls : List LogValue) → AreKept floor log s n ls
    → AreKept floor log s n (settled_at floor i ls)
kept_settled floor log s n i [] h = tt
kept_settled floor log s n zero (l ∷ ls) h =
    let same : left_among floor 0 l.kept ≡ left_among floor 0 (records log s n) =
    ap (left_among floor 0) h.0.rest ∙ left_twice floor 0 h.0.from (records log s n) h.0.early in
    (record { from = floor; early = omega arith; rest = same }, h.1)
kept_settled floor log s n (suc i) (l ∷ ls) h = (h.0, kept_settled floor log s (n + 1) i ls h.1)

-- The stream after the log at `i` was settled, with the given index to settle next, and clock and cut of a retreat.
abbrev pub settled_at_index : StreamValue → ℕ → ℕ → Option ℕ → ℕ → StreamValue
settled_at_index v i clock cut next =
    record v {
      logs = settled_at (floor_of v.cut) i v.logs;
      clock_before = clock;
      cut_before = cut;
      next_to_settle = next;
    }

pub shows_settled : (v : StreamValue) (i clock : ℕ) (cut : Option ℕ) (next : ℕ) (log : Journal) → Shows v log
    → Shows (settled_at_index v i clock cut next) log
shows_settled v i clock cut next log shown = record {
  stored = record {
    live = shown.stored.live;
    was = shown.stored.was;
    named = shown.stored.named;
    made_is = shown.stored.made_is;
    hours_are = shown.stored.hours_are;
    shards_are = shown.stored.shards_are;
    next_is = shown.stored.next_is;
    floor_is = shown.stored.floor_is;
    kept = kept_settled (floor_of v.cut) log v.no 0 i v.logs shown.stored.kept;
    none_beyond = shown.stored.none_beyond;
  };
  rates = shown.rates;
}

pub settled_stream : (v : StreamValue) (i next : ℕ) → IsStream v → IsStream (settled_at_index v i v.clock v.cut next)
settled_stream v i next is = record {
  as_many = length-settled (floor_of v.cut) i v.logs ∙ is.as_many;
  few = is.few;
  lasting = is.lasting;
  numbers = all-settled (IsBelow v.next) (floor_of v.cut) i (λ l h. h) v.logs is.numbers;
  endings = is.endings;
  arrivals =
      all-settled (HasArrived v.clock) (floor_of v.cut) i
      (λ l h. all_filter (λ (r : Logged). r.arrival ≤ v.clock) (is_left (floor_of v.cut) 0) l.kept h) v.logs
      (arrived_later v.clock_before v.clock v.logs is.order is.arrivals);
  order = omega arith;
  trims = is.trims;
  trims_before = is.trims;
  rated = rated_later v.clock_before v.clock (length v.tree) v.windows is.order is.rated;
  drawn = is.drawn;
  fits = is.fits;
}
