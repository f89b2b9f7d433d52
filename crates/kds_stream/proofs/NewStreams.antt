-- A new stream meets the invariant, and shows the journal with the line that makes it.
use Rattle.std.proofs.Common.{◌≡◌, ℕ, zero, suc, ◌+◌, ◌*◌, ◌/◌, ◌^◌, ◌≤◌, false, List, [], ◌∷◌, length, Option, refl}
use Rattle.std.proofs.Common.{sym, ap, subst, ◌∙◌, arith}
use Rattle.std.specs.Prelude.{◌==◌, replicate}
use Rattle.std.specs.List.{AllByRecursion, filter}
use Rattle.std.proofs.lemmas.List.{length-replicate}
use Rattle.std.proofs.lemmas.Bool.{or_left}
use Rattle.kds_base.specs.Span.{Span, uniform}
use Rattle.kds_base.proofs.Facts.{chosen, is_itself}
use Rattle.kds_defs.specs.declared.entry.Entry.TheVariants as entry
use Rattle.kds_defs.specs.declared.limits.TheConstants.{FIRST_HOURS, HOUR, OPEN_SHARDS}
use Rattle.kds_defs.specs.Journal.{Journal, plain_line}
use Rattle.kds_defs.specs.Rates.{puts}
use Rattle.kds_defs.specs.Records.{left_among, next_number, records}
use Rattle.kds_defs.specs.Lawful.{IsShardCount}
use Rattle.kds_defs.specs.Shards.{ShardState, first_shards, is_open, made_shards, shards}
use Rattle.kds_defs.specs.Streams.{floor_at, floor_of, hours, is_live, made_at, name_of, trim_floor, was_made}
use Rattle.kds_defs.proofs.Counted.{length_uniform, length_first}
use Rattle.kds_log.specs.Log.{LogValue}
use Rattle.kds_rate.specs.Windows.{WindowValue}
use Rattle.kds_stream.proofs.Cuts.{cut_floor, first_floor, trims_at}
use Rattle.kds_stream.proofs.Rates.{counted_unused, stand_unused}
use Rattle.kds_stream_logs.specs.Rating.{IsUnused}
use Rattle.kds_defs.specs.Subjects.{IsFresh}
use Rattle.kds_stream.specs.Showing.{AreKept, Shows}
use Rattle.kds_stream_logs.specs.Logs.{HasArrived, IsBelow, empty_log}
use Rattle.kds_stream.specs.Value.{EndsUnder, IsStream, StreamValue, cut_at}

-- ---- The shards and the logs of a new stream

length-made : (count start : ℕ) → length (made_shards count start) ≡ count
length-made count start = length_first 0 start (uniform count) ∙ length_uniform (2 ^ 128 / count) 0 count

all_first : (next n start : ℕ) (ranges : List Span) → AllByRecursion (EndsUnder next) (first_shards n start ranges)
all_first next n start [] = tt
all_first next n start (r ∷ rs) = (tt, all_first next (n + 1) start rs)

pub all_replicate : {A : Type 0} (P : A → Type 0) (n : ℕ) (x : A) → P x → AllByRecursion P (replicate n x)
all_replicate P zero x h = tt
all_replicate P (suc n) x h = (h, all_replicate P n x h)

kept_none : (floor : ℕ) (log : Journal) (s n count : ℕ) → ((sh : ℕ) → records log s sh ≡ [])
    → AreKept floor log s n (replicate count empty_log)
kept_none floor log s n zero none = tt
kept_none floor log s n (suc count) none = (
  record { from = 0; early = omega arith; rest = ap (left_among 0 0) (sym (none n)) },
  kept_none floor log s (n + 1) count none,
)

-- ---- The new stream

trims_new : (made : ℕ) (cut : Option ℕ) → cut ≡ cut_at made FIRST_HOURS → floor_of cut ≤ made
trims_new made cut is = omega (arith, ap floor_of is, trims_at made FIRST_HOURS (omega arith, omega arith))

open_first : (n start : ℕ) (ranges : List Span) → length (filter is_open (first_shards n start ranges)) ≡ length ranges
open_first n start [] = refl
open_first n start (r ∷ rs) = ap suc (open_first (n + 1) start rs)

few_made : (count : ℕ) → IsShardCount count → length (filter is_open (made_shards count 1)) ≤ OPEN_SHARDS
few_made count h = omega (arith, h.1, open_first 0 1 (uniform count), length_uniform (2 ^ 128 / count) 0 count)

-- A stream just made: the first retention, limits off, and the next sequence number 1.
abbrev pub new_value : ℕ → ℕ → List ℕ → List ShardState → List LogValue → List WindowValue → Option ℕ → Option ℕ
    → StreamValue
new_value s made name tree logs windows cut cut_before = record {
  no = s;
  name = name;
  made_at = made;
  hours = FIRST_HOURS;
  tree = tree;
  logs = logs;
  windows = windows;
  enforced = false;
  next = 1;
  clock = made;
  cut = cut;
  clock_before = made;
  cut_before = cut_before;
  next_to_settle = 0;
}

pub new_stream : (s : ℕ) (name : List ℕ) (made count : ℕ) (tree : List ShardState) (logs : List LogValue)
    (windows : List WindowValue)
    → (cut cut_before : Option ℕ) → IsShardCount count → tree ≡ made_shards count 1 → logs ≡ replicate count empty_log
    → length windows ≡ count → AllByRecursion IsUnused windows → cut ≡ cut_at made FIRST_HOURS
    → cut_before ≡ cut_at made FIRST_HOURS
    → IsStream (new_value s made name tree logs windows cut cut_before)
new_stream s name made count tree logs windows cut cut_before counted shards_are logs_are many unused is is_before =
    record {
      as_many = ap length logs_are ∙ length-replicate count empty_log ∙ sym (length-made count 1)
          ∙ ap length (sym shards_are);
      few = subst (λ (xs : List ShardState). length (filter is_open xs) ≤ OPEN_SHARDS) (sym shards_are)
          (few_made count counted);
      lasting = (omega arith, omega arith);
      numbers = subst (AllByRecursion (IsBelow 1)) (sym logs_are) (all_replicate (IsBelow 1) count empty_log tt);
      endings = subst (AllByRecursion (EndsUnder 1)) (sym shards_are) (all_first 1 0 1 (uniform count));
      arrivals = subst (AllByRecursion (HasArrived made)) (sym logs_are)
          (all_replicate (HasArrived made) count empty_log tt);
      order = omega arith;
      trims = trims_new made cut is;
      trims_before = trims_new made cut_before is_before;
      rated = record {
        as_many = many ∙ sym (length-made count 1) ∙ ap length (sym shards_are);
        counted = counted_unused made windows unused;
      };
      drawn = omega arith;
      fits = omega arith;
    }

module _ (log : Journal) (actor s : ℕ) (name : List ℕ) (made count : ℕ) (fresh : IsFresh log s) where
  drawn : next_number (plain_line made actor (entry.Made s name count) ∷ log) s ≡ 1
  drawn = omega (arith, fresh.undrawn)

  floor_made : (cut : Option ℕ) → cut ≡ cut_at made FIRST_HOURS
      → trim_floor (plain_line made actor (entry.Made s name count) ∷ log) made s ≡ floor_of cut
  floor_made cut is =
      first_floor log (plain_line made actor (entry.Made s name count)) s
      (or_left (s == s) (was_made log s) (is_itself s))
      fresh.unmade fresh.no_floor
      ∙ ap (λ h. floor_at made (h * HOUR)) (chosen (s == s) FIRST_HOURS (hours log s) (is_itself s))
      ∙ sym (cut_floor made FIRST_HOURS)
      ∙ ap floor_of (sym is)

  -- A stream that is new to the journal shows it with the line that makes the stream.
  pub shows_new : (tree : List ShardState) (logs : List LogValue) (windows : List WindowValue)
      (cut cut_before : Option ℕ) → tree ≡ made_shards count 1
      → logs ≡ replicate count empty_log → AllByRecursion IsUnused windows → cut ≡ cut_at made FIRST_HOURS
      → Shows (new_value s made name tree logs windows cut cut_before) (plain_line made actor (entry.Made s name count)
      ∷ log)
  shows_new tree logs windows cut cut_before shards_are logs_are unused is = record {
    stored = record {
      live = or_left (s == s) (is_live log s) (is_itself s);
      was = or_left (s == s) (was_made log s) (is_itself s);
      named = chosen (s == s) name (name_of log s) (is_itself s);
      made_is = chosen (s == s) made (made_at log s) (is_itself s);
      hours_are = chosen (s == s) FIRST_HOURS (hours log s) (is_itself s);
      shards_are = chosen (s == s) _ (shards log s) (is_itself s) ∙ ap (made_shards count) drawn ∙ sym shards_are;
      next_is = drawn;
      floor_is = floor_made cut is;
      kept =
          subst (AreKept (floor_of cut) (plain_line made actor (entry.Made s name count) ∷ log) s 0) (sym logs_are)
          (kept_none (floor_of cut) (plain_line made actor (entry.Made s name count) ∷ log) s 0 count fresh.no_records);
      none_beyond = λ sh beyond. fresh.no_records sh;
    };
    rates =
        record {
          enforced_is = fresh.not_enforced;
          stand = stand_unused (puts log s) 0 windows unused (λ sh any. fresh.no_puts sh);
          none_beyond = λ sh beyond. fresh.no_puts sh;
        };
  }
