-- The value that represents a stream in contracts, its invariant, and what its functions change.
use Rattle.std.specs.Prelude.{ℕ, ◌≡◌, ◌<◌, ◌≤◌, ◌-◌, ◌*◌, ◌^◌, max, Bool, false, not, nat_lt, if◌then◌else◌, List}
use Rattle.std.specs.Prelude.{length, IfOk, OnErr, OnOk, Option, Result, Some, None}
use Rattle.std.specs.List.{AllByRecursion, filter}
use Rattle.kds_base.specs.Circle.{next_of}
use Rattle.kds_defs.specs.declared.limits.TheConstants.{HOUR, OPEN_SHARDS}
use Rattle.kds_defs.specs.Lawful.{IsRetention}
use Rattle.kds_defs.specs.Shards.{Closing, ShardState, is_closed_below, is_open}
use Rattle.kds_defs.specs.Streams.{floor_of}
use Rattle.kds_log.specs.Log.{LogValue}
use Rattle.kds_rate.specs.Windows.{WindowValue}
use Rattle.kds_stream.specs.Rating.{AreRated}
use Rattle.kds_stream_logs.specs.Logs.{HasArrived, IsBelow, settled_at}

-- A stream; a retreat goes back to `clock_before` and `cut_before`, and a cut is the trim horizon as a time.
pub record StreamValue : Type 0 where
  pub no : ℕ
  pub name : List ℕ
  pub made_at : ℕ
  pub hours : ℕ
  pub tree : List ShardState
  pub logs : List LogValue
  pub windows : List WindowValue
  pub enforced : Bool
  pub next : ℕ
  pub clock : ℕ
  pub cut : Option ℕ
  pub clock_before : ℕ
  pub cut_before : Option ℕ
  pub next_to_settle : ℕ

-- If a shard was closed, its ending sequence number is below `next`.
abbrev pub IsClosedUnder : (next : ℕ) (closing : Option Closing) → Type 0
IsClosedUnder next None = Unit {0}
IsClosedUnder next (Some closing) = closing.number < next

-- If the shard is closed, its ending sequence number is below `next`.
abbrev pub EndsUnder : (next : ℕ) (x : ShardState) → Type 0
EndsUnder next x = IsClosedUnder next x.closing

-- The invariant of a stream: a log and window per shard, numbers below `next`, no arrival after `clock_before`.
pub record IsStream (v : StreamValue) : Type 0 where
  pub as_many : length v.logs ≡ length v.tree
  pub few : length (filter is_open v.tree) ≤ OPEN_SHARDS
  pub lasting : IsRetention v.hours
  pub numbers : AllByRecursion (IsBelow v.next) v.logs
  pub endings : AllByRecursion (EndsUnder v.next) v.tree
  pub arrivals : AllByRecursion (HasArrived v.clock_before) v.logs
  pub order : v.clock_before ≤ v.clock
  pub trims : floor_of v.cut ≤ v.clock
  pub trims_before : floor_of v.cut_before ≤ v.clock_before
  pub rated : AreRated v.clock_before (length v.tree) v.windows
  pub drawn : 1 ≤ v.next
  pub fits : v.next < 2 ^ 64

-- The stream keeps its number, its name, its clock, and the index of the log to settle next.
abbrev pub KeepsFields : (new old : StreamValue) → Type 0
KeepsFields new old = (new.no ≡ old.no) × (new.name ≡ old.name) × (new.clock ≡ old.clock)
    × (new.next_to_settle ≡ old.next_to_settle)

-- The time of making, the retention and the cut are kept; a retreat goes back to the clock and cut of `old`.
pub record KeepsRetention (old new : StreamValue) : Type 0 where
  pub made : new.made_at ≡ old.made_at
  pub hours : new.hours ≡ old.hours
  pub cut : new.cut ≡ old.cut
  pub clock_before : new.clock_before ≡ old.clock
  pub cut_before : new.cut_before ≡ old.cut

-- A refusal or want of memory changes nothing, and an accepted command keeps the retention and the cut.
pub record ChangesIfAccepted {A B C : Type 0} (old new : StreamValue) (result : Result (Result A B) C) : Type 0 where
  pub fields : KeepsFields new old
  pub refused : IfOk result (λ a. OnErr a (new ≡ old))
  pub changed : IfOk result (λ a. OnOk a (KeepsRetention old new))
  pub kept : OnErr result (new ≡ old)

-- The trim horizon at `clock` by the retention alone, or `None` if it is negative; up to it all is trimmed.
abbrev pub cut_at : (clock hours : ℕ) → Option ℕ
cut_at clock hours = if nat_lt clock (hours * HOUR) then None else Some (clock - hours * HOUR)

-- The later of two cuts; `None` is earlier than every other one.
abbrev pub later_cut : (a b : Option ℕ) → Option ℕ
later_cut None cut = cut
later_cut (Some a) None = Some a
later_cut (Some a) (Some b) = Some (max a b)

-- The retention became `wanted` hours; the cut never falls, and a retreat keeps the new cut.
pub record IsKeptAt (wanted : ℕ) (old new : StreamValue) : Type 0 where
  pub made : new.made_at ≡ old.made_at
  pub hours : new.hours ≡ wanted
  pub cut : new.cut ≡ later_cut old.cut (cut_at old.clock wanted)
  pub clock_before : new.clock_before ≡ old.clock
  pub cut_before : new.cut_before ≡ new.cut

-- The stream after its next log dropped its trimmed records; a retreat then leads to this clock.
abbrev pub settled : (v : StreamValue) → StreamValue
settled v =
    record v {
      logs = settled_at (floor_of v.cut) v.next_to_settle v.logs;
      clock_before = v.clock;
      cut_before = v.cut;
      next_to_settle = next_of (length v.logs) v.next_to_settle;
    }

-- Whether there is a shard that wasn't closed before `floor`.
abbrev pub is_listed_at : (floor : ℕ) (x : Option ShardState) → Bool
is_listed_at floor None = false
is_listed_at floor (Some x) = not (is_closed_below floor x)

-- The shard, unless it was closed before `floor`.
abbrev pub listed_at : (floor : ℕ) (x : Option ShardState) → Option ShardState
listed_at floor None = None
listed_at floor (Some x) = if is_closed_below floor x then None else Some x
