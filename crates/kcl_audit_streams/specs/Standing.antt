-- The judge's model of the streams, and the journals that it represents.
use Rattle.std.specs.Prelude.{ℕ, ◌≡◌, ◌+◌, ◌*◌, ◌<◌, ◌≤◌, ◌==◌, ◌&&◌, max, zero, suc, Bool, true, false, not}
use Rattle.std.specs.Prelude.{if◌then◌else◌, List, [], ◌∷◌, length}
use Rattle.std.specs.Prelude.{map, slice_get, Option, Some, None}
use Rattle.std.specs.List.{filter}
use Rattle.kds_base.specs.declared.lease_key.ShardRef.{ShardRef}
use Rattle.kds_defs.specs.declared.limits.TheConstants.{HOUR}
use Rattle.kds_defs.specs.Journal.{Journal}
use Rattle.kds_defs.specs.Legal.{last_clock}
use Rattle.kds_defs.specs.PutCommands.{is_enforced}
use Rattle.kds_defs.specs.Rates.{SizedPut, puts}
use Rattle.kds_defs.specs.Records.{Logged, next_number, records}
use Rattle.kds_defs.specs.Shards.{ShardState, is_closed_below, shards}
use Rattle.kds_defs.specs.Streams.{floor_at, hours, is_live, made_count, name_of, trim_floor, was_made}
use Rattle.kds_defs.specs.Subjects.{IsFresh}
use Rattle.kcl_laws.specs.Recorded.{bare}
use Rattle.kcl_audit_streams.specs.declared.records.Sized.{Sized}

-- ---- One stream

-- The model of a stream; `floor` is the trim floor from earlier changes of the retention.
pub record StreamValue : Type 0 where
  pub name : List ℕ
  pub live : Bool
  pub enforced : Bool
  pub hours : ℕ
  pub floor : ℕ
  pub next : ℕ
  pub tree : List ShardState
  pub records : List Sized

-- The record without key and payload, as the model keeps only their size.
abbrev pub logged : (r : Sized) → Logged
logged r = record { seq = r.seq; arrival = r.arrival; bytes = r.bytes; key = []; payload = [] }

-- Whether the record is of the shard.
abbrev pub is_in : (sh : ℕ) (r : Sized) → Bool
is_in sh r = r.shard == sh

-- The shard's records, without keys and payloads.
abbrev pub records_in : (rs : List Sized) (sh : ℕ) → List Logged
records_in rs sh = map logged (filter (is_in sh) rs)

-- The shard's puts in front of `old`, newest first.
abbrev pub puts_from : (old : List SizedPut) (rs : List Sized) (sh : ℕ) → List SizedPut
puts_from old [] sh = old
puts_from old (r ∷ rs) sh =
    puts_from (if is_in sh r then record { clock = r.arrival; bytes = r.bytes } ∷ old else old) rs sh

-- The shard's puts, newest first.
abbrev pub puts_in : (rs : List Sized) (sh : ℕ) → List SizedPut
puts_in rs sh = puts_from [] rs sh

-- The trim floor at the clock, the greater of the kept floor and the present retention's.
abbrev pub floor_in : (v : StreamValue) (clock : ℕ) → ℕ
floor_in v clock = max v.floor (floor_at clock (v.hours * HOUR))

-- The journal made the stream, and says of it what the judge keeps, but for keys and payloads.
pub record IsStream (log : Journal) (s : ℕ) (v : StreamValue) : Type 0 where
  pub was : was_made log s ≡ true
  pub named : name_of log s ≡ v.name
  pub lives : is_live log s ≡ v.live
  pub lasts : hours log s ≡ v.hours
  pub trims : (c : ℕ) → last_clock log ≤ c → trim_floor log c s ≡ floor_in v c
  pub draws : next_number log s ≡ v.next
  pub shards_are : shards log s ≡ v.tree
  pub records_are : (sh : ℕ) → map bare (records log s sh) ≡ records_in v.records sh
  pub limited : is_enforced log s ≡ v.enforced
  pub puts_are : (sh : ℕ) → puts log s sh ≡ puts_in v.records sh

-- ---- All streams

-- The list models the journal's streams from the number `n` on.
abbrev pub AreStreams : (log : Journal) (n : ℕ) (vs : List StreamValue) → Type 0
AreStreams log n [] = Unit {0}
AreStreams log n (v ∷ vs) = IsStream log n v × AreStreams log (n + 1) vs

-- The list models all streams made in the journal, numbered from 1, and no other number is used.
pub record ShowsAll (vs : List StreamValue) (log : Journal) : Type 0 where
  pub made : made_count log ≡ length vs
  pub streams : AreStreams log 1 vs
  pub others : (s : ℕ) → length vs < s → IsFresh log s
  pub none : IsFresh log 0

-- The model: a clock, and all streams made.
pub record StreamsValue : Type 0 where
  pub clock : ℕ
  pub streams : List StreamValue

-- The model has the journal's streams, and its clock isn't below the newest line's.
pub record Shows (w : StreamsValue) (log : Journal) : Type 0 where
  pub all : ShowsAll w.streams log
  pub order : last_clock log ≤ w.clock

-- ---- Listed shards

-- The stream with the number `n`, if any; numbers begin at 1.
abbrev pub stream_at : (vs : List StreamValue) (n : ℕ) → Option StreamValue
stream_at vs zero = None
stream_at vs (suc n) = slice_get vs n

-- The stream, if it is live.
abbrev pub if_live : (v : Option StreamValue) → Option StreamValue
if_live None = None
if_live (Some v) = if v.live then Some v else None

-- The live stream with the number `s`, if any.
abbrev pub live_at : (vs : List StreamValue) (s : ℕ) → Option StreamValue
live_at vs s = if_live (stream_at vs s)

-- Whether there is a shard, and it is open or was closed at or after the floor.
abbrev pub is_listed_of : (floor : ℕ) (x : Option ShardState) → Bool
is_listed_of floor None = false
is_listed_of floor (Some x) = not (is_closed_below floor x)

-- Whether the stream is live and lists the shard at the clock.
abbrev pub is_listed_in : (v : Option StreamValue) (clock sh : ℕ) → Bool
is_listed_in None clock sh = false
is_listed_in (Some v) clock sh = v.live && is_listed_of (floor_in v clock) (slice_get v.tree sh)

-- Whether the key's shard is listed at the model's clock.
abbrev pub lists : (w : StreamsValue) (key : ShardRef) → Bool
lists w key = is_listed_in (live_at w.streams key.stream) w.clock key.shard
