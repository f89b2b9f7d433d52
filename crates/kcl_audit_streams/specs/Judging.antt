-- The judge's verdict on a stream's entry from its model, and the model after a good entry.
use Rattle.std.specs.Prelude.{ℕ, zero, suc, ◌+◌, ◌-◌, ◌*◌, max, Bool, true, false, ◌==◌, ◌&&◌, ◌||◌, not, nat_le}
use Rattle.std.specs.Prelude.{nat_lt, if◌then◌else◌, List, [], ◌∷◌, ◌++◌, length, slice_get, Option, Some, None, Ok}
use Rattle.std.specs.Prelude.{Err}
use Rattle.std.specs.List.{filter}
use Rattle.kds_defs.specs.declared.command.Origin.{Origin}
use Rattle.kds_defs.specs.declared.command.Origin.TheVariants as origin
use Rattle.kds_defs.specs.declared.entry.Entry.{Entry}
use Rattle.kds_defs.specs.declared.entry.Entry.TheVariants as entry
use Rattle.kds_defs.specs.declared.limits.TheConstants.{FIRST_HOURS, HOUR, LIVE_STREAMS, OPEN_SHARDS}
use Rattle.kds_defs.specs.declared.reply.Refusal.{Refusal}
use Rattle.kds_defs.specs.declared.reply.Refusal.TheVariants as refusal
use Rattle.kds_defs.specs.Rates.{is_throttled}
use Rattle.kds_defs.specs.Listings.{are_none, is_closed_at}
use Rattle.kds_defs.specs.Records.{Logged, first_at, left_among, position_after}
use Rattle.kds_defs.specs.Shards.{home_among, is_open, made_shards, merged_shards, split_shards}
use Rattle.kds_defs.specs.StreamCommands.{last_number}
use Rattle.kds_defs.specs.Streams.{floor_at, same_name}
use Rattle.kds_defs.specs.Subjects.{stream_of}
use Rattle.kds_tree.specs.Tree.{merge_refusal, split_refusal}
use Rattle.kcl_audit_streams.specs.declared.records.Sized.{Sized}
use Rattle.kcl_audit_streams.specs.declared.rule.Rule.TheVariants as rule
use Rattle.kcl_audit_streams.specs.Standing.{StreamValue, floor_in, is_listed_in, live_at, puts_in, records_in}
use Rattle.kcl_audit_streams.specs.Verdict.{Verdict}

-- The verdict that the machine would refuse the command with `r`.
abbrev pub refused : (r : Refusal) → Verdict
refused r = Err (rule.By r)

-- Good if the accepted command leads to this entry (`same`), or else the rule `Entry` is broken.
abbrev pub agrees : (same : Bool) → Verdict
agrees same = if same then Ok tt else Err rule.Entry

-- The refusal, if there is one, and otherwise `next`.
abbrev pub refused_by : (r : Option Refusal) (next : Verdict) → Verdict
refused_by (Some r) next = refused r
refused_by None next = next

-- ---- One stream of the model, which is live

-- The open shard whose range contains the hash key.
abbrev pub home_in : (v : StreamValue) (hash : ℕ) → ℕ
home_in v hash = home_among (filter is_open v.tree) hash

-- The verdict on a put at the clock into shard `sh` with this number, hash key and size.
abbrev pub put_verdict : (v : StreamValue) (clock sh number hash bytes : ℕ) → Verdict
put_verdict v clock sh number hash bytes =
    if v.enforced && is_throttled (puts_in v.records (home_in v hash)) clock bytes then refused
    (refusal.Throttled (home_in v hash)) else
    if v.next == last_number then refused refusal.Spent else
    agrees ((home_in v hash == sh) && (v.next == number))

-- Whether no sequence number, or no numbers for `more + 1` new shards, are left.
abbrev pub is_spent : (v : StreamValue) (more : ℕ) → Bool
is_spent v more = nat_lt last_number (length v.tree + more) || v.next == last_number

-- The verdict on a split at the hash key `hash` into `low` and `high`; `full` means no further shard may be open.
abbrev pub split_verdict : (v : StreamValue) (clock sh hash : ℕ) (full : Bool) (number low high : ℕ) → Verdict
split_verdict v clock sh hash full number low high =
    if not (is_listed_in (Some v) clock sh) then refused refusal.NoShard else
    refused_by (split_refusal v.tree sh hash) (
    if full then refused refusal.Full else
    if is_spent v 1 then refused refusal.Spent else
    agrees ((number == v.next) && ((low == length v.tree) && (high == length v.tree + 1))))

-- The verdict on a merge of `sh` and `other` into `child`.
abbrev pub merge_verdict : (v : StreamValue) (clock sh other number child : ℕ) → Verdict
merge_verdict v clock sh other number child =
    if not (is_listed_in (Some v) clock sh && is_listed_in (Some v) clock other) then refused refusal.NoShard else
    refused_by (merge_refusal v.tree sh other) (
    if is_spent v 0 then refused refusal.Spent else
    agrees ((number == v.next) && (child == length v.tree)))

-- The shard's records that are untrimmed at the clock, from `position` on.
abbrev pub left_in : (v : StreamValue) (clock sh position : ℕ) → List Logged
left_in v clock sh position = left_among (floor_in v clock) position (records_in v.records sh)

-- Whether a read ends the shard: it is closed, and nothing untrimmed comes after the batch.
abbrev pub is_end_in : (v : StreamValue) (clock sh position : ℕ) (numbers : List ℕ) → Bool
is_end_in v clock sh position numbers =
    is_closed_at (slice_get v.tree sh) && are_none (left_in v clock sh (position_after position numbers))

-- The sequence number from which the shard is read for this origin at the clock.
abbrev pub position_in : (v : StreamValue) (clock sh : ℕ) (origin : Origin) → ℕ
position_in v clock sh origin.TrimHorizon = 0
position_in v clock sh origin.Latest = v.next
position_in v clock sh (origin.Time moment) = first_at (left_in v clock sh 0) moment v.next

-- ---- All streams of the model

-- Whether a live stream has this name.
abbrev pub is_named : (vs : List StreamValue) (name : List ℕ) → Bool
is_named [] name = false
is_named (v ∷ vs) name = (v.live && same_name v.name name) || is_named vs name

-- The number of live streams.
abbrev pub live_count : (vs : List StreamValue) → ℕ
live_count [] = 0
live_count (v ∷ vs) = (if v.live then 1 else 0) + live_count vs

-- The number of open shards of all live streams.
abbrev pub open_in : (vs : List StreamValue) → ℕ
open_in [] = 0
open_in (v ∷ vs) = (if v.live then length (filter is_open v.tree) else 0) + open_in vs

-- Whether `more` further shards would exceed `OPEN_SHARDS`.
abbrev pub exceeds_open_limit : (vs : List StreamValue) (more : ℕ) → Bool
exceeds_open_limit vs more = nat_lt OPEN_SHARDS (open_in vs + more)

-- The refusal of making a stream, if any: name taken, too many streams or shards, or numbers spent.
abbrev pub made_refusal : (vs : List StreamValue) (name : List ℕ) (count : ℕ) → Option Refusal
made_refusal vs name count =
    if is_named vs name then Some refusal.StreamThere else
    if nat_le LIVE_STREAMS (live_count vs) || exceeds_open_limit vs count then Some refusal.Full else
    if length vs == last_number then Some refusal.Spent else
    None

-- The verdict on the making of a stream with number `s`.
abbrev pub made_verdict : (vs : List StreamValue) (s : ℕ) (name : List ℕ) (count : ℕ) → Verdict
made_verdict vs s name count = refused_by (made_refusal vs name count) (agrees (s == length vs + 1))

-- `next` on the stream, or the refusal `NoStream` without one.
abbrev pub in_live : (v : Option StreamValue) (next : StreamValue → Verdict) → Verdict
in_live None next = refused refusal.NoStream
in_live (Some v) next = next v

-- The verdict on an entry, not the making, of a live stream; `full` means no further shard may be open.
abbrev pub entry_verdict : (full : Bool) (clock : ℕ) (entry : Entry) (stream_value : StreamValue) → Verdict
entry_verdict full clock (entry.Put s sh number hash bytes key_bytes) =
    λ v. put_verdict v clock sh number hash (bytes + key_bytes)
entry_verdict full clock (entry.Split s sh key_hash number low high) =
    λ v. split_verdict v clock sh key_hash full number low high
entry_verdict full clock (entry.Merged s sh other number child) = λ v. merge_verdict v clock sh other number child
entry_verdict full clock _ = λ v. Ok tt

-- `next` on the live stream `s`; good for an entry of no stream.
abbrev pub in_its : (vs : List StreamValue) (s : Option ℕ) (next : StreamValue → Verdict) → Verdict
in_its vs None next = Ok tt
in_its vs (Some s) next = in_live (live_at vs s) next

-- The verdict on an entry at the clock; good for an entry of no stream.
abbrev pub stream_verdict : (vs : List StreamValue) (clock : ℕ) (change : Entry) → Verdict
stream_verdict vs clock (entry.Made s name count) = made_verdict vs s name count
stream_verdict vs clock change = in_its vs (stream_of change) (entry_verdict (exceeds_open_limit vs 1) clock change)

-- ---- The model after a good entry

-- A stream as it is made.
abbrev pub new_stream : (name : List ℕ) (count : ℕ) → StreamValue
new_stream name count = record {
  name = name;
  live = true;
  enforced = false;
  hours = FIRST_HOURS;
  floor = 0;
  next = 1;
  tree = made_shards count 1;
  records = [];
}

-- The stream after a put, which takes the next sequence number.
abbrev pub with_put : (r : Sized) (v : StreamValue) → StreamValue
with_put r v = record v { next = v.next + 1; records = v.records ++ r ∷ [] }

-- The stream after a split at the clock, which takes the next sequence number.
abbrev pub with_split : (clock sh hash number : ℕ) (v : StreamValue) → StreamValue
with_split clock sh hash number v =
    record v {
      next = v.next + 1;
      tree = split_shards sh hash (record { number = number; clock = clock }) (number + 1) v.tree;
    }

-- The stream after a merge at the clock, which takes the next sequence number.
abbrev pub with_merge : (clock sh other number : ℕ) (v : StreamValue) → StreamValue
with_merge clock sh other number v = record v {
  next = v.next + 1;
  tree = merged_shards sh other (record { number = number; clock = clock }) (number + 1) v.tree;
}

-- The stream after a change of retention, with the greater of old and new floor at the clock.
abbrev pub with_hours : (clock hours : ℕ) (v : StreamValue) → StreamValue
with_hours clock hours v = record v { hours = hours; floor = max (floor_in v clock) (floor_at clock (hours * HOUR)) }

-- The stream with its throughput limits on or off.
abbrev pub with_limits : (is_on : Bool) (v : StreamValue) → StreamValue
with_limits is_on v = record v { enforced = is_on }

-- The stream after its deletion.
abbrev pub with_gone : (v : StreamValue) → StreamValue
with_gone v = record v { live = false }

-- The streams with `f` applied at the index `n`, if it exists.
abbrev pub changed_at : (n : ℕ) (f : StreamValue → StreamValue) (vs : List StreamValue) → List StreamValue
changed_at n f [] = []
changed_at zero f (v ∷ vs) = f v ∷ vs
changed_at (suc n) f (v ∷ vs) = v ∷ changed_at n f vs

-- The change of a stream by a good entry, not the making.
abbrev pub with_entry : (clock : ℕ) (entry : Entry) (stream_value : StreamValue) → StreamValue
with_entry clock (entry.Gone s) = with_gone
with_entry clock (entry.Put s sh number hash bytes key_bytes) =
    with_put (record { shard = sh; seq = number; arrival = clock; bytes = bytes + key_bytes })
with_entry clock (entry.Split s sh key_hash number low high) = with_split clock sh key_hash number
with_entry clock (entry.Merged s sh other number child) = with_merge clock sh other number
with_entry clock (entry.Kept s hours) = with_hours clock hours
with_entry clock (entry.Enforced s is_on) = with_limits is_on
with_entry clock _ = λ v. v

-- The streams with `f` applied to the number `s`, if given.
abbrev pub changed_of : (s : Option ℕ) (f : StreamValue → StreamValue) (vs : List StreamValue) → List StreamValue
changed_of None f vs = vs
changed_of (Some s) f vs = changed_at (s - 1) f vs

-- The streams after a good entry; an entry of no stream changes none.
abbrev pub streams_after : (clock : ℕ) (change : Entry) (vs : List StreamValue) → List StreamValue
streams_after clock (entry.Made s name count) vs = vs ++ new_stream name count ∷ []
streams_after clock change vs = changed_of (stream_of change) (with_entry clock change) vs
