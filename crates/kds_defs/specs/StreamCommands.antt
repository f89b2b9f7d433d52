-- The commands that change streams: their refusals in order, their lines and replies.
use Rattle.std.specs.Prelude.{ℕ, ◌+◌, ◌-◌, ◌^◌, Bool, false, ◌==◌, ◌&&◌, ◌||◌, not, is_some, nat_le, nat_lt}
use Rattle.std.specs.Prelude.{if◌then◌else◌, List, [], ◌∷◌, length, Option, Some, None}
use Rattle.kds_base.specs.Span.{is_inside, are_adjacent}
use Rattle.kds_defs.specs.declared.command.NewItem.{NewItem}
use Rattle.kds_defs.specs.declared.entry.Entry.TheVariants as entry
use Rattle.kds_defs.specs.declared.limits.TheConstants.{LIVE_STREAMS, OPEN_SHARDS}
use Rattle.kds_defs.specs.declared.reply.Place.{Place}
use Rattle.kds_defs.specs.declared.reply.Refusal.TheVariants as refusal
use Rattle.kds_defs.specs.declared.reply.Reply.TheVariants as reply
use Rattle.kds_defs.specs.Decision.{Decision, Accepted, refuse◌if◌else◌}
use Rattle.kds_defs.specs.Journal.{Line, Journal, plain_line}
use Rattle.kds_defs.specs.Records.{next_number}
use Rattle.kds_defs.specs.Shards.{ShardState, shards, shard_at, range_of, is_open, is_listed, open_count, home}
use Rattle.kds_defs.specs.Streams.{made_count, live_streams, hours, stream_named}

-- The greatest `u64`, which no number or counter of the machine exceeds.
abbrev pub last_number : ℕ
last_number = 2 ^ 64 - 1

-- Whether there is a shard, and it is open.
abbrev pub is_open_at : (x : Option ShardState) → Bool
is_open_at None = false
is_open_at (Some x) = is_open x

-- The decision on CreateStream.
abbrev pub create : (log : Journal) (c actor : ℕ) (name : List ℕ) (count : ℕ) → Decision
create log c actor name count =
    refuse refusal.StreamThere if is_some (stream_named log name) else
    refuse refusal.Full if nat_le LIVE_STREAMS (length (live_streams log))
    || nat_lt OPEN_SHARDS (open_count log + count) else
    refuse refusal.Spent if made_count log == last_number else
    Accepted (plain_line c actor (entry.Made (made_count log + 1) name count) ∷ []) reply.Done

-- The decision on DeleteStream for a live stream, which is never a refusal.
abbrev pub delete : (log : Journal) (c actor s : ℕ) → Decision
delete log c actor s = Accepted (plain_line c actor (entry.Gone s) ∷ []) reply.Done

-- The line of a put: it stores the item in the home of the item's hash key.
abbrev pub put_line : (log : Journal) (c actor s number : ℕ) (item : NewItem) → Line
put_line log c actor s number item =
    record {
      clock = c;
      by = actor;
      what = entry.Put s (home log s item.hash) number item.hash (length item.payload) (length item.key);
      key = item.key;
      payload = item.payload;
    }

-- Where the item is stored: the home of its hash key, and its sequence number.
abbrev pub put_place : (log : Journal) (s number : ℕ) (item : NewItem) → Place
put_place log s number item = record { shard = home log s item.hash; seq = number }

-- The decision on SplitShard, refused if `full`: no further open shard is allowed.
abbrev pub split_where : (full : Bool) (log : Journal) (c actor s sh hash : ℕ) → Decision
split_where full log c actor s sh hash =
    refuse refusal.NoShard if not (is_listed log c s sh) else
    refuse refusal.ShardClosed if not (is_open_at (shard_at log s sh)) else
    refuse refusal.BadSplit if not (is_inside (range_of (shard_at log s sh)) hash) else
    refuse refusal.Full if full else
    refuse refusal.Spent if nat_lt last_number (length (shards log s) + 1) || next_number log s == last_number else
    Accepted (plain_line c actor
    (entry.Split s sh hash (next_number log s) (length (shards log s)) (length (shards log s) + 1)) ∷ []) reply.Done

-- The decision on SplitShard under the limit on open shards of all live streams.
abbrev pub split : (log : Journal) (c actor s sh hash : ℕ) → Decision
split log c actor s sh hash = split_where (nat_le OPEN_SHARDS (open_count log)) log c actor s sh hash

-- The decision on MergeShards.
abbrev pub merge : (log : Journal) (c actor s sh other : ℕ) → Decision
merge log c actor s sh other =
    refuse refusal.NoShard if not (is_listed log c s sh && is_listed log c s other) else
    refuse refusal.ShardClosed if not (is_open_at (shard_at log s sh) && is_open_at (shard_at log s other)) else
    refuse refusal.NotAdjacent if not
    (are_adjacent (range_of (shard_at log s sh)) (range_of (shard_at log s other))) else
    refuse refusal.Spent if nat_lt last_number (length (shards log s)) || next_number log s == last_number else
    Accepted (plain_line c actor (entry.Merged s sh other (next_number log s) (length (shards log s))) ∷ []) reply.Done

-- The decision on IncreaseStreamRetentionPeriod (if `raise`) or DecreaseStreamRetentionPeriod.
abbrev pub keep : (log : Journal) (c actor s wanted : ℕ) (raise : Bool) → Decision
keep log c actor s wanted raise =
    refuse refusal.BadRetention if (if raise then nat_lt wanted (hours log s) else nat_lt (hours log s) wanted) else
    Accepted (plain_line c actor (entry.Kept s wanted) ∷ []) reply.Done
