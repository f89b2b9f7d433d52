-- The journals that a machine can leave: each line states a command that is accepted after the lines before it.
use Rattle.std.specs.Prelude.{ℕ, ◌-◌, ◌^◌, ◌<◌, ◌≤◌, ◌≡◌, not, nat_lt, [], ◌∷◌, Option, Some, None}
use Rattle.kds_defs.specs.declared.command.NewItem.{NewItem}
use Rattle.kds_defs.specs.declared.entry.Entry.{Entry}
use Rattle.kds_defs.specs.declared.entry.Entry.TheVariants as entry
use Rattle.kds_defs.specs.declared.reply.Refusal.TheVariants as refusal
use Rattle.kds_defs.specs.declared.reply.Reply.{Reply}
use Rattle.kds_defs.specs.Decision.{Decision, Accepted, refuse◌if◌else◌}
use Rattle.kds_defs.specs.Journal.{Line, Journal}
use Rattle.kds_defs.specs.LeaseCommands.{make_lease, take_lease, renew, free, open_shard, read, give, mark, cut_lease}
use Rattle.kds_defs.specs.Leases.{TenureState, tenure, reach}
use Rattle.kds_defs.specs.Lawful.{IsShardCount, IsRetention}
use Rattle.kds_defs.specs.StreamCommands.{create, delete, split, merge, keep}
use Rattle.kds_defs.specs.PutCommands.{enforce, put}
use Rattle.kds_defs.specs.Streams.{is_live, hours}

-- The decision `next` if the stream is live, and the refusal `NoStream` otherwise.
abbrev pub in_stream : (log : Journal) (s : ℕ) (next : Decision) → Decision
in_stream log s next = refuse refusal.NoStream if not (is_live log s) else next

-- The record that the line of a put has.
abbrev pub item_of : (line : Line) (hash : ℕ) → NewItem
item_of line hash = record { key = line.key; hash = hash; payload = line.payload }

-- The reach of a tenure, or 0 if there is no tenure.
abbrev pub reach_in : (tenure_state : Option TenureState) → ℕ
reach_in None = 0
reach_in (Some T) = reach T

-- The decision on the command that a line states; a put of a PutRecords counts as PutRecord,
-- and a step of a scaling as SplitShard or MergeShards.
abbrev pub told : (log : Journal) (line : Line) (entry : Entry) → Decision
told log line (entry.Made s name count) = create log line.clock line.by name count
told log line (entry.Gone s) = in_stream log s (delete log line.clock line.by s)
told log line (entry.Put s sh number hash bytes key_bytes) =
    in_stream log s (put log line.clock line.by s (item_of line hash))
told log line (entry.Split s sh key_hash number low high) = in_stream log s (split log line.clock line.by s sh key_hash)
told log line (entry.Merged s sh other number child) = in_stream log s (merge log line.clock line.by s sh other)
told log line (entry.Kept s wanted) =
    in_stream log s (keep log line.clock line.by s wanted (not (nat_lt wanted (hours log s))))
told log line (entry.Enforced s is_on) = in_stream log s (enforce log line.clock line.by s is_on)
told log line (entry.LeaseMade key origin) = make_lease log line.clock line.by key origin
told log line (entry.Taken key t counter owner) = take_lease log line.clock line.by key (counter - 1) owner
told log line (entry.Renewed t counter) = renew log line.clock line.by t (counter - 1)
told log line (entry.Freed t counter) = free log line.clock line.by t (counter - 1)
told log line (entry.Opened t) = open_shard log line.clock line.by t
told log line (entry.Read t limit ended numbers) = read log line.clock line.by t (reach_in (tenure log t)) limit
told log line (entry.Given t) = give log line.clock line.by t
told log line (entry.Marked t counter target) = mark log line.clock line.by t (counter - 1) target
told log line (entry.LeaseCut key counter) = cut_lease log line.clock line.by key counter

-- The entry's shard count, hash key or retention is within its range.
abbrev pub IsInRange : (entry : Entry) → Type 0
IsInRange (entry.Made s name count) = IsShardCount count
IsInRange (entry.Put s sh number hash bytes key_bytes) = hash < 2 ^ 128
IsInRange (entry.Kept s wanted) = IsRetention wanted
IsInRange _ = Unit {0}

-- The clock of the newest line, or 0 if there are no lines.
abbrev pub last_clock : (log : Journal) → ℕ
last_clock [] = 0
last_clock (line ∷ log) = line.clock

-- The line is good: in order and in range, and its command is accepted and adds exactly this line.
pub record IsGood (log : Journal) (line : Line) : Type 0 where
  pub in_order : last_clock log ≤ line.clock
  pub in_range : IsInRange line.what
  pub reply : Reply
  pub allowed : told log line line.what ≡ Accepted (line ∷ []) reply

-- Each line is good (`IsGood`) after the lines before it.
abbrev pub IsLegal : (log : Journal) → Type 0
IsLegal [] = Unit {0}
IsLegal (line ∷ log) = IsGood log line × IsLegal log

-- The journal is legal, and no line is later than the clock `c`.
pub record IsReached (log : Journal) (c : ℕ) : Type 0 where
  pub legal : IsLegal log
  pub order : last_clock log ≤ c
