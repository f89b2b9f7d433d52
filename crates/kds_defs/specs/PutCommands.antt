-- PutRecord and PutRecords under limits on throughput, and the command that turns the limits on or off.
use Rattle.std.specs.Prelude.{ℕ, ◌+◌, Bool, false, ◌==◌, ◌&&◌, nat_lt, if◌then◌else◌, List, [], ◌∷◌, length}
use Rattle.kds_defs.specs.declared.command.NewItem.{NewItem}
use Rattle.kds_defs.specs.declared.entry.Entry.{Entry}
use Rattle.kds_defs.specs.declared.entry.Entry.TheVariants as entry
use Rattle.kds_defs.specs.declared.reply.Outcome.{Outcome}
use Rattle.kds_defs.specs.declared.reply.Outcome.TheVariants as outcome
use Rattle.kds_defs.specs.declared.reply.Refusal.TheVariants as refusal
use Rattle.kds_defs.specs.declared.reply.Reply.TheVariants as reply
use Rattle.kds_defs.specs.Decision.{Decision, Accepted, refuse◌if◌else◌}
use Rattle.kds_defs.specs.Journal.{Line, Journal, plain_line}
use Rattle.kds_defs.specs.Lawful.{item_bytes}
use Rattle.kds_defs.specs.Rates.{is_throttled, puts}
use Rattle.kds_defs.specs.Records.{next_number}
use Rattle.kds_defs.specs.Shards.{home}
use Rattle.kds_defs.specs.StreamCommands.{last_number, put_line, put_place}

-- ---- Whether the limits are on

-- The value of `is_enforced` after an entry.
abbrev pub enforced_after : (entry : Entry) (s : ℕ) (old : Bool) → Bool
enforced_after (entry.Enforced stream is_on) s old = if stream == s then is_on else old
enforced_after _ s old = old

-- Whether the stream's limits on throughput are on; at first they are off.
abbrev pub is_enforced : (log : Journal) (s : ℕ) → Bool
is_enforced [] s = false
is_enforced (line ∷ log) s = enforced_after line.what s (is_enforced log s)

-- The decision on LocalEnforceLimits, which turns a stream's limits on or off.
abbrev pub enforce : (log : Journal) (c actor s : ℕ) (is_on : Bool) → Decision
enforce log c actor s is_on = Accepted (plain_line c actor (entry.Enforced s is_on) ∷ []) reply.Done

-- ---- Puts

-- Whether the item is throttled: limits are on, and its home has no room in this second.
abbrev pub is_held_back : (log : Journal) (c s : ℕ) (item : NewItem) → Bool
is_held_back log c s item = is_enforced log s && is_throttled (puts log s (home log s item.hash)) c (item_bytes item)

-- The decision on PutRecord.
abbrev pub put : (log : Journal) (c actor s : ℕ) (item : NewItem) → Decision
put log c actor s item =
    refuse (refusal.Throttled (home log s item.hash)) if is_held_back log c s item else
    refuse refusal.Spent if next_number log s == last_number else
    Accepted (put_line log c actor s (next_number log s) item ∷ [])
    (reply.Put (put_place log s (next_number log s) item))

-- The lines of a PutRecords, one for each item that isn't throttled after the lines of the items before it.
abbrev pub put_lines : (log : Journal) (c actor s : ℕ) (items : List NewItem) → List Line
put_lines log c actor s [] = []
put_lines log c actor s (item ∷ items) =
    let line : Line = put_line log c actor s (next_number log s) item in
    if is_held_back log c s item then put_lines log c actor s items else line ∷ put_lines (line ∷ log) c actor s items

-- The outcome of each item: its place, or its home shard if it is throttled after the items before it.
abbrev pub put_outcomes : (log : Journal) (c actor s : ℕ) (items : List NewItem) → List Outcome
put_outcomes log c actor s [] = []
put_outcomes log c actor s (item ∷ items) =
    let line : Line = put_line log c actor s (next_number log s) item in
    if is_held_back log c s item
    then outcome.Throttled (home log s item.hash) ∷ put_outcomes log c actor s items
    else outcome.Stored (put_place log s (next_number log s) item) ∷ put_outcomes (line ∷ log) c actor s items

-- The decision on PutRecords, which puts the items that aren't throttled.
abbrev pub put_many : (log : Journal) (c actor s : ℕ) (items : List NewItem) → Decision
put_many log c actor s items =
    refuse refusal.Spent if nat_lt last_number (next_number log s + length (put_lines log c actor s items)) else
    Accepted (put_lines log c actor s items) (reply.PutMany (put_outcomes log c actor s items))
