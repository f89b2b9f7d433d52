-- UpdateShardCount: its refusals in order, its lines and its reply.
use Rattle.std.specs.Prelude.{ℕ, ◌+◌, ◌-◌, ◌==◌, ◌||◌, not, nat_lt, List, [], ◌∷◌, length, map}
use Rattle.std.specs.List.{filter}
use Rattle.kds_defs.specs.declared.entry.Entry.{Entry}
use Rattle.kds_defs.specs.declared.entry.Entry.TheVariants as entry
use Rattle.kds_defs.specs.declared.limits.TheConstants.{OPEN_SHARDS}
use Rattle.kds_defs.specs.declared.reply.Refusal.TheVariants as refusal
use Rattle.kds_defs.specs.declared.reply.Reply.TheVariants as reply
use Rattle.kds_defs.specs.declared.scale.ScaleStep.{ScaleStep}
use Rattle.kds_defs.specs.declared.scale.ScaleStep.TheVariants.{Join, Cut}
use Rattle.kds_defs.specs.Decision.{Decision, Accepted, refuse◌if◌else◌}
use Rattle.kds_defs.specs.Journal.{Line, Journal, plain_line}
use Rattle.kds_defs.specs.Records.{next_number}
use Rattle.kds_defs.specs.Scaling.{scale, with_start}
use Rattle.kds_defs.specs.Shards.{ShardState, shards, open_in, open_shards, home}
use Rattle.kds_defs.specs.Streams.{live_streams}
use Rattle.kds_defs.specs.StreamCommands.{last_number}

-- The first keys of the shards' ranges, in rising order.
abbrev pub starts_among : (xs : List ShardState) → List ℕ
starts_among [] = []
starts_among (x ∷ xs) = with_start x.range.start (starts_among xs)

-- The merges and splits from the stream's open shards to `target` uniform ranges.
abbrev pub steps_to : (log : Journal) (s target : ℕ) → List ScaleStep
steps_to log s target = scale (starts_among (open_shards log s)) target

-- The number of shards that the steps make: one for a merge, two for a split.
abbrev pub made_by : (steps : List ScaleStep) → ℕ
made_by [] = 0
made_by (Join b ∷ steps) = 1 + made_by steps
made_by (Cut b ∷ steps) = 2 + made_by steps

-- The number of open shards in the other live streams.
abbrev pub open_elsewhere : (log : Journal) (s : ℕ) → ℕ
open_elsewhere log s = open_in log (filter (λ t. not (t == s)) (live_streams log))

-- The entry of a step: a merge at `b` is of the homes of `b - 1` and `b`, a split at `b` of the home of `b`.
abbrev pub step_entry : (log : Journal) (s : ℕ) (scale_step : ScaleStep) → Entry
step_entry log s (Join b) =
    entry.Merged s (home log s (b - 1)) (home log s b) (next_number log s) (length (shards log s))
step_entry log s (Cut b) =
    entry.Split s (home log s b) b (next_number log s) (length (shards log s)) (length (shards log s) + 1)

-- The lines of the steps, each computed after the lines before it.
abbrev pub step_lines : (log : Journal) (c actor s : ℕ) (steps : List ScaleStep) → List Line
step_lines log c actor s [] = []
step_lines log c actor s (step ∷ steps) =
    let line : Line = plain_line c actor (step_entry log s step) in
    line ∷ step_lines (line ∷ log) c actor s steps

-- The decision on UpdateShardCount.
abbrev pub scale_stream : (log : Journal) (c actor : ℕ) (name : List ℕ) (s target : ℕ) → Decision
scale_stream log c actor name s target =
    refuse refusal.Full if nat_lt OPEN_SHARDS (open_elsewhere log s + target) else
    refuse refusal.Spent if nat_lt last_number (next_number log s + length (steps_to log s target))
    || nat_lt last_number (length (shards log s) + made_by (steps_to log s target)) else
    Accepted (step_lines log c actor s (steps_to log s target))
    (reply.Scaled name (length (open_shards log s)) target
    (map (λ line. line.what) (step_lines log c actor s (steps_to log s target))))
