-- The tests and the steps of a scaling of a stream (Kinesis API Reference, UpdateShardCount).
use Rattle.std.specs.Prelude.{ℕ, ◌≡◌, ◌+◌, Bool, false, ◌||◌, nat_lt, List, length, map}
use Rattle.kds_defs.specs.declared.reply.Refusal.TheVariants as refusal
use Rattle.kds_defs.specs.declared.reply.Reply.TheVariants as reply
use Rattle.kds_defs.specs.declared.scale.ScaleStep.{ScaleStep}
use Rattle.kds_defs.specs.Decision.{Decision, Accepted, refuse◌if◌else◌}
use Rattle.kds_defs.specs.Journal.{Journal}
use Rattle.kds_defs.specs.Records.{next_number}
use Rattle.kds_defs.specs.Scaling.{LeadTo, scale, uniform_starts}
use Rattle.kds_defs.specs.ScaleCommands.{made_by, step_lines, steps_to}
use Rattle.kds_defs.specs.Shards.{open_shards, shards}
use Rattle.kds_defs.specs.StreamCommands.{last_number}
use Rattle.kds_stream.specs.Value.{StreamValue}
use Rattle.kds_stream_logs.specs.Steps.{starts_in}

-- Whether `target` open shards are more than may be open.
abbrev pub is_over : (target open_limit : ℕ) → Bool
is_over target open_limit = nat_lt open_limit target

-- Whether the steps would raise the sequence numbers or the number of shards above the greatest `u64`.
abbrev pub are_spent : (next count : ℕ) (steps : List ScaleStep) → Bool
are_spent next count steps = nat_lt last_number (next + length steps) || nat_lt last_number (count + made_by steps)

-- The steps lead from the stream's ranges to `target` uniform ranges, and its numbers suffice for them.
pub record IsPlan (v : StreamValue) (target : ℕ) (steps : List ScaleStep) : Type 0 where
  pub are : steps ≡ scale (starts_in v.tree) target
  pub leads : LeadTo steps (starts_in v.tree) (uniform_starts target)
  pub unspent : are_spent v.next (length v.tree) steps ≡ false

-- The decision on UpdateShardCount; `full` says that more shards would be open than may be.
abbrev pub scale_where : (full : Bool) (log : Journal) (c actor : ℕ) (name : List ℕ) (s target : ℕ) → Decision
scale_where full log c actor name s target =
    refuse refusal.Full if full else
    refuse refusal.Spent if nat_lt last_number (next_number log s + length (steps_to log s target))
    || nat_lt last_number (length (shards log s) + made_by (steps_to log s target)) else
    Accepted (step_lines log c actor s (steps_to log s target))
    (reply.Scaled name (length (open_shards log s)) target
    (map (λ line. line.what) (step_lines log c actor s (steps_to log s target))))
