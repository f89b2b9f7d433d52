use Rattle.std.proofs.Common.{◌≡◌, ◌≤◌, ◌+◌, ◌++◌, ℕ, List, length, drop}
use Rattle.std.specs.Prelude.{vec_capacity, vec_len}
use Rattle.kds_defs.specs.ScaleCommands.{made_by}
use Rattle.kds_defs.specs.Scaling.{LeadTo}
use Rattle.kds_stream_logs.specs.Steps.{entries_in, scaled, starts_in}
use Rattle.kds_stream_logs.proofs.steps.take_steps.Given as goal

-- The steps left lead where all steps lead, with memory for them; each step passed drew one number.
abbrev pub invariant-loop-step : goal.invariant-loop-step
invariant-loop-step l =
    record {
      value : scaled (drop l.step-index l.steps) l.number l.clock l.tree.shards
          ≡ scaled l.steps l.first l.clock l.initial.tree.shards;
      entries_are : l.entries.items ++ entries_in l.no (drop l.step-index l.steps) l.number l.clock l.tree.shards
          ≡ l.initial.entries.items ++ entries_in l.no l.steps l.first l.clock l.initial.tree.shards;
      leads : (wanted : List ℕ) → LeadTo l.steps (starts_in l.initial.tree.shards) wanted
          → LeadTo (drop l.step-index l.steps) (starts_in l.tree.shards) wanted;
      room : made_by (drop l.step-index l.steps) ≤ l.tree.spare;
      number_is : l.number ≡ l.first + l.step-index;
      memory : vec_len l.entries + length l.steps ≤ vec_capacity l.entries + l.step-index;
    }
