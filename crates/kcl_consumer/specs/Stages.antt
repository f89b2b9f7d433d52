-- The stage of a consumer from its stored fields: position, batches, requested mark and loss are kept apart.
use Rattle.std.specs.Prelude.{ℕ, ◌≡◌, ◌<◌, Bool, true, List, [], length, Option}
use Rattle.kds_defs.specs.declared.command.Target.{Target}
use Rattle.kcl_defs.specs.declared.consumer.Fetched.{Fetched}
use Rattle.kds_defs.specs.declared.limits.TheConstants.{PENDING_READS}
use Rattle.kcl_defs.specs.Consumers.{Stage, Opening, Starting, Filling, Holding, Giving, Marking, Ending, MarkingEnd}
use Rattle.kcl_defs.specs.Consumers.{Leaving, Over, first_has_records}
use Rattle.kcl_consumer.specs.declared.stage.ConsumerStage.{ConsumerStage}
use Rattle.kcl_consumer.specs.declared.stage.ConsumerStage.TheVariants as stage

-- The stage of a consumer whose stored stage and other fields are these.
abbrev pub stage_of : (consumer_stage : ConsumerStage) (reach : ℕ) (waiting : List Fetched) (asked : Option Target)
    (lost : Bool) → Stage
stage_of stage.Opening reach waiting asked lost = Opening
stage_of stage.Starting reach waiting asked lost = Starting
stage_of stage.Filling reach waiting asked lost = Filling reach waiting
stage_of stage.Holding reach waiting asked lost = Holding reach waiting
stage_of stage.Giving reach waiting asked lost = Giving reach waiting asked lost
stage_of (stage.Marking end) reach waiting asked lost = Marking reach waiting end
stage_of stage.Ending reach waiting asked lost = Ending
stage_of stage.MarkingEnd reach waiting asked lost = MarkingEnd
stage_of (stage.Leaving why) reach waiting asked lost = Leaving why
stage_of (stage.Over why) reach waiting asked lost = Over why

-- What the stored stage says of the waiting batches: none, fewer than `PENDING_READS`, or a first with records.
abbrev pub IsKept : (consumer_stage : ConsumerStage) (waiting : List Fetched) → Type 0
IsKept stage.Opening waiting = waiting ≡ []
IsKept stage.Starting waiting = waiting ≡ []
IsKept stage.Filling waiting = length waiting < PENDING_READS
IsKept stage.Holding waiting = first_has_records waiting ≡ true
IsKept _ waiting = Unit {0}
