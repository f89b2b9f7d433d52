-- How the code stores a worker's round and waiting chore: the steps left are stored apart, once.
use Rattle.std.specs.Prelude.{List, [], ◌∷◌, Option, Some, None}
use Rattle.kcl_defs.specs.declared.plans.SyncStep.{SyncStep}
use Rattle.kcl_defs.specs.declared.plans.TakeStep.{TakeStep}
use Rattle.kcl_defs.specs.Workers.{Round, AtSurvey, AtSync, AtTakes, AtRenewals, AtConsumers, AtStopping, Chore}
use Rattle.kcl_defs.specs.Workers.{Surveying, Syncing, Taking, Renewing, Consuming, Finishing, Freeing}
use Rattle.kcl_worker.specs.declared.round.Part.{Part}
use Rattle.kcl_worker.specs.declared.round.Part.TheVariants as part
use Rattle.kcl_worker.specs.declared.round.Awaited.{Awaited}
use Rattle.kcl_worker.specs.declared.round.Awaited.TheVariants as awaited

-- The round at this part, with these steps left of both plans.
abbrev pub round_of : (part : Part) (syncs : List SyncStep) (takes : List TakeStep) → Round
round_of part.Survey syncs takes = AtSurvey
round_of part.Sync syncs takes = AtSync syncs takes
round_of part.Takes syncs takes = AtTakes takes
round_of (part.Renewals last) syncs takes = AtRenewals last
round_of (part.Consumers last) syncs takes = AtConsumers last
round_of part.Stopping syncs takes = AtStopping

-- The chore for the sync plan's first step left, or None without one.
abbrev pub syncing : (syncs : List SyncStep) (takes : List TakeStep) → Option Chore
syncing [] takes = None
syncing (step ∷ syncs) takes = Some (Syncing step syncs takes)

-- The chore for the take plan's first step left, or None without one.
abbrev pub taking : (takes : List TakeStep) → Option Chore
taking [] = None
taking (step ∷ takes) = Some (Taking step takes)

-- The waiting chore from its stored form; None if nothing waits or the plan has no step left.
abbrev pub chore_of : (awaited : Awaited) (syncs : List SyncStep) (takes : List TakeStep) → Option Chore
chore_of awaited.Nothing syncs takes = None
chore_of awaited.Survey syncs takes = Some Surveying
chore_of awaited.Sync syncs takes = syncing syncs takes
chore_of awaited.Take syncs takes = taking takes
chore_of (awaited.Renew h) syncs takes = Some (Renewing h)
chore_of (awaited.Consume id) syncs takes = Some (Consuming id)
chore_of (awaited.Finish id) syncs takes = Some (Finishing id)
chore_of (awaited.Free h) syncs takes = Some (Freeing h)

-- The chore is a step of the sync plan.
abbrev pub IsSyncing : (chore : Option Chore) → Type 0
IsSyncing (Some (Syncing step syncs takes)) = Unit {0}
IsSyncing _ = ⊥

-- The chore is a step of the take plan.
abbrev pub IsTaking : (chore : Option Chore) → Type 0
IsTaking (Some (Taking step takes)) = Unit {0}
IsTaking _ = ⊥
