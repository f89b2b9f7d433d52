-- A Read's answer as a consumer uses it: the read with its next position, nothing, or why it leaves.
use Rattle.std.specs.Prelude.{ℕ, ◌≡◌, List, Result}
use Rattle.kcl_defs.specs.declared.consumer.Fetched.{Fetched}
use Rattle.kds_defs.specs.declared.reply.Refusal.{Refusal}
use Rattle.kds_defs.specs.declared.reply.Reply.{Reply}
use Rattle.kcl_consumer.specs.declared.consumer.Fetching.{Fetching}
use Rattle.kcl_consumer.specs.declared.consumer.Fetching.TheVariants as fetching
use Rattle.kcl_defs.specs.Consumers.{Stage, Filling, Leaving, fetched, after_read}

-- The stage after a Read's answer, given the read position and waiting batches from before.
abbrev pub stage_by : (limit reach : ℕ) (waiting : List Fetched) (fetching : Fetching) → Stage
stage_by limit reach waiting (fetching.Read f next) = fetched limit next waiting f
stage_by limit reach waiting fetching.Nothing = Filling reach waiting
stage_by limit reach waiting (fetching.Left why) = Leaving why

-- `f` leads to the same stage as `answer`, whatever the limit, read position and waiting batches.
abbrev pub IsFetching : (answer : Result Reply Refusal) (f : Fetching) → Type 0
IsFetching answer f = (limit reach : ℕ) (waiting : List Fetched)
    → after_read limit reach waiting answer ≡ stage_by limit reach waiting f
