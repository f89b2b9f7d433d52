-- What a worker's processors may ask for after a batch: `asks` for one of them, and the bound `may` for all.
use Rattle.std.specs.Prelude.{◌≡◌, List, map, Option, Some, None}
use Rattle.std.specs.List.{AllByRecursion}
use Rattle.kcl_defs.specs.declared.consumer.Ask.{Ask}
use Rattle.kcl_defs.specs.declared.consumer.Ask.TheVariants as ask
use Rattle.kds_defs.specs.declared.reply.Stored.{Stored}
use Rattle.kcl_defs.specs.Consumers.{Stage, Holding, first_batch}
use Rattle.kcl_defs.specs.Workers.{Known, stage_of_known}
use Rattle.kcl_consumer.specs.Standing.{ConsumerValue}

-- `may` allows all that the processor may ask for.
abbrev pub IsWithin : {P : Type 0} → (asks : P → List Stored → Ask → Type 0) (may : List Stored → Ask → Type 0) (p : P)
    → Type 0
IsWithin asks may p = (batch : List Stored) (a : Ask) → asks p batch a → may batch a

abbrev pub processors : {P : Type 0} → (cs : List (ConsumerValue P)) → List P
processors cs = map (λ c. c.processor) cs

-- `may` allows all that the consumers' processors may ask for.
abbrev pub AskWithin : {P : Type 0}
    → (asks : P → List Stored → Ask → Type 0) (may : List Stored → Ask → Type 0) (cs : List (ConsumerValue P)) → Type 0
AskWithin asks may cs = AllByRecursion (IsWithin asks may) (processors cs)

-- In `Holding`, `may` allows `asked` after the first waiting batch; in other stages nothing is asked.
abbrev pub IsAsk : (may : List Stored → Ask → Type 0) (stage : Stage) (asked : Ask) → Type 0
IsAsk may (Holding reach waiting) asked = may (first_batch waiting) asked
IsAsk may _ asked = asked ≡ ask.None

-- There is a consumer, whose processor may ask `asked` after the call due in its stage.
abbrev pub IsAskOf : (may : List Stored → Ask → Type 0) (k : Option Known) (asked : Ask) → Type 0
IsAskOf may None asked = ⊥
IsAskOf may (Some k) asked = IsAsk may (stage_of_known k) asked

-- Both bounds allow the same after each batch.
abbrev pub AllowsSame : (may other : List Stored → Ask → Type 0) → Type 0
AllowsSame may other = (batch : List Stored) (a : Ask) → (may batch a → other batch a) × (other batch a → may batch a)
