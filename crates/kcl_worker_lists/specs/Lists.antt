-- A worker's consumers as callers see them: live ones, and what is kept of ended ones.
use Rattle.std.specs.Prelude.{ℕ, Bool, is_some, List, [], ◌∷◌, length, Option, Some, None}
use Rattle.std.specs.List.{filter, find}
use Rattle.kds_base.specs.declared.lease_key.ShardRef.{ShardRef}
use Rattle.kcl_defs.specs.declared.consumer.Due.{Due}
use Rattle.kcl_defs.specs.declared.consumer.Why.{Why}
use Rattle.kcl_defs.specs.declared.plans.TenancyId.{TenancyId}
use Rattle.kcl_defs.specs.Consumers.{due_call}
use Rattle.kcl_defs.specs.Workers.{is_giving_stage, is_past}
use Rattle.kcl_consumer.specs.Standing.{ConsumerValue}

-- What is kept of an ended consumer, with the key and tenure of its lease.
pub record Retirement (P : Type 0) : Type 0 where
  pub key : ShardRef
  pub tenure : ℕ
  pub why : Why
  pub processor : P

-- The consumer's lease, by key and tenure.
abbrev pub id_in : {P : Type 0} → (c : ConsumerValue P) → TenancyId
id_in c = record { key = c.made.key; tenure = c.made.tenure }

-- The first consumer whose lease comes after `last`, or the first of all if `last` is None.
abbrev pub past_in : {P : Type 0} → (last : Option TenancyId) (cs : List (ConsumerValue P)) → Option (ConsumerValue P)
past_in last cs = find (λ c. is_past last (id_in c)) cs

-- The first consumer whose next command is a Give, if any.
abbrev pub giving_in : {P : Type 0} → (cs : List (ConsumerValue P)) → Option (ConsumerValue P)
giving_in cs = find (λ c. is_giving_stage c.stage) cs

-- Whether a call of the consumer's processor is due.
abbrev pub is_due : {P : Type 0} → (c : ConsumerValue P) → Bool
is_due c = is_some (due_call c.stage)

-- The due call with its consumer's key, or `rest` without one.
abbrev pub due_or : {P : Type 0} → (c : ConsumerValue P) (due : Option Due) (rest : Option (ShardRef × Due)) → Option
    (ShardRef × Due)
due_or c None rest = rest
due_or c (Some due) rest = Some (c.made.key, due)

-- The first due processor call with its consumer's key, if any.
abbrev pub due_in : {P : Type 0} → (cs : List (ConsumerValue P)) → Option (ShardRef × Due)
due_in [] = None
due_in (c ∷ cs) = due_or c (due_call c.stage) (due_in cs)

-- The number of consumers with a due processor call.
abbrev pub due_count : {P : Type 0} → (cs : List (ConsumerValue P)) → ℕ
due_count cs = length (filter is_due cs)
