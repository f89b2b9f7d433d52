-- A worker's consumers and leases, as lists, after an answer, a loss or a processor call.
use Rattle.std.specs.Prelude.{ℕ, ◌<◌, ◌≡◌, ◌&&◌, Bool, true, false, not, is_some, if◌then◌else◌, List, [], ◌∷◌, ◌++◌}
use Rattle.std.specs.Prelude.{drop, length, map, take, Option, Some, None, Result}
use Rattle.std.specs.List.{AllByRecursion, filter, find, list_any, slice_index_or as get_or}
use Rattle.kcl_defs.specs.declared.consumer.Ask.{Ask}
use Rattle.kcl_defs.specs.declared.consumer.Call.{Call}
use Rattle.kcl_defs.specs.declared.consumer.Why.{Why}
use Rattle.kcl_defs.specs.declared.consumer.Why.TheVariants as why
use Rattle.kcl_defs.specs.declared.plans.Held.{Held}
use Rattle.kcl_defs.specs.declared.plans.TenancyId.{TenancyId}
use Rattle.kds_base.specs.declared.lease_key.ShardRef.{ShardRef}
use Rattle.kds_defs.specs.Keys.{same_key}
use Rattle.kds_defs.specs.declared.reply.Refusal.{Refusal}
use Rattle.kds_defs.specs.declared.reply.Reply.{Reply}
use Rattle.kds_defs.specs.declared.reply.Stored.{Stored}
use Rattle.kcl_defs.specs.Consumers.{Stage, Opening, Over, after_answer, after_loss, given_after, over_at}
use Rattle.kcl_defs.specs.Workers.{held_after, id_of_held, is_before_id, same_id, without_held}
use Rattle.kcl_consumer.specs.Standing.{HasCalled, IsAsBefore, ConsumerValue}
use Rattle.kcl_worker_lists.specs.Lists.{id_in}
use Rattle.kcl_worker_lists.specs.Lists.{Retirement, is_due}

-- ---- One consumer

-- The consumer once it knows that its lease is lost.
abbrev pub lost_in : {P : Type 0} → (c : ConsumerValue P) → ConsumerValue P
lost_in c = record c { stage = after_loss c.stage }

-- The consumer after the answer to its command, which changes at most the stage and last given number.
abbrev pub answered_in : {P : Type 0} → (answer : Result Reply Refusal) (c : ConsumerValue P) → ConsumerValue P
answered_in answer c =
    record c { stage = after_answer c.made answer c.stage; given = given_after answer c.stage c.given }

-- Whether the consumer has ended.
abbrev pub is_over_in : {P : Type 0} → (c : ConsumerValue P) → Bool
is_over_in c = is_some (over_at c.stage)

-- Why a consumer in `Over` ended; `Lost` for other stages is never used.
abbrev pub why_of : (stage : Stage) → Why
why_of (Over why) = why
why_of _ = why.Lost

-- What is kept of an ended consumer.
abbrev pub retire : {P : Type 0} → (c : ConsumerValue P) → Retirement P
retire c = record { key = c.made.key; tenure = c.made.tenure; why = why_of c.stage; processor = c.processor }

-- ---- Several consumers

-- The consumers after those that pass `test` learnt that their leases are lost.
abbrev pub lost_among : {P : Type 0} → (test : TenancyId → Bool) (cs : List (ConsumerValue P)) → List (ConsumerValue
    P)
lost_among test cs = map (λ c. if test (id_in c) then lost_in c else c) cs

-- The consumers after the first one of the lease `id` took the answer.
abbrev pub answered_among : {P : Type 0}
    → (id : TenancyId) (answer : Result Reply Refusal) (cs : List (ConsumerValue P)) → List (ConsumerValue P)
answered_among id answer [] = []
answered_among id answer (c ∷ cs) =
    if same_id (id_in c) id then answered_in answer c ∷ cs else c ∷ answered_among id answer cs

-- The consumers with `c` before the first whose lease comes after its lease, or at the end.
abbrev pub with_consumer : {P : Type 0} → (c : ConsumerValue P) (ds : List (ConsumerValue P)) → List (ConsumerValue P)
with_consumer c [] = c ∷ []
with_consumer c (d ∷ ds) = if is_before_id (id_in c) (id_in d) then c ∷ d ∷ ds else d ∷ with_consumer c ds

-- The consumers without the first one of the lease `id`.
abbrev pub without_consumer : {P : Type 0} → (id : TenancyId) (cs : List (ConsumerValue P)) → List (ConsumerValue P)
without_consumer id [] = []
without_consumer id (c ∷ cs) = if same_id (id_in c) id then cs else c ∷ without_consumer id cs

-- Whether a consumer belongs to the lease.
abbrev pub has_one : {P : Type 0} → (cs : List (ConsumerValue P)) (h : Held) → Bool
has_one cs h = list_any (λ c. same_id (id_in c) (id_of_held h)) cs

-- The first lease with this key that has a consumer, if any.
abbrev pub leaving_in : {P : Type 0} → (key : ShardRef) (cs : List (ConsumerValue P)) (held : List Held) → Option Held
leaving_in key cs held = find (λ h. same_key h.key key && has_one cs h) held

-- The consumers that haven't ended.
abbrev pub live_among : {P : Type 0} → (cs : List (ConsumerValue P)) → List (ConsumerValue P)
live_among cs = filter (λ c. not (is_over_in c)) cs

-- What is kept of the ended consumers, in their order.
abbrev pub retired_among : {P : Type 0} → (cs : List (ConsumerValue P)) → List (Retirement P)
retired_among cs = map retire (filter is_over_in cs)

-- `i` is the index of the first consumer with a due processor call.
pub record IsFirstDue {P : Type 0} (i : ℕ) (cs : List (ConsumerValue P)) : Type 0 where
  pub within : i < length cs
  pub none_due : AllByRecursion (λ c. is_due c ≡ false) (take i cs)
  pub due : (c : ConsumerValue P) → c ≡ get_or cs i c → is_due c ≡ true

-- `new` is `old` after the first due processor call returned with `asked`; the other consumers are unchanged.
pub record FirstCalled {P : Type 0} (stands : P → List Call → Type 0) (asks : P → List Stored → Ask → Type 0)
    (asked : Ask)
    (old new : List (ConsumerValue P)) : Type 0 where
  pub before : List (ConsumerValue P)
  pub one : ConsumerValue P
  pub called : ConsumerValue P
  pub behind : List (ConsumerValue P)
  pub was : old ≡ before ++ one ∷ behind
  pub is : new ≡ before ++ called ∷ behind
  pub none_due : AllByRecursion (λ c. is_due c ≡ false) before
  pub due : is_due one ≡ true
  pub has : HasCalled stands asks asked one called

-- ---- The leases after a consumer's answer

-- The first consumer of the lease `id`, if any.
abbrev pub first_of : {P : Type 0} → (id : TenancyId) (cs : List (ConsumerValue P)) → Option (ConsumerValue P)
first_of id cs = find (λ c. same_id (id_in c) id) cs

-- The consumer's stage, or `Opening` without a consumer.
abbrev pub stage_or_opening : {P : Type 0} → (c : Option (ConsumerValue P)) → Stage
stage_or_opening None = Opening
stage_or_opening (Some c) = c.stage

-- The leases, without `id` if its consumer has ended.
abbrev pub kept_unless_over : {P : Type 0} → (id : TenancyId) (c : Option (ConsumerValue P)) (held : List Held) → List
    Held
kept_unless_over id None held = held
kept_unless_over id (Some c) held = if is_over_in c then without_held id held else held

-- The leases after an answer: a counter in it is set as of `now`; a loss at OpenShard or Mark, or an end, drops one.
abbrev pub held_in : {P : Type 0}
    → (now : ℕ) (id : TenancyId) (answer : Result Reply Refusal) (cs : List (ConsumerValue P)) (held : List Held)
    → List Held
held_in now id answer cs held =
    kept_unless_over id (first_of id (answered_among id answer cs))
    (held_after now id (stage_or_opening (first_of id cs)) answer held)

-- `new` is `old` after a due call ran out of memory: the consumer is as before, and its call stays due.
pub record FirstUncalled {P : Type 0} (stands : P → List Call → Type 0) (asks : P → List Stored → Ask → Type 0)
    (old new : List (ConsumerValue P)) : Type 0 where
  pub before : List (ConsumerValue P)
  pub one : ConsumerValue P
  pub same : ConsumerValue P
  pub behind : List (ConsumerValue P)
  pub was : old ≡ before ++ one ∷ behind
  pub is : new ≡ before ++ same ∷ behind
  pub has : IsAsBefore stands asks one same

-- Whether there is a consumer and it has ended.
abbrev pub is_over_at : {P : Type 0} → (c : Option (ConsumerValue P)) → Bool
is_over_at None = false
is_over_at (Some c) = is_over_in c

-- The first consumer of the lease `id` is at `i`, so an answer to it leaves those before unchanged.
pub record IsFirstOf {P : Type 0} (id : TenancyId) (i : ℕ) (cs : List (ConsumerValue P)) : Type 0 where
  pub within : i < length cs
  pub before : (answer : Result Reply Refusal) → take i cs ++ answered_among id answer (drop i cs)
      ≡ answered_among id answer cs
  pub same : (c : ConsumerValue P) → c ≡ get_or cs i c → same_id (id_in c) id ≡ true
