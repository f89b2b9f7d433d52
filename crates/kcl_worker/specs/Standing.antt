-- A worker as callers see it, and the trace (its events) that it stands for.
use Rattle.std.specs.Prelude.{ℕ, ◌≡◌, Bool, not, ◌&&◌, List, [], ◌∷◌, ◌++◌, Option, Some, None, Result}
use Rattle.std.specs.List.{list_any, AllByRecursion}
use Rattle.std.specs.Option.{option_map}
use Rattle.kds_base.specs.declared.lease_key.ShardRef.{ShardRef}
use Rattle.kcl_defs.specs.declared.consumer.Call.{Call}
use Rattle.kcl_defs.specs.declared.consumer.Tenancy.{Tenancy}
use Rattle.kcl_defs.specs.declared.consumer.WorkerMade.{WorkerMade}
use Rattle.kcl_defs.specs.declared.plans.Held.{Held}
use Rattle.kcl_defs.specs.declared.plans.Seen.{Seen}
use Rattle.kcl_defs.specs.Consumers.{over_at, calls_after}
use Rattle.kcl_defs.specs.Plans.{seen_at}
use Rattle.kcl_defs.specs.Workers.{Round, Chore, Known, WorkerState, WorkerPast, worker_after, stage_of_known}
use Rattle.kcl_defs.specs.Workers.{is_stopping, is_giving_stage, is_nothing_held}
use Rattle.kds_defs.specs.declared.command.Turn.{Turn}
use Rattle.kds_defs.specs.declared.reply.Refusal.{Refusal}
use Rattle.kds_defs.specs.declared.reply.Reply.{Reply}
use Rattle.kcl_defs.specs.Lives.{IsLifeIn, IsWholeLifeIn}
use Rattle.kcl_defs.specs.WorkerLives.{IsOfTenure, IsOrderly}
use Rattle.kcl_consumer.specs.Standing.{ConsumerValue, StandsFor as ConsumerStandsFor}
use Rattle.kcl_worker_lists.specs.declared.planning.Planned.{Planned}
use Rattle.kcl_worker_lists.specs.Changes.{live_among, retired_among}
use Rattle.kcl_worker_lists.specs.Lists.{Retirement, is_due}
use Rattle.kcl_worker_lists.specs.Planning.{IsPlannedAfter}

-- A worker as callers see it; `waiting` is the chore whose command waits for its answer.
pub record WorkerStanding (P F : Type 0) : Type 0 where
  pub made : WorkerMade
  pub round : Round
  pub waiting : Option Chore
  pub seen : List Seen
  pub held : List Held
  pub consumers : List (ConsumerValue P)
  pub retired : List (Retirement P)
  pub maker : F

-- Both workers have the same settings and maker.
pub record IsSameWorker {P F : Type 0} (new old : WorkerStanding P F) : Type 0 where
  pub made : new.made ≡ old.made
  pub maker : new.maker ≡ old.maker

-- Both workers have the same settings and maker, and no command of `new` waits for its answer.
pub record AwaitsNone {P F : Type 0} (new old : WorkerStanding P F) : Type 0 where
  pub made : new.made ≡ old.made
  pub maker : new.maker ≡ old.maker
  pub free : new.waiting ≡ None

-- The worker after its consumers that are over were retired, in order.
abbrev pub settled_in : {P F : Type 0} → (w : WorkerStanding P F) → WorkerStanding P F
settled_in w = record w { consumers = live_among w.consumers; retired = w.retired ++ retired_among w.consumers }

-- `p` is the worker's plan from the answer at `now`, None unless this is an accepted survey.
abbrev pub IsPlannedIn : {P F : Type 0}
    → (w : WorkerStanding P F) (now : ℕ) (answer : Result Reply Refusal) (p : Option Planned) → Type 0
IsPlannedIn w now answer p = IsPlannedAfter w.made w.seen w.held now answer p

-- ---- What a caller can see of a worker

-- Whether a processor call of the worker is due.
abbrev pub is_due_in : {P F : Type 0} → (w : WorkerStanding P F) → Bool
is_due_in w = list_any is_due w.consumers

-- Whether a consumer's next command is a Give.
abbrev pub is_giving_in : {P F : Type 0} → (w : WorkerStanding P F) → Bool
is_giving_in w = list_any (λ c. is_giving_stage c.stage) w.consumers

-- Whether the worker was stopped and has no due processor call, no Give and no lease left.
abbrev pub is_idle_in : {P F : Type 0} → (w : WorkerStanding P F) → Bool
is_idle_in w = is_stopping w.round && not (is_due_in w) && not (is_giving_in w) && is_nothing_held w.held

-- ---- The record that a worker stands for

-- Equally long lists: consumers at the same index have the same values, and `cs` stand for the traces of `ks`.
abbrev pub ConsumersStand : {P : Type 0}
    → (stands : P → List Call → Type 0) (cs : List (ConsumerValue P)) (ks : List Known) → Type 0
ConsumersStand stands [] [] = Unit {0}
ConsumersStand stands (c ∷ cs) (k ∷ ks) = (c.made ≡ k.made) × ConsumerStandsFor stands c k.past
    × ConsumersStand stands cs ks
ConsumersStand stands [] (k ∷ ks) = ⊥
ConsumersStand stands (c ∷ cs) [] = ⊥

-- `r` is what is kept of the ended consumer `k`, with a processor that stands for the calls of its trace.
pub record IsRetirement {P : Type 0} (stands : P → List Call → Type 0) (r : Retirement P) (k : Known) : Type 0 where
  pub key : r.key ≡ k.made.key
  pub tenure : r.tenure ≡ k.made.tenure
  pub why : over_at (stage_of_known k) ≡ Some r.why
  pub calls : stands r.processor (calls_after k.made k.past)

-- Equally long lists: each item is what is kept of the ended consumer at the same index.
abbrev pub RetirementsStand : {P : Type 0}
    → (stands : P → List Call → Type 0) (rs : List (Retirement P)) (ks : List Known) → Type 0
RetirementsStand stands [] [] = Unit {0}
RetirementsStand stands (r ∷ rs) (k ∷ ks) = IsRetirement stands r k × RetirementsStand stands rs ks
RetirementsStand stands [] (k ∷ ks) = ⊥
RetirementsStand stands (r ∷ rs) [] = ⊥

-- The worker agrees with the state; its consumers stand for the state's, live and retired.
pub record ShowsState {P F : Type 0} (stands : P → List Call → Type 0) (w : WorkerStanding P F) (s : WorkerState) :
    Type 0 where
  pub round : w.round ≡ s.round
  pub waiting : w.waiting ≡ option_map (λ p. p.chore) s.waiting
  pub seen : (key : ShardRef) → seen_at w.seen key ≡ s.seen key
  pub held : w.held ≡ s.held
  pub consumers : ConsumersStand stands w.consumers s.consumers
  pub retired : RetirementsStand stands w.retired s.retired

-- The trace is orderly (its calls met their preconditions), and the worker agrees with the state after it.
pub record StandsFor {P F : Type 0} (stands : P → List Call → Type 0) (w : WorkerStanding P F) (past : WorkerPast) :
    Type 0 where
  pub orderly : IsOrderly w.made past
  pub shows : ShowsState stands w (worker_after w.made past)

-- ---- What a worker's processors were called for

-- The consumer is of a tenure of `actor` in `h`, and its processor's calls fit the tenure's reads and Gives.
abbrev pub IsServedIn : {P : Type 0}
    → (stands : P → List Call → Type 0) (actor : ℕ) (h : List Turn) (c : ConsumerValue P) → Type 0
IsServedIn stands actor h c =
    IsOfTenure actor h c.made × ((calls : List Call) × stands c.processor calls × IsLifeIn actor h c.made calls)

-- The ended consumer was of a tenure of `actor` in `h`, its calls fit, and each batch handed over is given.
abbrev pub IsRetiredIn : {P : Type 0} → (stands : P → List Call → Type 0) (actor : ℕ) (h : List Turn) (r : Retirement P)
    → Type 0
IsRetiredIn stands actor h r = (made : Tenancy) × (r.key ≡ made.key) × (r.tenure ≡ made.tenure)
    × IsOfTenure actor h made
    × ((calls : List Call) × stands r.processor calls × IsWholeLifeIn actor h made calls)

-- All processors' calls fit their tenures' reads and Gives, and retired ones' batches are all given.
pub record AreServedIn {P F : Type 0} (stands : P → List Call → Type 0) (actor : ℕ) (h : List Turn)
    (w : WorkerStanding P F) : Type 0 where
  pub consumers : AllByRecursion (IsServedIn stands actor h) w.consumers
  pub retired : AllByRecursion (IsRetiredIn stands actor h) w.retired
