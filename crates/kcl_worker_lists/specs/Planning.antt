-- A worker's plan after a survey, and the leases that it keeps.
use Rattle.std.specs.Prelude.{ℕ, ◌≡◌, Bool, not, List, Option, Some, None, Result, Ok}
use Rattle.std.specs.List.{filter, list_any}
use Rattle.kds_base.specs.declared.lease_key.ShardRef.{ShardRef}
use Rattle.kcl_defs.specs.declared.consumer.WorkerMade.{WorkerMade}
use Rattle.kcl_defs.specs.declared.plans.Held.{Held}
use Rattle.kcl_defs.specs.declared.plans.TenancyId.{TenancyId}
use Rattle.kcl_defs.specs.declared.plans.Seen.{Seen}
use Rattle.kds_defs.specs.declared.reply.Refusal.{Refusal}
use Rattle.kds_defs.specs.declared.reply.Reply.{Reply}
use Rattle.kds_defs.specs.declared.reply.Reply.TheVariants as reply
use Rattle.kds_defs.specs.declared.reply.Row.{Row}
use Rattle.kcl_defs.specs.Plans.{after_rows, expiry, seen_at, sync_plan, take_plan}
use Rattle.kcl_defs.specs.Workers.{id_of_held, same_id, still_stands}
use Rattle.kcl_worker_lists.specs.declared.planning.Planned.{Planned}

-- The leases whose row is gone or names another tenure.
abbrev pub lost_of : (rows : List Row) (held : List Held) → List Held
lost_of rows held = filter (λ h. not (still_stands rows h)) held

-- Whether one of the leases is `id`.
abbrev pub is_among : (held : List Held) (id : TenancyId) → Bool
is_among held id = list_any (λ h. same_id (id_of_held h) id) held

-- `p` is the worker's plan after a survey at `now`: notes, both plans, and kept and lost leases.
pub record IsPlanned (made : WorkerMade) (seen : List Seen) (held : List Held) (shards : List ShardRef)
    (rows : List Row) (now : ℕ) (p : Planned) : Type 0 where
  pub seen_so : (key : ShardRef) → seen_at p.observed key ≡ after_rows rows now (seen_at seen) key
  pub held_so : p.held.items ≡ filter (still_stands rows) held
  pub lost_so : p.lost.items ≡ lost_of rows held
  pub syncs_so : p.syncs ≡ sync_plan shards rows made.settings.from
  pub takes_so : p.takes
      ≡ take_plan (expiry (seen_at p.observed) now made.settings.failover) made.name p.held.items rows

-- After an accepted survey there is the plan `IsPlanned`, and after any other answer none.
abbrev pub IsPlannedAfter : (made : WorkerMade) (seen : List Seen) (held : List Held) (now : ℕ)
    (result : Result Reply Refusal) (p : Option Planned) → Type 0
IsPlannedAfter made seen held now (Ok (reply.Survey shards rows)) (Some p) = IsPlanned made seen held shards rows now p
IsPlannedAfter made seen held now (Ok (reply.Survey shards rows)) None = ⊥
IsPlannedAfter made seen held now _ None = Unit {0}
IsPlannedAfter made seen held now _ (Some p) = ⊥
