use Rattle.std.proofs.Common.{ℕ, ◌≡◌, ◌+◌, ◌-◌, length}
use Rattle.kcl_audit_streams.specs.Apart.{records_at}
use Rattle.kcl_audit_streams.proofs.stream_records.make_room.Given as goal

-- Only empty lists were added, so each shard has the same records.
abbrev pub invariant-loop-alloc : goal.invariant-loop-alloc
invariant-loop-alloc l = (sh : ℕ) → records_at l.shards.items sh ≡ records_at l.initial.shards.items sh

-- The number of lists still to be added.
abbrev pub decreases-loop-alloc : goal.decreases-loop-alloc
decreases-loop-alloc l = l.shard-inside.0 + 1 - length l.shards.items
