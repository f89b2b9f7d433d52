use Rattle.std.proofs.Common.{◌≡◌, ◌+◌, take}
use Rattle.std.specs.List.{sum_by}
use Rattle.kds_defs.specs.Lawful.{item_bytes}
use Rattle.kds_defs.specs.declared.limits.TheConstants.{MANY_BYTES}
use Rattle.kds_json.proofs.many.fit.Given as goal

-- The room left and the bytes of the items so far make `MANY_BYTES`.
abbrev pub invariant-loop-item : goal.invariant-loop-item
invariant-loop-item l = l.left + sum_by item_bytes (take l.item-index l.items) ≡ MANY_BYTES
