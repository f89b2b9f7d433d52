use Rattle.std.proofs.Common.{◌≡◌, take}
use Rattle.kds_defs.proofs.copy.copy_items.Given as goal

-- The copies so far are the items before the loop's index.
abbrev pub invariant-loop-item : goal.invariant-loop-item
invariant-loop-item l = l.copies ≡ take l.item-index l.items
