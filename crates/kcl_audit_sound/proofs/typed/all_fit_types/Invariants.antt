use Rattle.std.proofs.Common.{take}
use Rattle.std.specs.List.{AllByRecursion}
use Rattle.kcl_audit_sound.specs.Bits.{HasBits}
use Rattle.kcl_audit_sound.proofs.typed.all_fit_types.Given as goal

-- The numbers of each turn so far fit into their types.
abbrev pub invariant-loop-turn : goal.invariant-loop-turn
invariant-loop-turn l = AllByRecursion HasBits (take l.turn-index l.turns)
