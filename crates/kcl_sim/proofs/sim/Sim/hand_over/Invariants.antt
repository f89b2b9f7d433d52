use Rattle.kcl_hand.specs.Standing.{turns_left_in}
use Rattle.kcl_sim.proofs.HandRuns.{UnderWay}
use Rattle.kcl_sim.proofs.sim.Sim.hand_over.Given as goal

-- The hand-off is under way from `l.fn.hand` to `l.hand`.
abbrev pub invariant-loop-alloc : goal.invariant-loop-alloc
invariant-loop-alloc g l = UnderWay g.K.Keep.wanted l.at l.by l.fn.self l.self l.fn.hand l.hand l.text

abbrev pub decreases-loop-alloc : goal.decreases-loop-alloc
decreases-loop-alloc g l = turns_left_in l.hand
