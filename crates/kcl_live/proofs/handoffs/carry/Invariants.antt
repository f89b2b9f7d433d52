use Rattle.std.proofs.Common.{◌≡◌}
use Rattle.kds_turn.specs.Known.{Continues}
use Rattle.kcl_hand.specs.Standing.{turns_left_in}
use Rattle.kcl_live.specs.Hands.{Goes}
use Rattle.kcl_live.proofs.handoffs.carry.Given as goal

-- The hand-off and its pass went on from before the loop to now.
abbrev pub invariant-loop-left : goal.invariant-loop-left
invariant-loop-left g l = record {
  kept : (l.pass.hall ≡ l.fn.pass.hall) × (l.pass.by ≡ l.fn.pass.by) × (l.pass.joined ≡ l.fn.pass.joined);
  held : l.hand.held ≡ l.fn.hand.held;
  made : l.hand.consumer.made ≡ l.fn.hand.consumer.made;
  seen : Continues l.pass.seen l.fn.pass.seen;
  goes : Goes g.P.Processor.stands_for l.at l.fn.hand l.hand l.fn.pass l.pass;
}

abbrev pub decreases-loop-left : goal.decreases-loop-left
decreases-loop-left g l = turns_left_in l.hand
