use Rattle.std.proofs.Common.{rules}
use Rattle.kpl_frame.specs.Aggregates.{framed_in}
use Rattle.kpl_frame.proofs.aggregate.framed_in.Goals as goal

pub returns-then-eq-2 : goal.returns-then-eq-2
unfolding framed_in
returns-then-eq-2 c = search rules

pub returns-else-eq : goal.returns-else-eq
unfolding framed_in
returns-else-eq c = search rules
