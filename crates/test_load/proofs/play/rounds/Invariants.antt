use Rattle.std.proofs.Common.{◌≡◌}
use Rattle.test_load.proofs.play.rounds.Given as goal

abbrev pub invariant-loop-number : goal.invariant-loop-number
invariant-loop-number g l = l.pass.hall ≡ l.hall.id
