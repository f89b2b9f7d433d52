use Rattle.std.proofs.Common.{◌≡◌, vec_len}
use Rattle.std.specs.List.{All}
use Rattle.test_load.proofs.Joined.{HasFrom}
use Rattle.test_load.proofs.joining.join_all.Given as goal

abbrev pub invariant-loop-pass : goal.invariant-loop-pass
invariant-loop-pass g l = record {
  hall : l.joined.hall ≡ l.hall.id;
  halls : All (λ p. p.hall ≡ l.hall.id) l.others.items;
  from : HasFrom l.least l.last l.joined;
}

abbrev pub decreases-loop-pass : goal.decreases-loop-pass
decreases-loop-pass g l = vec_len l.others
