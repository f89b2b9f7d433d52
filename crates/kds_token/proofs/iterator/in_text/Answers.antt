use Rattle.std.proofs.Common.{rules}
use Rattle.kds_token.specs.Tokens.{iter_in}
use Rattle.kds_token.proofs.iterator.in_text.Goals as goal

pub returns-then-eq : goal.returns-then-eq
unfolding iter_in
returns-then-eq c = search rules
