use Rattle.std.proofs.Common.{rules}
use Rattle.kds_token.specs.Tokens.{iter_from}
use Rattle.kds_token.proofs.iterator.from_fields.Goals as goal

pub returns : goal.returns
unfolding iter_from
returns c = search rules
