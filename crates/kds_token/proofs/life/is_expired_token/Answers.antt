use Rattle.std.proofs.Common.{rules}
use Rattle.kds_token.proofs.life.is_expired_token.Goals as goal

pub returns : goal.returns
returns c = search rules
