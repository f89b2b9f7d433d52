use Rattle.std.proofs.Common.{rules}
use Rattle.kds_json_members.specs.Member.{token_at}
use Rattle.kds_json_members.proofs.tokens.iterator_member.Goals as goal

pub returns : goal.returns
unfolding token_at
returns c = search rules
