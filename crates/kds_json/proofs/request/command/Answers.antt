use Rattle.std.proofs.Common.{rules}
use Rattle.kds_json.specs.Asked.{asked}
use Rattle.kds_json.proofs.request.command.Goals as goal

pub returns-in-None : goal.returns-in-None
unfolding asked
returns-in-None c = search rules
