use Rattle.std.proofs.Common.{rules}
use Rattle.kds_json.proofs.many.array_items.Goals as goal

pub returns-in-None : goal.returns-in-None
returns-in-None c = search rules
