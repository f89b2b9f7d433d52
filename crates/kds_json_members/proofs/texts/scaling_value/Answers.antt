use Rattle.std.proofs.Common.{rules}
use Rattle.kds_json_members.proofs.texts.scaling_value.Goals as goal

pub returns-in-Some-text : goal.returns-in-Some-text
returns-in-Some-text c = search rules
