use Rattle.std.proofs.Common.{rules}
use Rattle.kcl_script_fields.proofs.answer.value.Goals as goal

pub returns-in-Moved : goal.returns-in-Moved
returns-in-Moved c = search rules
