use Rattle.std.proofs.Common.{rules}
use Rattle.kcl_script_fields.proofs.answer.checkpoint.Goals as goal

pub returns-in-ShardEnd : goal.returns-in-ShardEnd
returns-in-ShardEnd c = search rules
