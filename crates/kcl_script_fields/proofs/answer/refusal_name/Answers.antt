use Rattle.std.proofs.Common.{rules}
use Rattle.kcl_script_fields.proofs.answer.refusal_name.Goals as goal

pub returns-in-Lost : goal.returns-in-Lost
returns-in-Lost c = search rules
