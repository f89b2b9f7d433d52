use Rattle.std.proofs.Common.{rules}
use Rattle.kcl_script_fields.proofs.words.number_field.Goals as goal

pub returns-clause-err : goal.returns-clause-err
returns-clause-err c = search rules
