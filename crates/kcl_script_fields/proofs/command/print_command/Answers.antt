use Rattle.std.proofs.Common.{rules}
use Rattle.kcl_script_fields.proofs.command.print_command.Goals as goal

pub returns-in_err-fill_command-clause-err : goal.returns-in_err-fill_command-clause-err
returns-in_err-fill_command-clause-err c = search rules

pub returns-clause-err : goal.returns-clause-err
returns-clause-err c = search rules
