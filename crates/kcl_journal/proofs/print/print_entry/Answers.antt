use Rattle.std.proofs.Common.{rules}
use Rattle.kcl_journal.proofs.print.print_entry.Goals as goal

pub returns-in_err-fill_line-clause-err : goal.returns-in_err-fill_line-clause-err
returns-in_err-fill_line-clause-err c = search rules

pub returns-clause-err : goal.returns-clause-err
returns-clause-err c = search rules
