use Rattle.std.proofs.Common.{rules}
use Rattle.kcl_proc.proofs.lines.add_numbers.Goals as goal

pub returns-in_err-reserve-clause-err : goal.returns-in_err-reserve-clause-err
returns-in_err-reserve-clause-err c = search rules
