use Rattle.std.proofs.Common.{rules}
use Rattle.kcl_proc.proofs.lines.first_ask.Goals as goal

pub returns-in-len1-up : goal.returns-in-len1-up
returns-in-len1-up c = search rules
