use Rattle.std.proofs.Common.{rules}
use Rattle.kcl_script_fields.proofs.raw.raw_command.Goals as goal

pub returns-then-eq-2 : goal.returns-then-eq-2
returns-then-eq-2 c = search rules
