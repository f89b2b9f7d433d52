use Rattle.std.proofs.Common.{rules}
use Rattle.kcl_script_fields.proofs.command.fill_counted.Goals as goal

pub returns-in-Free : goal.returns-in-Free
returns-in-Free c = search rules
