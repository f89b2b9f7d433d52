use Rattle.std.proofs.Common.{rules}
use Rattle.kcl_script_fields.proofs.fields.key_of.Goals as goal

pub returns : goal.returns
returns c = search rules
