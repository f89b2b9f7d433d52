use Rattle.std.proofs.Common.{rules}
use Rattle.kcl_audit_sound.proofs.typed.are_numbers.Goals as goal

pub returns-in-Read : goal.returns-in-Read
returns-in-Read c = search rules
