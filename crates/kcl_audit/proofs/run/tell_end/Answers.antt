use Rattle.std.proofs.Common.{rules}
use Rattle.kcl_audit.proofs.run.tell_end.Goals as goal

pub returns-then-is_sound-clause-told : goal.returns-then-is_sound-clause-told
returns-then-is_sound-clause-told c = search rules

pub returns-in-Ok-write_all-clause-told : goal.returns-in-Ok-write_all-clause-told
returns-in-Ok-write_all-clause-told c = search rules
