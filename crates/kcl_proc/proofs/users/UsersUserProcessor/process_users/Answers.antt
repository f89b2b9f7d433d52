use Rattle.std.proofs.Common.{rules}
use Rattle.kcl_proc.proofs.users.UsersUserProcessor.process_users.Goals as goal

pub returns-clause-called : goal.returns-clause-called
returns-clause-called c = search rules
