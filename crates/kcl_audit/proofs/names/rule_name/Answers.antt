use Rattle.std.proofs.Common.{rules}
use Rattle.kcl_audit.proofs.names.rule_name.Goals as goal

pub returns-in-Clock : goal.returns-in-Clock
returns-in-Clock c = search rules
