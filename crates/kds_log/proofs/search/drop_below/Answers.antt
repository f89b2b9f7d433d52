use Rattle.std.proofs.Common.{rules}
use Rattle.kds_log.proofs.search.drop_below.Goals as goal

pub returns-clause-freed : goal.returns-clause-freed
returns-clause-freed c = search rules

pub returns-clause-left : goal.returns-clause-left
returns-clause-left c = search rules
