use Rattle.std.proofs.Common.{rules}
use Rattle.kcl_audit_judge.proofs.judge.Judge.entry.Goals as goal

pub judge-judged-requires-clause-holds : goal.judge-judged-requires-clause-holds
judge-judged-requires-clause-holds c = search rules
