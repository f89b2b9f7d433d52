use Rattle.std.proofs.Common.{rules}
use Rattle.kcl_audit_streams.proofs.stream.ToldStream.judge_put.Goals as goal

pub returns-then-is_throttled : goal.returns-then-is_throttled
returns-then-is_throttled c = search rules

pub returns : goal.returns
returns c = search rules
