use Rattle.std.proofs.Common.{rules}
use Rattle.kcl_audit_streams.proofs.stream.ToldStream.add_kept.Goals as goal

pub returns : goal.returns
returns c = search rules
