use Rattle.kcl_audit_streams.proofs.Others.{shows_lease}
use Rattle.kcl_audit_streams.proofs.streams.ToldStreamsShards.lease_lines.Goals as goal

pub returns : goal.returns
returns c = λ log line sh is_at none. shows_lease c.args.self.now log line sh is_at none
