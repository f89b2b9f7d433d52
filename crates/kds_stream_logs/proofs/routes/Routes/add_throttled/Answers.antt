use Rattle.std.proofs.Common.{rules}
use Rattle.kds_stream_logs.proofs.routes.Routes.add_throttled.Goals as goal

pub returns-clause-next : goal.returns-clause-next
returns-clause-next c = search rules
