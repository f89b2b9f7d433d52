use Rattle.std.proofs.Common.{rules}
use Rattle.kds_json.specs.Many.{record_at}
use Rattle.kds_json.proofs.many.record_at.Goals as goal

pub returns-in-Err-Fault : goal.returns-in-Err-Fault
unfolding record_at
returns-in-Err-Fault c = search rules
