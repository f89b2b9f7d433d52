use Rattle.std.proofs.Common.{rules}
use Rattle.kds_json.proofs.ManyRecords.{count_is}
use Rattle.kds_json.proofs.many.count_of.Goals as goal

pub returns : goal.returns
returns c = rw (count_is c.args.values.now) (search rules)
