use Rattle.std.proofs.Common.{arith}
use Rattle.kds_base.proofs.Uniform.{start_is}
use Rattle.kds_base.proofs.range.uniform_start.Goals as goal

pub returns : goal.returns
returns c = start_is c.from-i.result c.from-n.result c.args.i c.args.n (search arith) (search arith) c.requires
    (omega arith)
