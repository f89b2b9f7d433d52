use Rattle.kds_head.proofs.Passes.{all_found}
use Rattle.kds_head.proofs.findings.read_headers.Goals as goal

pub returns : goal.returns
returns c = all_found c.args.front.now c.args.headers.now c.all_read.result c.all_read.ensures
