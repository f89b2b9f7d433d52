use Rattle.std.proofs.Common.{◌^◌, arith}
use Rattle.kpl_frame.proofs.PackLemmas.{all_indexed}
use Rattle.kpl_frame.proofs.packing.in_range.Goals as goal

pub returns : goal.returns
returns c = all_indexed (2 ^ 128) c.args._hashes.now (λ k. omega (arith, c.type_inv._hashes k))
