use Rattle.std.proofs.Common.{arith}
use Rattle.kds_reply_texts.proofs.tokens.numbers_fit.Goals as goal

pub returns : goal.returns
returns c = record {
  stream = omega (arith, c.ranges.stream.fits);
  shard = omega (arith, c.ranges.shard.fits);
  position = omega (arith, c.ranges.position.fits);
  issued = omega (arith, c.requires);
}
