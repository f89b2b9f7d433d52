use Rattle.kds_lines.proofs.Pieces.{first_is}
use Rattle.kds_lines.proofs.feed.first_feed.Goals as goal

pub returns : goal.returns
returns c = first_is c.args.bytes.now c.memchr.result c.memchr.ensures
