use Rattle.std.proofs.Common.{rules}
use Rattle.kds_lines.proofs.feed.is_too_long.Goals as goal

pub returns-then-len-gt-LINE_BYTES : goal.returns-then-len-gt-LINE_BYTES
returns-then-len-gt-LINE_BYTES c = search rules
