use Rattle.std.proofs.Common.{sym, ◌∙◌}
use Rattle.kds_head.proofs.Counts.{counted, too_long}
use Rattle.kds_head.proofs.values.byte_count.Goals as goal

pub returns-then-text-gt-LENGTH_DIGITS : goal.returns-then-text-gt-LENGTH_DIGITS
returns-then-text-gt-LENGTH_DIGITS c = sym (too_long c.args.text.now c.if-text-gt-LENGTH_DIGITS.true)

pub returns-else-text-gt-LENGTH_DIGITS : goal.returns-else-text-gt-LENGTH_DIGITS
returns-else-text-gt-LENGTH_DIGITS c = c.read_digits.ensures ∙ counted c.args.text.now c.if-text-gt-LENGTH_DIGITS.false
