use Rattle.std.proofs.Common.{length}
use Rattle.kds_base.proofs.number_text.+read_wide.Given as goal

-- The text is shorter in each recursive call.
abbrev pub decreases-read_wide : goal.decreases-read_wide
decreases-read_wide l = length l.text.now
