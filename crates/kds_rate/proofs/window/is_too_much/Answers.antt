use Rattle.std.proofs.Common.{rules}
use Rattle.kds_rate.proofs.window.is_too_much.Goals as goal

pub returns-then-taken-ge-SECOND_RECORDS : goal.returns-then-taken-ge-SECOND_RECORDS
returns-then-taken-ge-SECOND_RECORDS c = search rules

pub returns-then-taken-gt0 : goal.returns-then-taken-gt0
returns-then-taken-gt0 c = search rules
