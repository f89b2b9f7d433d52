use Rattle.std.proofs.Common.{rules}
use Rattle.kds_base.proofs.number_text.with_digit.Goals as goal

pub returns-then-number-lt-ROOM_FOR_A_DIGIT-clause-some : goal.returns-then-number-lt-ROOM_FOR_A_DIGIT-clause-some
returns-then-number-lt-ROOM_FOR_A_DIGIT-clause-some c = search rules
