use Rattle.kcl_drill_laws.proofs.Answered.{take_answered, open_answered, read_answered, give_answered, mark_answered}
use Rattle.kcl_drill_laws.proofs.answers.held_answers.Goals as goal

pub returns : goal.returns
returns c =
    record {
      take = take_answered;
      opening = λ log c d actor owner key r there may. open_answered log c d actor owner key r there may.0 may.1;
      read = read_answered;
      give = give_answered;
      mark = mark_answered;
    }
