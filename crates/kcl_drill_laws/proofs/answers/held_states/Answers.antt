use Rattle.kcl_drill_laws.proofs.Come.{begun_holds, read_holds, give_holds, mark_holds}
use Rattle.kcl_drill_laws.proofs.answers.held_states.Goals as goal

pub returns : goal.returns
returns c =
    record {
      begun = begun_holds;
      read = read_holds;
      given = give_holds;
      marked = mark_holds;
    }
