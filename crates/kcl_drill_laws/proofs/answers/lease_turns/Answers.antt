use Rattle.kcl_drill_laws.proofs.Leased.{streams_same}
use Rattle.kcl_drill_laws.proofs.answers.lease_turns.Goals as goal

pub returns : goal.returns
returns c =
    streams_same
