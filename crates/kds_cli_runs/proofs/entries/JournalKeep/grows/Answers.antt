use Rattle.kds_cli_runs.proofs.Growing.{turn_grows}
use Rattle.kds_cli_runs.proofs.entries.JournalKeep.grows.Goals as goal

pub returns : goal.returns
returns c = turn_grows c.turn_by_turn.ensures.lines c.turn_by_turn.ensures.text
