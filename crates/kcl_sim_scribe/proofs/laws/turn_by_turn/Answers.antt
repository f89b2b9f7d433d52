use Rattle.kcl_sim_scribe.proofs.Adding.{grows, text_grows}
use Rattle.kcl_sim_scribe.proofs.laws.turn_by_turn.Goals as goal

pub returns : goal.returns
returns c = record { lines = grows; text = text_grows }
