use Rattle.kcl_script_fields.proofs.RawLemmas.{command_spells, command_again}
use Rattle.kcl_script_fields.proofs.laws.one_command_text.Goals as goal

pub returns : goal.returns
returns c = record { reads = λ text command long h. command_spells text (command, long) h; again = command_again }
