use Rattle.std.proofs.Common.{rules}
use Rattle.kcl_script_fields.specs.Fields.{two}
use Rattle.kcl_journal.proofs.streams.parse_split.Goals as goal

pub returns : goal.returns
unfolding two
returns c = search rules
