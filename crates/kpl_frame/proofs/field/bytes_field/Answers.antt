use Rattle.std.proofs.Common.{rules}
use Rattle.kpl_frame.specs.Fields.{bytes_field}
use Rattle.kpl_frame.proofs.field.bytes_field.Goals as goal

pub returns : goal.returns
unfolding bytes_field
returns c = search rules
