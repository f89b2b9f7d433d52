use Rattle.std.proofs.Common.{rules}
use Rattle.kcl_defs.proofs.consumer.Settings.usual.Goals as goal

pub returns : goal.returns
returns c = search rules
