use Rattle.std.proofs.Common.{rules}
use Rattle.kcl_book.proofs.kept.KeptTenure.read.Goals as goal

pub returns : goal.returns
returns c = search rules
