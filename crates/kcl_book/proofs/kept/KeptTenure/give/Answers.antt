use Rattle.std.proofs.Common.{rules}
use Rattle.kcl_book.proofs.kept.KeptTenure.give.Goals as goal

pub returns-clause-delivered : goal.returns-clause-delivered
returns-clause-delivered c = search rules

pub returns-clause-given : goal.returns-clause-given
returns-clause-given c = search rules
