use Rattle.std.proofs.Common.{rules}
use Rattle.kcl_book.proofs.book.Book.begin.Goals as goal

pub returns-clause-number : goal.returns-clause-number
returns-clause-number c = search rules
