use Rattle.std.proofs.Common.{rules}
use Rattle.kcl_journal.specs.Entries.{end_of}
use Rattle.kcl_journal.proofs.read.read_end.Goals as goal

pub returns-then-eq : goal.returns-then-eq
unfolding end_of
returns-then-eq c = search rules
