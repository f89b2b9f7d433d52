use Rattle.std.proofs.Common.{◌≡◌, length}
use Rattle.kcl_journal.specs.Entries.{numbers_of, words}
use Rattle.kcl_journal.proofs.WordLists.{with_front}
use Rattle.kcl_journal.proofs.numbers.numbers.Given as goal

-- Numbers so far, then the numbers of the words still to come, are all numbers.
abbrev pub invariant-loop-front : goal.invariant-loop-front
invariant-loop-front l = numbers_of (words l.fn.text) ≡ with_front l.numbers (numbers_of (words l.rest))

abbrev pub decreases-loop-front : goal.decreases-loop-front
decreases-loop-front l = length l.rest
