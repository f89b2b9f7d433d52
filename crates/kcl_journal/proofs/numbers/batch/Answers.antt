use Rattle.std.proofs.Common.{◌≡◌, None, Some, sym}
use Rattle.kcl_journal.specs.Entries.{numbers_of, words}
use Rattle.kcl_journal.proofs.WordLists.{batch_alone, batch_parts, batch_unended}
use Rattle.kcl_journal.proofs.numbers.batch.Goals as goal

pub returns-in-None : goal.returns-in-None
returns-in-None c = sym (batch_alone c.args.text.now None (sym c.in_default.ensures) (sym c.in-None.ensures))

pub returns-in_default-ended : goal.returns-in_default-ended
returns-in_default-ended c =
    sym (batch_unended c.args.text.now (c.in-Some.word.now, c.in-Some.rest.now) (sym c.in-Some.ensures)
    (sym c.in_default-ended.ensures))

pub returns-in_default-2 : goal.returns-in_default-2
returns-in_default-2 c =
    let n : numbers_of (words c.in-Some.rest.now) ≡ None = cc (c.in_ok-numbers.ensures, c.in_default-2.is) in
    sym (batch_parts c.args.text.now (c.in-Some.word.now, c.in-Some.rest.now) c.in-Some-ended-2.end None
    (sym c.in-Some.ensures) (sym c.in-Some-ended-2.ensures) n)

pub returns : goal.returns
returns c =
    let n : numbers_of (words c.in-Some.rest.now) ≡ Some c.in-Some-2.numbers =
    cc (c.in_ok-numbers.ensures, c.in-Some-2.is) in
    sym (batch_parts c.args.text.now (c.in-Some.word.now, c.in-Some.rest.now) c.in-Some-ended-2.end
    (Some c.in-Some-2.numbers) (sym c.in-Some.ensures) (sym c.in-Some-ended-2.ensures) n)
