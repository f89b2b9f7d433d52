use Rattle.std.proofs.Common.{Some, sym, ap, ◌∙◌}
use Rattle.kcl_journal.specs.Entries.{numbers_of, words}
use Rattle.kcl_journal.proofs.WordLists.{with_front, more_numbers, no_numbers, last_number, no_last, shorter}
use Rattle.kcl_journal.proofs.numbers.numbers.Goals as goal

pub returns-in_default-read_u64 : goal.returns-in_default-read_u64
returns-in_default-read_u64 c =
    sym (c.loop-front.invariant ∙ no_numbers c.loop-front.numbers c.loop-front.rest.now (
      c.in-Some.front.now,
      c.in-Some.back.now,
    ) (sym c.in-Some.ensures) (sym c.in_default-read_u64.ensures))

pub loop-front-smaller : goal.loop-front-smaller
loop-front-smaller c = shorter c.loop-front.rest.now (c.in-Some.front.now, c.in-Some.back.now) (sym c.in-Some.ensures)

pub loop-front-preserved : goal.loop-front-preserved
loop-front-preserved c =
    c.loop-front.invariant
    ∙ more_numbers c.loop-front.numbers c.in-Some-read_u64.n c.loop-front.rest.now (
      c.in-Some.front.now,
      c.in-Some.back.now,
    ) (sym c.in-Some.ensures) (sym c.in-Some-read_u64.ensures)
    ∙ ap (λ ns. with_front ns (numbers_of (words c.in-Some.back.now))) (sym c.in_ok-push.ensures.ok)

pub returns-in_default-read_u64-2 : goal.returns-in_default-read_u64-2
returns-in_default-read_u64-2 c =
    sym (c.loop-front.invariant
    ∙ no_last c.loop-front.numbers c.loop-front.rest.now (sym c.in_default.ensures)
    (sym c.in_default-read_u64-2.ensures))

pub returns : goal.returns
returns c =
    ap Some c.in_ok-push-2.ensures.ok
    ∙ sym (c.loop-front.invariant
    ∙ last_number c.loop-front.numbers c.in-Some-read_u64-2.n c.loop-front.rest.now (sym c.in_default.ensures)
    (sym c.in-Some-read_u64-2.ensures))
