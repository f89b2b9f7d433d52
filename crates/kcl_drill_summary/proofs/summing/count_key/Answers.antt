use Rattle.std.proofs.Common.{max, sym, ◌∙◌}
use Rattle.kds_defs.specs.Histories.{clock, journal}
use Rattle.kcl_drill_summary.proofs.IteratorLemmas.{counted, not_counted}
use Rattle.kcl_drill_summary.proofs.summing.count_key.Goals as goal

pub returns-in-Some-clause-ok : goal.returns-in-Some-clause-ok
returns-in-Some-clause-ok g c = λ h s has named can.
    counted (journal h) (max (clock h) c.args.at) c.args.by s c.args.key.now c.in_ok-name.name c.in_ok-answer.answer
    c.in-Some.iter c.in_ok-count-in-Some.count c.in_ok-name.ensures named can (c.in_ok-answer.ensures.ok h has)
    (sym c.iterator_of.ensures ∙ c.in-Some.is) (c.in_ok-count-in-Some.ensures.ok h (c.ask.ensures.read h has))

pub returns-clause-ok : goal.returns-clause-ok
returns-clause-ok g c = λ h s has named can.
    not_counted (journal h) (max (clock h) c.args.at) c.args.by s c.args.key.now c.in_ok-name.name c.in_ok-answer.answer
    c.in_ok-name.ensures named can (c.in_ok-answer.ensures.ok h has)
    (sym c.iterator_of.ensures ∙ c.in-None.is)
