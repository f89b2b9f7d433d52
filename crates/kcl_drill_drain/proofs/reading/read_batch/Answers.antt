use Rattle.std.proofs.Common.{◌≡◌, Some, None, sym, ◌∙◌}
use Rattle.kcl_drill_drain.specs.declared.reading.Fetch.{Fetch}
use Rattle.kcl_drill_drain.proofs.reading.read_batch.Goals as goal

same_fetch : (a b : Fetch) → Some a ≡ Some b → a ≡ b
same_fetch a b h = cc

no_fetch : (a : Fetch) → None ≡ Some a → ⊥
no_fetch a h = cc

pub returns-in-Some-clause-ok : goal.returns-in-Some-clause-ok
returns-in-Some-clause-ok g c = λ w spot reads.
    let f = c.in_ok-answer.ensures.ok w reads.now spot reads.ready reads.is reads.leads in
    c.deliver.ensures.ok w reads.now spot reads.ready reads.is
    (same_fetch _ _ (sym c.in-Some.is ∙ c.in_ok-fetch.ensures _ _ _ f.0)) f.1

pub returns-clause-ok : goal.returns-clause-ok
returns-clause-ok g c = λ w spot reads.
    let f = c.in_ok-answer.ensures.ok w reads.now spot reads.ready reads.is reads.leads in
    absurd (no_fetch _ (sym c.in-None.is ∙ c.in_ok-fetch.ensures _ _ _ f.0))
