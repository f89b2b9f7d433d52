use Rattle.std.proofs.Common.{subst}
use Rattle.kcl_drill_threads.specs.Running.{HaveEnded}
use Rattle.kcl_drill_threads.proofs.threads.run_both.Goals as goal

pub returns-clause-members : goal.returns-clause-members
returns-clause-members g c =
    let stands = g.P.Processor.stands_for in
    let t = c.feed_beside.ensures.leaves in
    subst (HaveEnded stands c.args.turns c.args.members.now) t.left
    (subst (λ xs. HaveEnded stands c.args.turns xs t.after_call.now) t.argument_is t.call)
