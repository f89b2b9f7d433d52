use Rattle.std.proofs.Common.{subst, slice_index_or}
use Rattle.kcl_live.specs.Members.{HasEnded}
use Rattle.kcl_live.proofs.crew.run_crew.Goals as goal

pub returns-then-count-gt0 : goal.returns-then-count-gt0
returns-then-count-gt0 g c i m below =
    let stands = g.P.Processor.stands_for in
    let t = (c.for_each_mut.ensures i m below).1 in
    subst (HasEnded stands c.args.turns c.args.tick (slice_index_or c.args.members.now i m)) t.left
    (subst (λ x. HasEnded stands c.args.turns c.args.tick x t.after_call.now) t.argument_is t.call)
