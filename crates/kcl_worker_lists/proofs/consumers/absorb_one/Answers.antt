use Rattle.std.proofs.Common.{subst}
use Rattle.kcl_worker_lists.specs.Changes.{IsFirstOf}
use Rattle.kcl_worker_lists.proofs.Calls.{answered_here, answered_same}
use Rattle.kcl_worker_lists.proofs.consumers.absorb_one.Goals as goal

pub returns-in-Some-clause-absorbed : goal.returns-in-Some-clause-absorbed
returns-in-Some-clause-absorbed g c =
    let f : IsFirstOf c.args.id.now c.in-Some.i c.args.consumers.now.items =
    subst (λ xs. IsFirstOf c.args.id.now c.in-Some.i xs) c.as_slice.ensures.value c.in-Some.ensures.some in
    answered_here c.args.id.now c.args.answer c.in-Some.i c.args.consumers.now.items c.index_mut.result.now
    c.absorb.new.self f c.index_mut.ensures.value
    (answered_same c.args.answer c.index_mut.result.now c.absorb.new.self c.absorb.ensures.made c.absorb.ensures.stage
    c.absorb.ensures.given c.absorb.ensures.processor)
