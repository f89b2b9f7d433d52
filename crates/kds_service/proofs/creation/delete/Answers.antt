use Rattle.std.proofs.Common.{ap, ◌∙◌}
use Rattle.std.specs.Map.{values_of}
use Rattle.indexmap.specs.IndexMap.{values}
use Rattle.kds_service.proofs.Deleting.{delete_done, delete_none}
use Rattle.kds_service.proofs.Entries.{map_take_out, named_remove}
use Rattle.kds_service.proofs.Lists.{there_is}
use Rattle.kds_service.proofs.creation.delete.Goals as goal

pub returns-in-None-clause-leads : goal.returns-in-None-clause-leads
returns-in-None-clause-leads c =
    delete_none c.args.clock (values c.args.streams.now) c.args.name.now c.in-None.ensures.value

pub returns-in-Some-clause-leads : goal.returns-in-Some-clause-leads
returns-in-Some-clause-leads c =
    let a = c.args in
    let x = there_is c.in-Some.i (values a.streams.now) c.in-Some.ensures.within in
    delete_done a.clock (values a.streams.now) a.name.now c.in-Some.i _ x.0 c.others.ensures.removed
    c.in-Some.ensures.value x.1
    (ap values_of c.shift_remove_index.ensures.entries ∙ map_take_out (λ e. e.1) a.streams.now.entries c.in-Some.i)

pub returns-in-Some-clause-named : goal.returns-in-Some-clause-named
returns-in-Some-clause-named c =
    named_remove c.args.clock c.in-Some.i c.args.streams.now.entries _ c.requires c.shift_remove_index.ensures.entries
