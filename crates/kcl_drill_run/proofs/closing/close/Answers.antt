use Rattle.kcl_drill_run.proofs.Accounts.{all_there}
use Rattle.kcl_drill_run.proofs.Closed.{HasLaws, are_short, has_all, has_drilled}
use Rattle.kcl_drill_run.proofs.closing.close.Goals as goal

pub join_all-root-requires-clause-members : goal.join_all-root-requires-clause-members
join_all-root-requires-clause-members c =
    let is = c.requires.stopped in
    all_there c.args.hall 3 c.args.participants.members.items is.2.passes

pub close-world-requires-clause-all : goal.close-world-requires-clause-all
close-world-requires-clause-all c =
    let is = c.requires.stopped in
    has_all c.args.hall is.0 is.1 c.args.participants is.2 c.join_all-root.result c.join_all-root.ensures.taken

pub returns-clause-drilled : goal.returns-clause-drilled
returns-clause-drilled c = λ number records ran.
    let laws : HasLaws = record { drill = c.closed.ensures.drill; horizon = c.closed.ensures.horizon } in
    let end = c.close-world.ensures in
    has_drilled c.args.hall number records c.args.participants ran c.join_all-root.result c.join_all-root.ensures.taken
    c.close-world.result.1 end.history end.seen end.all end.own laws c.stopped.ensures c.close-world.result.0
    end.machine

pub returns-clause-short : goal.returns-clause-short
returns-clause-short c =
    let is = c.requires.stopped in
    let end = c.close-world.ensures in
    are_short c.args.hall is.0 is.1 c.args.participants is.2 c.join_all-root.result c.join_all-root.ensures.taken
    c.close-world.result.1 end.all end.own c.stopped.ensures end.seen
