use Rattle.std.proofs.Common.{◌+◌, ◌∙◌, length, ap, arith, refl}
use Rattle.kcl_drill_run.specs.declared.participants.Participants.{Participants}
use Rattle.kcl_drill_run.proofs.Dealt.{count_new, dealt}
use Rattle.kcl_drill_run.proofs.participants.assemble.Goals as goal

pub members_of-requires : goal.members_of-requires
members_of-requires c =
    let count = ap length c.in-Ok.ensures.ok.1 ∙ count_new c.in-Ok.hall 1 (c.args.workers + 2) in
    omega (arith, c.requires, count, c.in-Ok.passes.ok.0, c.remove-root.ensures.len, c.remove-feeder.ensures.len)

pub returns : goal.returns
returns c =
    let made : Participants =
    record { root = c.remove-root.result; feeder = c.remove-feeder.result; members = c.in_ok-members.members } in
    dealt c.in-Ok.hall c.args.workers c.in-Ok.passes.items c.remove-root.new.self.items c.remove-feeder.new.self.items
    c.in-Ok.ensures.ok.1
    made.root (record { value = c.remove-root.ensures.value; left_are = c.remove-root.ensures.items })
    made.feeder (record { value = c.remove-feeder.ensures.value; left_are = c.remove-feeder.ensures.items })
    made refl refl c.in_ok-members.ensures c.in-Ok.ensures.ok.0 c.requires
