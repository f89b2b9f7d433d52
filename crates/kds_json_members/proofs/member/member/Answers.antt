use Rattle.std.proofs.Common.{sym, ◌∙◌}
use Rattle.kds_json_members.proofs.Taken.{null_at, value_at, nothing_at}
use Rattle.kds_json_members.proofs.member.member.Goals as goal

pub returns-then-is_null : goal.returns-then-is_null
returns-then-is_null c =
    null_at c.args.name.now c.args.object.now.entries c.in-Some.value.now c.in-Some.ensures.value (sym c.is_null.ensures
    ∙ c.if-is_null.true)

pub returns-else-is_null : goal.returns-else-is_null
returns-else-is_null c =
    value_at c.args.name.now c.args.object.now.entries c.in-Some.value.now c.in-Some.ensures.value
    (sym c.is_null.ensures ∙ c.if-is_null.false)

pub returns-in-None : goal.returns-in-None
returns-in-None c = nothing_at c.args.name.now c.args.object.now.entries c.in-None.ensures.value
