use Rattle.std.proofs.Common.{◌≤◌, ◌∙◌, sym, arith}
use Rattle.kds_defs.specs.declared.limits.TheConstants.{INPUT_BYTES}
use Rattle.kds_lines.proofs.Feeds.{hold_over, hold_fed}
use Rattle.kds_lines.proofs.feed.hold.Goals as goal

pub returns-then-is_too_long-clause-err : goal.returns-then-is_too_long-clause-err
returns-then-is_too_long-clause-err c = λ fed texts f n.
    let small : c.args.line_buffer.now.used ≤ INPUT_BYTES = omega (arith, c.args.line_buffer.now.within) in
    hold_over fed c.args.rest.now _ _ _ texts c.joined_length-len.ensures small f n (sym c.is_too_long.ensures
    ∙ c.if-is_too_long.true)

pub returns-in-Ok-clause-ok : goal.returns-in-Ok-clause-ok
returns-in-Ok-clause-ok c = λ fed texts f n. hold_fed fed c.args.rest.now _ _ _ texts c.in-Ok.ensures.ok f n
