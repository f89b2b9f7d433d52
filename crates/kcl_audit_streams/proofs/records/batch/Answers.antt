use Rattle.std.proofs.Common.{◌≡◌, true, sym, ◌∙◌}
use Rattle.kcl_audit_streams.proofs.BatchSteps.{counts, grows_by, grows_all}
use Rattle.kcl_audit_streams.proofs.records.batch.Goals as goal

pub loop-item-preserved : goal.loop-item-preserved
loop-item-preserved c =
    let a = c.args in
    let x = c.item-item.result in
    let t : counts a.shard a.floor a.position x ≡ true = sym c.is_left.ensures ∙ c.if-not-is_left.false in
    rw c.in_ok-push.ensures.ok (
    grows_by a.shard a.floor a.position a.records.now c.loop-item.item-index x c.loop-item-test.true c.item-item.is
    c.loop-item.numbers c.loop-item.left c.loop-item.room _ t c.if-left-eq0.false c.if-item-room.false
    c.loop-item.invariant)

pub returns : goal.returns
returns c =
    let a = c.args in
    grows_all a.shard a.floor a.position a.records.now c.loop-item.item-index c.loop-item.numbers c.loop-item.left
    c.loop-item.room _ c.loop-item-test.false c.loop-item.invariant
