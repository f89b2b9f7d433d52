use Rattle.std.proofs.Common.{◌==◌, ◌+◌, cond, drop, Some, sym, ap, ◌∙◌}
use Rattle.std.specs.List.{position_from}
use Rattle.indexmap.specs.IndexMap.{values}
use Rattle.kds_service.proofs.Lists.{drop_get}
use Rattle.kds_service.specs.Shown.{numbers_of}
use Rattle.kds_service.proofs.streams_by_name.index_by_number.Goals as goal

pub returns-then-eq-clause-value : goal.returns-then-eq-clause-value
returns-then-eq-clause-value c =
    let vs = values c.args.streams.now in
    let rest = position_from (λ n. n == c.args.no) (c.loop-i.i + 1) (numbers_of (drop (c.loop-i.i + 1) vs)) in
    let hit = sym (ap (λ n. n == c.args.no) c.no.ensures) ∙ sym c.eq.ensures ∙ c.if-eq.true in
    sym (ap (λ b. cond b (Some c.loop-i.i) rest) hit)
    ∙ sym (ap (λ us. position_from (λ n. n == c.args.no) c.loop-i.i (numbers_of us))
    (drop_get vs c.loop-i.i _ c.index.ensures)) ∙ c.loop-i.invariant

pub loop-i-preserved : goal.loop-i-preserved
loop-i-preserved c =
    let vs = values c.args.streams.now in
    let rest = position_from (λ n. n == c.args.no) (c.loop-i.i + 1) (numbers_of (drop (c.loop-i.i + 1) vs)) in
    let missed = sym (ap (λ n. n == c.args.no) c.no.ensures) ∙ sym c.eq.ensures ∙ c.if-eq.false in
    sym (ap (λ b. cond b (Some c.loop-i.i) rest) missed)
    ∙ sym (ap (λ us. position_from (λ n. n == c.args.no) c.loop-i.i (numbers_of us))
    (drop_get vs c.loop-i.i _ c.index.ensures)) ∙ c.loop-i.invariant
