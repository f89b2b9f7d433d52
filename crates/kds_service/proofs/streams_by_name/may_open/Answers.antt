use Rattle.std.proofs.Common.{◌≡◌, ◌+◌, ◌<◌, ℕ, false, drop, ap, sym, ◌∙◌, arith}
use Rattle.std.specs.Prelude.{nat_le}
use Rattle.std.proofs.lemmas.Bool.Decides.{nat_tests}
use Rattle.indexmap.specs.IndexMap.{values}
use Rattle.kds_defs.specs.declared.limits.TheConstants.{OPEN_SHARDS}
use Rattle.kds_service.proofs.Lists.{drop_get}
use Rattle.kds_service.specs.Indexes.{open_total}
use Rattle.kds_service.proofs.streams_by_name.may_open.Goals as goal

over : (total more left rest opened later : ℕ) → left + total + more ≡ OPEN_SHARDS + rest → rest ≡ opened + later
    → left < opened → false ≡ nat_le (total + more) OPEN_SHARDS
over total more left rest opened later sum is above = grind (arith, nat_tests)

pub returns-then-open-left : goal.returns-then-open-left
returns-then-open-left c =
    let vs = values c.args.streams.now in
    over (open_total vs) c.args.more c.loop-i.left _ c.open_count-open.result (open_total (drop (c.loop-i.i + 1) vs))
    c.loop-i.invariant
    (ap open_total (drop_get vs c.loop-i.i _ c.index.ensures)
    ∙ ap (λ n. n + open_total (drop (c.loop-i.i + 1) vs)) (sym c.open_count-open.ensures)) c.if-open-left.true

pub loop-i-preserved : goal.loop-i-preserved
loop-i-preserved c =
    let vs = values c.args.streams.now in
    omega (
      arith,
      c.loop-i.invariant,
      c.if-open-left.false,
      ap open_total (drop_get vs c.loop-i.i _ c.index.ensures),
      c.open_count-open.ensures,
    )
