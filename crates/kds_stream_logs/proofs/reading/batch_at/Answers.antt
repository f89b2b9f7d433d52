use Rattle.std.proofs.Common.{◌<◌, map, List, sym, ap, subst, ◌∙◌}
use Rattle.std.specs.List.{AllByRecursion}
use Rattle.kds_defs.specs.Records.{position_after}
use Rattle.kds_defs.specs.declared.reply.Stored.{Stored}
use Rattle.kds_defs.specs.Streams.{floor_of}
use Rattle.kds_defs.proofs.Counted.{numbers_stored}
use Rattle.kds_stream_logs.proofs.ReadLemmas.{batch_below}
use Rattle.kds_stream_logs.specs.Batches.{batch_among}
use Rattle.kds_log.specs.Log.{log_of}
use Rattle.kds_stream_logs.proofs.reading.batch_at.Goals as goal

pub position_after-reach-requires : goal.position_after-reach-requires
position_after-reach-requires c =
    subst (AllByRecursion (λ (r : Stored). r.seq < 18446744073709551615))
    (sym (c.as_slice.ensures ∙ c.in_ok-batch.ensures.value))
    (batch_below 18446744073709551615 (floor_of c.args.cut) c.args.position c.args.limit (log_of c.args.log.now)
    c.requires c.batch.ensures.orderly)

pub returns-clause-reach : goal.returns-clause-reach
returns-clause-reach c =
    c.position_after-reach.ensures
    ∙ ap (λ (items : List Stored). position_after c.args.position (map (λ (r : Stored). r.seq) items))
    (c.as_slice.ensures
    ∙ c.in_ok-batch.ensures.value)
    ∙ ap (position_after c.args.position)
    (numbers_stored (batch_among (floor_of c.args.cut) c.args.position c.args.limit c.args.log.now.kept))

pub returns-clause-numbers : goal.returns-clause-numbers
returns-clause-numbers c =
    subst (AllByRecursion (λ (r : Stored). r.seq < 18446744073709551615)) (sym c.in_ok-batch.ensures.value)
    (batch_below 18446744073709551615 (floor_of c.args.cut) c.args.position c.args.limit (log_of c.args.log.now)
    c.requires c.batch.ensures.orderly)
