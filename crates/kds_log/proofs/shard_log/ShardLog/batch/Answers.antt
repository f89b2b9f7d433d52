use Rattle.std.proofs.Common.{◌≡◌, sym, ap, subst, ◌∙◌, drop, map}
use Rattle.kds_defs.specs.declared.limits.TheConstants.{BATCH_BYTES}
use Rattle.kds_defs.specs.Records.{left_among, logged}
use Rattle.kds_defs.specs.Streams.{floor_of}
use Rattle.kds_log.specs.Log.{FirstFits, LogWithReserve}
use Rattle.kds_log.proofs.BatchLemmas.{some_answered}
use Rattle.kds_log.proofs.shard_log.ShardLog.batch.Goals as goal

pub returns-clause-some : goal.returns-clause-some
returns-clause-some c = λ some fits.
    let left : left_among (floor_of c.args.cut) c.args.position c.args.self.now.kept
    ≡ map logged (drop c.first_index-start.result c.self.inside.records.items) =
    ap (λ (l : LogWithReserve). left_among (floor_of c.args.cut) c.args.position l.kept) (sym c.self.view_is)
    ∙ ap (λ f. left_among f c.args.position (map logged c.self.inside.records.items)) (sym c.floor_of.ensures)
    ∙ c.first_index-start.ensures.left in
    some_answered c.batch_from.result c.args.limit _ c.batch_from.ensures some (subst (FirstFits BATCH_BYTES) left fits)
