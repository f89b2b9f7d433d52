use Rattle.std.proofs.Common.{sym, ap, ◌∙◌}
use Rattle.kds_defs.specs.declared.reply.Shard.{Shard}
use Rattle.kds_stream_logs.proofs.ReadLemmas.{last_shard}
use Rattle.kds_stream_logs.proofs.reading.last_no.Goals as goal

pub returns-in-Some : goal.returns-in-Some
returns-in-Some c = ap (λ (s : Shard). s.no) c.shard.view_is
    ∙ last_shard c.args.shards.now c.in-Some.shard.now (sym c.in-Some.ensures.value)
