use Rattle.std.proofs.Common.{Some, None, sym, ◌∙◌}
use Rattle.kds_defs.specs.Records.{left_among}
use Rattle.kds_defs.specs.Streams.{floor_of}
use Rattle.kds_stream_logs.proofs.ReadLemmas.{first_is}
use Rattle.kds_stream_logs.proofs.reading.first_since.Goals as goal

pub returns-in-Some : goal.returns-in-Some
returns-in-Some c =
    c.seq.view_is
    ∙ first_is (left_among (floor_of c.args.cut) 0 c.args.log.now.kept) c.args.moment c.args.next (Some c.in-Some.seq)
    (sym c.in-Some.is ∙ c.at_time.ensures.value)

pub returns-in-None : goal.returns-in-None
returns-in-None c =
    c.next.view_is
    ∙ first_is (left_among (floor_of c.args.cut) 0 c.args.log.now.kept) c.args.moment c.args.next None (sym c.in-None.is
    ∙ c.at_time.ensures.value)
