use Rattle.kds_stream.proofs.NewStreams.{new_stream, shows_new}
use Rattle.kds_stream.proofs.stream.Stream.new.Goals as goal

pub invariant_of-result : goal.invariant_of-result
invariant_of-result c =
    new_stream c.args.no c.args.name c.args.made_at c.args.shards _ _ _ _ _ c.requires c.in_ok-tree.ensures
    c.in_ok-logs.ensures c.in_ok-windows.ensures.many c.in_ok-windows.ensures.unused c.cut_at.ensures c.cut_at-2.ensures

pub returns-clause-shows : goal.returns-clause-shows
returns-clause-shows c log actor fresh =
    shows_new log actor c.args.no c.args.name c.args.made_at c.args.shards fresh _ _ _ _ _ c.in_ok-tree.ensures
    c.in_ok-logs.ensures c.in_ok-windows.ensures.unused c.cut_at.ensures
