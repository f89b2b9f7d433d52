use Rattle.std.proofs.Common.{arith}
use Rattle.kds_stream_logs.proofs.Rates.{counted_at, stand_here, stand_set}
use Rattle.kds_stream_logs.proofs.SavedWindows.{set_back}
use Rattle.kds_stream_logs.proofs.windows.count_at.Goals as goal

pub count-requires : goal.count-requires
count-requires c = counted_at c.args.clock c.args.i c.args.windows.now c.index-windows-i.result c.requires.within
    c.requires.counted

pub returns-clause-stand : goal.returns-clause-stand
returns-clause-stand c f stand =
    stand_set f 0 c.args.i c.args.i c.args.windows.now c.count.new.self _ (omega arith) c.requires.within
    (c.count.ensures.puts (f c.args.i)
    (stand_here f c.args.i c.args.windows.now c.index-windows-i.result c.requires.within stand)) stand

pub returns-clause-saved : goal.returns-clause-saved
returns-clause-saved c = set_back c.args.windows.now c.args.i c.count.new.self
