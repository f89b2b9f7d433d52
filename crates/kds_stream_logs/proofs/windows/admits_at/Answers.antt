use Rattle.std.proofs.Common.{subst, sym}
use Rattle.kds_rate.specs.Windows.{StandsFor, WindowValue}
use Rattle.kds_stream_logs.proofs.Rates.{stand_here}
use Rattle.kds_stream_logs.proofs.windows.admits_at.Goals as goal

pub returns : goal.returns
returns c f stand =
    c.admits.ensures (f c.args.i)
    (subst (λ (w : WindowValue). StandsFor w (f c.args.i)) (sym c.index-windows-i.is)
    (stand_here f c.args.i c.args.windows.now c.index-windows-i.result c.requires.within stand))
