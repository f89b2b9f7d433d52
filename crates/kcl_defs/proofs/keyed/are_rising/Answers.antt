use Rattle.std.proofs.Common.{◌-◌, arith, rules}
use Rattle.kcl_defs.proofs.PlaceLemmas.{rising_back}
use Rattle.kcl_defs.proofs.keyed.are_rising.Goals as goal

pub loop-i-preserved : goal.loop-i-preserved
loop-i-preserved g c = (
  omega (arith, c.loop-i.invariant.0),
  rising_back g.T.Keyed.key_of c.args.items.now c.loop-i.i (c.loop-i.i - 1) c.index-items-i.result
      (omega (arith, c.loop-i-test.true)) c.loop-i.invariant.0
      (search rules) (search rules) c.loop-i.invariant.1,
)
