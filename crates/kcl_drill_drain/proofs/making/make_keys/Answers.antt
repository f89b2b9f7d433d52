use Rattle.std.proofs.Common.{◌*◌, ◌<◌, ◌^◌, arith, length, refl, sym}
use Rattle.kcl_drill_drain.proofs.Spots.{is_spot, spot_of}
use Rattle.kcl_drill_drain.proofs.making.make_keys.Goals as goal

pub loop-key-preserved : goal.loop-key-preserved
loop-key-preserved g c = (
  λ h has. c.make_row.ensures.kept h (c.loop-key.invariant.0 h has),
  λ h can keys l.
      let i = c.loop-key.key-index in
      let key = c.key-item.result in
      let few : length c.args.keys.now * 16 < 2 ^ 63 = omega arith in
      c.in_ok-make_row.ensures.ok (spot_of h c.args.keys.now c.args.among.now i key)
      (is_spot h c.args.at c.args.keys.now c.args.among.now i key can keys c.loop-key-test.true c.key-item.is few)
      refl (sym c.row_among.ensures) (c.loop-key.invariant.1 h can keys l),
)
