use Rattle.std.proofs.Common.{◌≡◌, max, true}
use Rattle.std.specs.Prelude.{◌==◌}
use Rattle.kds_base.specs.declared.lease_key.ShardRef.{ShardRef}
use Rattle.kds_defs.specs.Histories.{clock, journal}
use Rattle.kcl_drill_summary.specs.Counting.{CanCount}
use Rattle.kcl_drill_summary.proofs.SumLemmas.{all_at, told_is, told_more}
use Rattle.kcl_drill_summary.proofs.summing.sum_shards.Goals as goal

pub loop-key-preserved : goal.loop-key-preserved
loop-key-preserved g c = (
  λ h has. c.count_key.ensures.read h (c.loop-key.invariant.0 h has),
  λ h s can.
      let log = journal h in
      let key = c.key-item.result in
      let one = all_at (λ (key : ShardRef). (key.stream == s) ≡ true
      → CanCount (journal h) (max (clock h) c.args.at) s key.shard) c.args.keys.now c.loop-key.key-index key
      c.loop-key-test.true c.key-item.is can.countable in
      let counts = c.in_ok-found.ensures.ok h s (c.loop-key.invariant.0 h can.read) can.named one in
      told_more log s c.loop-key.sums.items _ c.args.keys.now c.loop-key.key-index key c.in_ok-found.found
      c.checkpoint_among.result c.loop-key-test.true c.key-item.is
      (told_is log s key c.args.among.now c.in_ok-found.found c.checkpoint_among.result can.rows counts
      c.checkpoint_among.ensures)
      c.in_ok-add_sum.ensures (c.loop-key.invariant.1 h s can),
)
