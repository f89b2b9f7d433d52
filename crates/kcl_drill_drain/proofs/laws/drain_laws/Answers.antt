use Rattle.std.proofs.Common.{◌≡◌, ℕ, ◌≤◌, max, length, Option, Some, subst}
use Rattle.kds_base.specs.declared.lease_key.ShardRef.{ShardRef}
use Rattle.kds_defs.specs.declared.reply.Row.{Row}
use Rattle.kds_defs.specs.Journal.{Journal}
use Rattle.kds_defs.specs.Leases.{counter_in, row}
use Rattle.kds_defs.specs.Histories.{clock, journal}
use Rattle.kcl_drill_drain.proofs.LawLemmas.{ended_closed, live_numbers, starts}
use Rattle.kcl_drill_drain.proofs.laws.drain_laws.Goals as goal

few_of : (log : Journal) (key : ShardRef) (r : Row) (n : ℕ) → row log key ≡ Some r → counter_in (row log key) ≤ n
    → r.counter ≤ n
few_of log key r n there le = let P : Option Row → Type 0 = λ o. counter_in o ≤ n in subst P there le

pub returns : goal.returns
returns c = λ h is_at can.
    let log = journal h in
    let reached = c.step.ensures.history h can.lawful in
    record {
      numbered = c.shard_records.ensures.shards log;
      drawn = c.shard_records.ensures.numbers log reached.legal;
      fits = c.shard_records.ensures.next log reached.legal;
      sized = c.shard_records.ensures.sizes h can.lawful;
      fresh = λ key r there. record {
        few = few_of log key r (length h) there ((c.lease_counts.ensures h).counters key);
        start = starts log key r.floor r.checkpoint
            (c.checkpoints.ensures.floor h can.lawful key r (there, can.horizon key r there))
            (λ q is. c.checkpoints.ensures.reached h can.lawful key r q (there, can.horizon key r there) is)
            (ended_closed log reached.legal (clock h) reached.order key r there);
      };
      parents = c.closed_parents.ensures log reached.legal;
      tenures = (c.lease_counts.ensures h).tenures;
      few = c.record_counts.ensures h can.lawful;
      live = live_numbers log reached.legal;
      streams = λ more own. c.lease_turns.ensures more h own;
      floors = λ more own le. c.lease_floors.ensures more h (max (clock h) is_at) own le;
    }
