use Rattle.std.proofs.Common.{◌≡◌, ◌≤◌, List, [], ◌∷◌, ◌++◌, rules, refl, subst, sym}
use Rattle.std.specs.Prelude.{◌/◌}
use Rattle.std.specs.List.Sorted.{IsNonDecreasingBy}
use Rattle.kds_defs.specs.declared.limits.TheConstants.{SECOND}
use Rattle.kcl_audit_streams.specs.declared.records.Sized.{Sized}
use Rattle.kcl_audit_streams.specs.Seconds.{AreLatest}
use Rattle.kcl_audit_streams.proofs.SecondSteps.{latest_same}
use Rattle.kcl_audit_streams.proofs.shard_records.ShardRecords.push.Goals as goal

pub invariant_of-self-else-second-self : goal.invariant_of-self-else-second-self
invariant_of-self-else-second-self c =
    let me = c.self.inside in
    let item = c.args.item in
    let pushed : c.push.new.self.items ≡ me.items.items ++ item ∷ [] = search rules in
    let earlier : item.arrival / SECOND ≤ me.second = search rules in
    record {
      latest = subst (λ (rs : List Sized). AreLatest me.second me.start rs) (sym pushed)
          (latest_same me.second me.start me.items.items item c.self.invariant.latest earlier);
      order = search rules;
    }
