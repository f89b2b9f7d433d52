use Rattle.std.proofs.Common.{sym, ap, subst, ◌∙◌}
use Rattle.std.specs.Option.{option_map}
use Rattle.kds_defs.specs.Shards.{shown}
use Rattle.kds_service.proofs.KeyedShards.{state_is}
use Rattle.kds_service.specs.Shown.{ServiceValue, ShowsAll}
use Rattle.kds_service.specs.contracts.service.Service.{the_view}
use Rattle.kds_service.proofs.service.Service.shard.Goals as goal

pub returns : goal.returns
returns c log all =
    let w : ServiceValue = the_view c.self.inside in
    let all' = subst (λ (u : ServiceValue). ShowsAll u log) (sym c.self.view_is) all in
    c.shard.ensures ∙ ap (option_map shown) (state_is w log all' c.args.key)
