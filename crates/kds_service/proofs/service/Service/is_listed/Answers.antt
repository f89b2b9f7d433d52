use Rattle.std.proofs.Common.{sym, ap, subst, ◌∙◌}
use Rattle.kds_defs.specs.Keys.{is_listed_key}
use Rattle.kds_service.proofs.KeyedShards.{listed_is}
use Rattle.kds_service.specs.Shown.{ServiceValue, ShowsAll}
use Rattle.kds_service.specs.contracts.service.Service.{the_view}
use Rattle.kds_service.proofs.service.Service.is_listed.Goals as goal

pub returns-clause-shown : goal.returns-clause-shown
returns-clause-shown c log all =
    let w : ServiceValue = the_view c.self.inside in
    let all' = subst (λ (u : ServiceValue). ShowsAll u log) (sym c.self.view_is) all in
    c.is_listed.ensures ∙ listed_is w log all' c.args.key
    ∙ ap (λ (u : ServiceValue). is_listed_key log u.clock c.args.key) c.self.view_is
