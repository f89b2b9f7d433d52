use Rattle.std.proofs.Common.{◌≡◌, sym, ap, subst, ◌∙◌}
use Rattle.std.specs.Prelude.{IfOk}
use Rattle.kds_defs.specs.Listings.{listed_in}
use Rattle.kds_defs.specs.Streams.{live_streams}
use Rattle.kds_service.proofs.KeyedShards.{keys_are}
use Rattle.kds_service.specs.Shown.{ServiceValue, ShowsAll}
use Rattle.kds_service.specs.contracts.service.Service.{the_view}
use Rattle.kds_base.specs.declared.lease_key.ShardRef.{ShardRef}
use Rattle.std.proofs.Common.{List}
use Rattle.kds_service.proofs.service.Service.listed.Goals as goal

pub returns : goal.returns
returns c log all =
    let w : ServiceValue = the_view c.self.inside in
    let all' = subst (λ (u : ServiceValue). ShowsAll u log) (sym c.self.view_is) all in
    let same = keys_are w log all'
    ∙ ap (λ (u : ServiceValue). listed_in log u.clock (live_streams log)) c.self.view_is in
    subst (λ (ks : List ShardRef). IfOk c.listed.result (λ keys. keys ≡ ks)) same c.listed.ensures
