use Rattle.std.proofs.Common.{◌≡◌, sym, subst}
use Rattle.kds_defs.specs.Origins.{origin_position}
use Rattle.kds_service.specs.Shown.{ServiceValue, ShowsAll}
use Rattle.kds_service.proofs.service.Service.position.Goals as goal

pub returns : goal.returns
returns c log all =
    let s = c.self.inside in
    let a = c.args in
    let all' = subst (λ (u : ServiceValue). ShowsAll u log) (sym c.self.view_is) all in
    subst (λ (u : ServiceValue). c.position.result ≡ origin_position log u.clock a.key a.from) c.self.view_is
    (c.position.ensures s.clock s.clock_before s.made_count log all')
