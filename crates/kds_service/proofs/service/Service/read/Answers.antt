use Rattle.std.proofs.Common.{◌≡◌, map, sym, subst}
use Rattle.std.specs.Prelude.{IfOk}
use Rattle.kds_defs.specs.Listings.{ends_at}
use Rattle.kds_defs.specs.Records.{batch, numbers_of, position_after, stored}
use Rattle.kds_service.specs.Shown.{ServiceValue, ShowsAll}
use Rattle.kds_service.proofs.service.Service.read.Goals as goal

pub returns-clause-batch : goal.returns-clause-batch
returns-clause-batch c log all =
    let s = c.self.inside in
    let a = c.args in
    let all' = subst (λ (u : ServiceValue). ShowsAll u log) (sym c.self.view_is) all in
    subst (λ (u : ServiceValue).
    IfOk c.read.result (λ r. r.0 ≡ map stored (batch log u.clock a.key.stream a.key.shard a.position a.limit)))
    c.self.view_is
    (c.read.ensures.batch s.clock s.clock_before s.made_count log all')

pub returns-clause-end : goal.returns-clause-end
returns-clause-end c log all =
    let s = c.self.inside in
    let a = c.args in
    let all' = subst (λ (u : ServiceValue). ShowsAll u log) (sym c.self.view_is) all in
    subst (λ (u : ServiceValue).
    IfOk c.read.result (λ r. r.1
    ≡ ends_at log u.clock a.key.stream a.key.shard
    (position_after a.position (numbers_of (batch log u.clock a.key.stream a.key.shard a.position a.limit)))))
    c.self.view_is
    (c.read.ensures.end s.clock s.clock_before s.made_count log all')
