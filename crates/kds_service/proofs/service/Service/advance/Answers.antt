use Rattle.std.proofs.Common.{map, refl, sym, ap, subst, ◌∙◌}
use Rattle.indexmap.specs.IndexMap.{values}
use Rattle.kds_service.proofs.Clocked.{advanced_at, retreated_at, retreated_shown, kept_of, shows_along}
use Rattle.kds_service.proofs.Entries.{named_along}
use Rattle.kds_service.specs.Clocks.{advanced, retreated}
use Rattle.kds_service.specs.Shown.{AreAt, AreShown, ServiceValue, ShowsAll, names_of, numbers_of, service}
use Rattle.kds_service.specs.contracts.service.Service.{the_view}
use Rattle.kds_service.proofs.service.Service.advance.Goals as goal

pub invariant_of-self : goal.invariant_of-self
invariant_of-self c =
    let s = c.self.inside in
    let f = advanced c.args.clock in
    let are = c.advance_all.ensures.value in
    named_along c.args.clock s.streams.entries c.advance_all.new.streams.entries c.self.invariant.named
    c.advance_all.ensures.keys
    (ap names_of are ∙ kept_of (λ v. v.name) f (λ v. refl) (values s.streams))
    (subst (AreAt c.args.clock) (sym are) (advanced_at c.args.clock (values s.streams)))

pub returns-clause-shows : goal.returns-clause-shows
returns-clause-shows c log all =
    let s = c.self.inside in
    let f = advanced c.args.clock in
    let are = c.advance_all.ensures.value in
    let earlier = subst (λ (w : ServiceValue). ShowsAll w log) (sym c.self.view_is) all in
    shows_along (the_view s) (service c.args.clock s.clock s.made_count (values c.advance_all.new.streams)) log refl
    (ap numbers_of are ∙ kept_of (λ v. v.no) f (λ v. refl) (values s.streams))
    (subst (AreAt c.args.clock) (sym are) (advanced_at c.args.clock (values s.streams)))
    (c.advance_all.ensures.shows log earlier.shown) earlier

pub returns-clause-can_retreat : goal.returns-clause-can_retreat
returns-clause-can_retreat c =
    let s = c.self.inside in
    subst (λ us. AreAt s.clock (map retreated us)) (sym c.advance_all.ensures.value)
    (retreated_at s.clock c.args.clock (values s.streams) c.self.invariant.at)

pub returns-clause-shows_retreated : goal.returns-clause-shows_retreated
returns-clause-shows_retreated c log all =
    let s = c.self.inside in
    let f = advanced c.args.clock in
    let are = c.advance_all.ensures.value in
    let earlier = subst (λ (w : ServiceValue). ShowsAll w log) (sym c.self.view_is) all in
    shows_along (the_view s) (service s.clock s.clock s.made_count (map retreated (values c.advance_all.new.streams)))
    log refl
    (ap (λ us. numbers_of (map retreated us)) are ∙ kept_of (λ v. v.no) retreated (λ v. refl) (map f (values s.streams))
    ∙ kept_of (λ v. v.no) f (λ v. refl) (values s.streams))
    (subst (λ us. AreAt s.clock (map retreated us)) (sym are)
    (retreated_at s.clock c.args.clock (values s.streams) c.self.invariant.at))
    (subst (λ us. AreShown log (map retreated us)) (sym are)
    (retreated_shown c.args.clock (values s.streams) log earlier.shown)) earlier
