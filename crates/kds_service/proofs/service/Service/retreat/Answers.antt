use Rattle.std.proofs.Common.{refl, sym, ap, subst, ◌∙◌}
use Rattle.indexmap.specs.IndexMap.{values}
use Rattle.kds_service.proofs.Clocked.{kept_of}
use Rattle.kds_service.proofs.Entries.{named_along}
use Rattle.kds_service.specs.Clocks.{CanRetreat, retreated}
use Rattle.kds_service.specs.Shown.{AreAt, names_of}
use Rattle.kds_service.proofs.service.Service.retreat.Goals as goal

pub invariant_of-self : goal.invariant_of-self
invariant_of-self c =
    let s = c.self.inside in
    let are = c.retreat_all.ensures.value in
    named_along s.clock_before s.streams.entries c.retreat_all.new.streams.entries c.self.invariant.named
    c.retreat_all.ensures.keys
    (ap names_of are ∙ kept_of (λ v. v.name) retreated (λ v. refl) (values s.streams))
    (subst (AreAt s.clock_before) (sym are) (subst CanRetreat (sym c.self.view_is) c.requires))
