use Rattle.std.proofs.Common.{◌≡◌, [], length, refl, sym, ap, subst, ◌∙◌}
use Rattle.std.proofs.lemmas.Map.Entries.{length-values_of}
use Rattle.indexmap.specs.IndexMap.{values}
use Rattle.kds_base.specs.Circle.{next_of}
use Rattle.kds_service.proofs.Clocked.{kept_in, same_service, settled_at, shows_along}
use Rattle.kds_service.proofs.Entries.{named_along}
use Rattle.kds_service.specs.Clocks.{in_rotation, settled_in, settled_next}
use Rattle.kds_service.specs.Shown.{AreAt, ServiceValue, ShowsAll, names_of, numbers_of, service}
use Rattle.kds_service.specs.contracts.service.Service.{the_view}
use Rattle.kds_service.proofs.service.Service.settle.Goals as goal

pub invariant_of-self : goal.invariant_of-self
invariant_of-self c =
    let s = c.self.inside in
    let i = c.in_rotation-index.result in
    let are = c.settle_stream.ensures.value in
    named_along s.clock s.streams.entries c.settle_stream.new.streams.entries c.self.invariant.named
    c.settle_stream.ensures.keys
    (ap names_of are ∙ kept_in (λ v. v.name) (λ v. refl) i (values s.streams))
    (subst (AreAt s.clock) (sym are) (settled_at s.clock i (values s.streams) c.self.invariant.at))

pub returns-clause-dropped : goal.returns-clause-dropped
returns-clause-dropped c =
    let s = c.self.inside in
    let vs = values s.streams in
    let n = length vs in
    let index = c.in_rotation-index.result in
    let count : c.len-count.result ≡ n = c.len-count.ensures.len ∙ sym (length-values_of s.streams.entries) in
    let i : index ≡ in_rotation n s.next_to_settle =
    c.in_rotation-index.ensures ∙ ap (λ k. in_rotation k s.next_to_settle) count in
    let next = c.next_of-self-inside.ensures ∙ ap (λ k. next_of k index) count ∙ ap (next_of n) i in
    same_service s.clock s.clock s.made_count _ _ _ _ (c.settle_stream.ensures.value ∙ ap (λ k. settled_in k vs) i) next
    ∙ ap settled_next c.self.view_is

pub returns-clause-shows : goal.returns-clause-shows
returns-clause-shows c log all =
    let s = c.self.inside in
    let i = c.in_rotation-index.result in
    let are = c.settle_stream.ensures.value in
    let earlier = subst (λ (w : ServiceValue). ShowsAll w log) (sym c.self.view_is) all in
    shows_along (the_view s) (service s.clock s.clock s.made_count (values c.settle_stream.new.streams)) log refl
    (ap numbers_of are ∙ kept_in (λ v. v.no) (λ v. refl) i (values s.streams))
    (subst (AreAt s.clock) (sym are) (settled_at s.clock i (values s.streams) c.self.invariant.at))
    (c.settle_stream.ensures.shows log earlier.shown) earlier
