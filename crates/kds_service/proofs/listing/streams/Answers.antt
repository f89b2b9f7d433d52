use Rattle.std.proofs.Common.{filter, map, take, ap, ◌∙◌}
use Rattle.indexmap.specs.IndexMap.{values}
use Rattle.kds_defs.specs.Listings.{are_more, is_after_name}
use Rattle.kds_service.proofs.Names.{streams_listed}
use Rattle.kds_service.proofs.listing.streams.Goals as goal

pub returns : goal.returns
returns c =
    let a = c.args in
    let names = ap (map (λ n. n.now)) c.as_slice.ensures.value ∙ c.in_ok-names.ensures in
    streams_listed a.clock (values a.streams.now) a.after.now a.limit c.in_ok-names-2.names c.in_ok-names-2.more
    (c.in_ok-names-2.ensures.names ∙ ap (λ ns. take a.limit (filter (is_after_name a.after.now) ns)) names)
    (c.in_ok-names-2.ensures.more ∙ ap (λ ns. are_more a.limit (filter (is_after_name a.after.now) ns)) names)
