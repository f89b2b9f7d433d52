use Rattle.std.proofs.Common.{ap, ◌∙◌}
use Rattle.std.specs.Cmp.Lexicographic.{slice_cmp}
use Rattle.std.specs.Ordering.{is_lt, nat_cmp}
use Rattle.kds_service.proofs.NameOrder.{less}
use Rattle.kds_service.proofs.listing.is_before.Goals as goal

pub returns : goal.returns
returns c = c.is_lt.ensures
    ∙ ap is_lt (c.cmp.ensures ∙ ap (λ a. slice_cmp nat_cmp a c.bytes-2.result.now) c.bytes.ensures.value
    ∙ ap (slice_cmp nat_cmp c.args.a.now) c.bytes-2.ensures.value) ∙ less _
