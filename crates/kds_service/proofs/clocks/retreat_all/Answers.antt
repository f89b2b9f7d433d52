use Rattle.std.proofs.Common.{slice_get, slice_set, sym, ap, ◌∙◌}
use Rattle.indexmap.specs.IndexMap.{values}
use Rattle.kds_service.proofs.Entries.{keys_set, values_set}
use Rattle.kds_service.proofs.Lists.{get_rest, set_rest}
use Rattle.kds_service.specs.Clocks.{retreated}
use Rattle.kds_service.proofs.clocks.retreat_all.Goals as goal

pub loop-i-preserved : goal.loop-i-preserved
loop-i-preserved c =
    let i = c.loop-i.i in
    let vs = values c.args.streams.now in
    let new = c.retreat.new.self in
    let here = sym (get_rest retreated vs i) ∙ ap (λ xs. slice_get xs i) (sym c.loop-i.invariant.value)
    ∙ c.index_mut.ensures.value in
    record {
      value = values_set c.loop-i.streams.entries i new ∙ ap (λ xs. slice_set xs i new) c.loop-i.invariant.value
          ∙ ap (slice_set _ i) c.retreat.ensures ∙ set_rest retreated vs i _ here;
      keys = keys_set c.loop-i.streams.entries i new ∙ c.loop-i.invariant.keys;
    }
