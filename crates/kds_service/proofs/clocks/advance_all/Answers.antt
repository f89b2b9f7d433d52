use Rattle.std.proofs.Common.{◌≡◌, slice_get, slice_set, sym, ap, subst, ◌∙◌, arith}
use Rattle.indexmap.specs.IndexMap.{values}
use Rattle.kds_stream.specs.Showing.{Shows}
use Rattle.kds_service.proofs.Entries.{keys_set, values_set}
use Rattle.kds_service.proofs.Lists.{all_get, all_set, get_rest, set_rest}
use Rattle.kds_service.specs.Clocks.{advanced}
use Rattle.kds_service.specs.Shown.{AreShown}
use Rattle.kds_service.proofs.clocks.advance_all.Goals as goal

pub advance-requires : goal.advance-requires
advance-requires c =
    let i = c.loop-i.i in
    let vs = values c.args.streams.now in
    let here = sym (get_rest (advanced c.args.clock) vs i) ∙ ap (λ xs. slice_get xs i) (sym c.loop-i.invariant.value)
    ∙ c.index_mut.ensures.value in
    omega (arith, all_get (λ v. v.clock ≡ c.args.before) i vs _ c.requires.at here, c.requires.later)

pub loop-i-preserved : goal.loop-i-preserved
loop-i-preserved c =
    let f = advanced c.args.clock in
    let i = c.loop-i.i in
    let vs = values c.args.streams.now in
    let new = c.advance.new.self in
    let here = sym (get_rest f vs i) ∙ ap (λ xs. slice_get xs i) (sym c.loop-i.invariant.value)
    ∙ c.index_mut.ensures.value in
    record {
      value = values_set c.loop-i.streams.entries i new ∙ ap (λ xs. slice_set xs i new) c.loop-i.invariant.value
          ∙ ap (slice_set _ i) c.advance.ensures.value ∙ set_rest f vs i _ here;
      keys = keys_set c.loop-i.streams.entries i new ∙ c.loop-i.invariant.keys;
      shows = λ log shown.
          let earlier = c.loop-i.invariant.shows log shown in
          subst (AreShown log) (sym (values_set c.loop-i.streams.entries i new))
          (all_set (λ v. Shows v log) i (values c.loop-i.streams) new earlier
          (c.advance.ensures.shows log
          (all_get (λ v. Shows v log) i (values c.loop-i.streams) _ earlier c.index_mut.ensures.value)));
    }
