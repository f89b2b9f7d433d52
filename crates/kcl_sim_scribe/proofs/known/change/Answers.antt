use Rattle.std.proofs.Common.{◌<◌, ◌≤◌, length, map, slice_set, rules, sym, ap, ◌∙◌}
use Rattle.std.proofs.lemmas.Fn.{filter_same}
use Rattle.std.proofs.lemmas.List.Edits.{map_over_more}
use Rattle.std.specs.List.{filter}
use Rattle.std.specs.Prelude.{not}
use Rattle.kcl_sim_scribe.specs.Known.{Known, is_gone, renumbered}
use Rattle.kcl_sim_scribe.proofs.Lists.{all_done}
use Rattle.kcl_sim_scribe.proofs.Readings.{stay}
use Rattle.kcl_sim_scribe.proofs.known.change.Goals as goal

pub loop-i-preserved : goal.loop-i-preserved
loop-i-preserved c =
    let f = renumbered c.args.what.now in
    let xs = c.args.streams.now.items in
    let i = c.loop-i.i in
    let within : i < length xs = search rules in
    ap (slice_set c.loop-i.streams.items i) c.renumber.ensures
    ∙ map_over_more f xs c.loop-i.streams.items i c.index_mut.result.now within c.loop-i.invariant
    c.index_mut.ensures.value

pub returns-in-Gone : goal.returns-in-Gone
returns-in-Gone c =
    let over : length c.args.streams.now.items ≤ c.loop-i.i = search rules in
    let done = c.loop-i.invariant ∙ all_done (renumbered c.args.what.now) c.args.streams.now.items c.loop-i.i over in
    filter_same _ (λ (v : Known). not (is_gone c.args.what.now v.no)) _ (λ x b f' k. search rules)
    _ _ c.retain.ensures.filtered
    ∙ ap (filter (λ (v : Known). not (is_gone c.args.what.now v.no))) done

pub returns-in_default : goal.returns-in_default
returns-in_default c =
    let over : length c.args.streams.now.items ≤ c.loop-i.i = search rules in
    let done = c.loop-i.invariant ∙ all_done (renumbered c.args.what.now) c.args.streams.now.items c.loop-i.i over in
    done ∙ sym (stay c.args.what.now (λ s is. c.in_default.not-Gone s is)
    (map (renumbered c.args.what.now) c.args.streams.now.items))
