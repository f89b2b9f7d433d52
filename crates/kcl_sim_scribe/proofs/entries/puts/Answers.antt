use Rattle.std.proofs.Common.{◌++◌, sym, ap, ◌∙◌, append-nil}
use Rattle.std.proofs.lemmas.Slice.Zip.{either_empty_from_Zip}
use Rattle.kcl_sim_scribe.proofs.Tellings.{none_put}
use Rattle.kcl_sim_scribe.proofs.entries.puts.Goals as goal

pub returns : goal.returns
returns c =
    let none = either_empty_from_Zip c.loop-item.item-iterator c.next.new.self _ c.in-None.is c.next.ensures.steps in
    sym (append-nil c.loop-item.entries)
    ∙ ap (λ es. c.loop-item.entries ++ es)
    (sym (none_put c.args.stream c.loop-item.item-iterator.a.rest.now c.loop-item.item-iterator.b.rest.now none))
    ∙ c.loop-item.invariant
