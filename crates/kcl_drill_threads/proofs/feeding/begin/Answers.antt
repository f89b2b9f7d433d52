use Rattle.std.proofs.Common.{◌≡◌, ◌∙◌, sym, ap, subst}
use Rattle.kds_turn.specs.Known.{Continues}
use Rattle.kds_turn.specs.Passes.{PassValue}
use Rattle.kcl_drill_threads.specs.Feeding.{IsAfter}
use Rattle.kcl_drill_threads.proofs.Feeds.{learned, made_first}
use Rattle.kcl_drill_threads.proofs.feeding.begin.Goals as goal

pub returns-clause-learned : goal.returns-clause-learned
returns-clause-learned g c =
    let root = c.ask_next.new.pass in
    let first = made_first c.in-Ok.field-0 c.args.generator.now c.ask_next.new.generator c.args.root.now root
    c.requires.new.0 c.ask_next.ensures.kept c.in-Ok.ensures.asked in
    let is_told : c.in-Ok-tell.note.seen ≡ root.seen =
    c.in-Ok-tell.ensures.note.1 ∙ ap (λ (p : PassValue). p.seen) c.tell.ensures.same in
    let later : Continues c.learn.new.pass.seen root.seen =
    subst (λ ts. Continues c.learn.new.pass.seen ts) is_told c.learn.ensures.seen.1 in
    subst (λ (p : PassValue). IsAfter p c.learn.new.pass) (sym c.tell.ensures.same)
    (learned root c.learn.new.pass first.older first.seen later (c.learn.ensures.kept.2 ∙ c.requires.new.1))
