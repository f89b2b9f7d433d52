use Rattle.std.proofs.Common.{◌≡◌, max, sym, ap, subst, ◌∙◌}
use Rattle.kds_service.specs.Shown.{ServiceValue}
use Rattle.kcl_world.proofs.Turns.{TakesTurns, turn_done, turn_stands}
use Rattle.kcl_world.specs.Standing.{StandsFor, WorldValue}
use Rattle.kcl_world.proofs.world.WorldMachine.apply.Goals as goal

pub invariant_of-self : goal.invariant_of-self
invariant_of-self c =
    let k = c.self.inside in
    let is_at : c.advance-advanced.new.service.clock ≡ c.later-clock.result = c.advance-advanced.ensures.clock in
    let latest : c.advance-advanced.new.service.clock ≡ max k.service.clock c.args.turn.at =
    is_at ∙ c.later-clock.ensures ∙ ap (λ n. max n c.args.turn.at) (sym c.self.invariant.0) in
    let turns : TakesTurns k.service c.advance-advanced.new.service c.answer.new.service c.settle.new.self
    = (
      c.advance-advanced.ensures.next_to_settle,
      c.in-Ok.ensures.next_to_settle,
      ap (λ (s : ServiceValue). s.next_to_settle) c.settle.ensures.dropped,
    ) in
    let last = c.settle.ensures.clock in (
      last ∙ c.in-Ok.ensures.clock ∙ is_at,
      turn_stands k.service c.advance-advanced.new.service c.answer.new.service c.settle.new.self k.table
          c.answer.new.table
          k.book.tenures c.answer.new.book.tenures c.args.turn c.in-Ok.answer
          c.self.invariant.1 c.advance-advanced.ensures.shows latest c.in-Ok.ensures.leads c.in-Ok.ensures.clock
          c.settle.ensures.shows last turns,
    )

pub returns-in-Ok-clause-answered : goal.returns-in-Ok-clause-answered
returns-in-Ok-clause-answered c h stood =
    let k = c.self.inside in
    let is_at : c.advance-advanced.new.service.clock ≡ c.later-clock.result = c.advance-advanced.ensures.clock in
    let latest : c.advance-advanced.new.service.clock ≡ max k.service.clock c.args.turn.at =
    is_at ∙ c.later-clock.ensures ∙ ap (λ n. max n c.args.turn.at) (sym c.self.invariant.0) in
    let turns : TakesTurns k.service c.advance-advanced.new.service c.answer.new.service c.settle.new.self
    = (
      c.advance-advanced.ensures.next_to_settle,
      c.in-Ok.ensures.next_to_settle,
      ap (λ (s : ServiceValue). s.next_to_settle) c.settle.ensures.dropped,
    ) in
    let earlier = subst (λ (w : WorldValue). StandsFor w h) (sym c.self.view_is) stood in
    turn_done k.service c.advance-advanced.new.service c.answer.new.service c.settle.new.self k.table c.answer.new.table
    k.book.tenures c.answer.new.book.tenures h c.args.turn c.in-Ok.answer
    earlier (c.advance-advanced.ensures.shows _ earlier.stands.shows) latest c.in-Ok.ensures.leads c.in-Ok.ensures.clock
    c.settle.ensures.shows c.settle.ensures.clock turns
