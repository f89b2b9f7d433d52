use Rattle.std.proofs.Common.{subst, sym}
use Rattle.kcl_consumer.specs.Standing.{StandsFor}
use Rattle.kcl_consumer.proofs.StandLemmas.{give_answered, read_answered}
use Rattle.kcl_consumer.proofs.consumer.Consumer.absorb.Goals as goal

pub returns-in-Filling-clause-stands : goal.returns-in-Filling-clause-stands
returns-in-Filling-clause-stands g c = λ past st.
    read_answered g.P.Processor.stands_for c.args.answer c.self.inside.made c.self.inside.stage
    c.after_read-stage.result.0
    c.self.inside.reach c.after_read-stage.result.1 c.self.inside.ahead c.after_read-stage.new.ahead
    c.self.inside.asked c.forget.new.asked c.self.inside.lost_in_giving c.forget.new.lost c.self.inside.given
    c.self.inside.processor past
    c.in-Filling.is c.forget.ensures.asked c.forget.ensures.lost c.after_read-stage.ensures.stage
    (subst (λ v. StandsFor g.P.Processor.stands_for v past) (sym c.self.view_is) st)

pub returns-in-Giving-clause-stands : goal.returns-in-Giving-clause-stands
returns-in-Giving-clause-stands g c = λ past st.
    give_answered g.P.Processor.stands_for c.args.answer c.self.inside.made c.self.inside.stage
    c.after_give-self-inside.result
    c.self.inside.reach c.self.inside.ahead c.after_give-self-inside.new.ahead
    c.self.inside.asked c.forget-in-Giving.new.asked c.self.inside.lost_in_giving c.forget-in-Giving.new.lost
    c.self.inside.given
    c.last_after-self-inside.result
    c.self.inside.processor past
    c.in-Giving.is c.forget-in-Giving.ensures.asked c.forget-in-Giving.ensures.lost
    (c.after_give-self-inside.ensures.stage c.self.inside.reach)
    (c.last_after-self-inside.ensures c.self.inside.reach c.self.inside.asked c.self.inside.lost_in_giving)
    (subst (λ v. StandsFor g.P.Processor.stands_for v past) (sym c.self.view_is) st)
