use Rattle.kcl_drill.proofs.LiveLemmas.{live_alone}
use Rattle.kcl_drill.proofs.SummedLemmas.{text_alone}
use Rattle.kcl_drill.proofs.laws.one_text.Goals as goal

pub returns : goal.returns
returns c =
    record {
      live = λ h number records is. live_alone c.step.ensures.history h number records is.lawful is.below is.asks;
      text = λ h number records is drained.
          text_alone c.step.ensures.history h number records is.lawful is.below is.asks drained;
    }
