use Rattle.std.proofs.Common.{◌∙◌}
use Rattle.kcl_defs.proofs.DealLemmas.{of_tenure}
use Rattle.kcl_defs.proofs.RetiredLemmas.{are_served}
use Rattle.kcl_defs.proofs.StepLemmas.{others_turn}
use Rattle.kcl_worker.proofs.laws.service.Goals as goal

pub returns : goal.returns
returns c = record {
  served = λ actor h made past orderly is_told. are_served actor h made past orderly is_told;
  of_tenures = λ actor h t T begun own. of_tenure actor h t T begun own;
  others = λ actor turn h made past other is_told. others_turn actor turn h other ∙ is_told;
}
