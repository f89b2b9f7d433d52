use Rattle.kcl_audit.proofs.LegalTexts.{legal_text, over_so}
use Rattle.kcl_audit.proofs.laws.complete.Goals as goal

pub returns-clause-sounds : goal.returns-clause-sounds
returns-clause-sounds c =
    let its = c.one_entry.ensures in
    legal_text its.again its.end_again its.apart its.heading its.one_line its.end_line c.exact.ensures.good

pub returns-clause-lengths : goal.returns-clause-lengths
returns-clause-lengths c = over_so
