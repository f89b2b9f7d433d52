use Rattle.std.proofs.Common.{◌++◌, ap, ◌∙◌}
use Rattle.json.specs.Print.{print}
use Rattle.serde_json.proofs.Texts.{print-outline}
use Rattle.kds_reply_texts.proofs.writing.written.Goals as goal

pub returns : goal.returns
returns c = λ d is. c.unshared.ensures ∙ c.into_inner.ensures.items
    ∙ ap (λ is_before. is_before ++ print c.args.out.tokens) c.requires ∙ ap print is ∙ print-outline d
