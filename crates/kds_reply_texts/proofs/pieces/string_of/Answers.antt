use Rattle.std.proofs.Common.{◌≡◌, [], ◌∷◌, ◌++◌, List, ap, ◌∙◌, rules}
use Rattle.std.specs.Str.Lossy.{utf8_lossy}
use Rattle.json.specs.Print.{quoted}
use Rattle.json.specs.Token.{Token, string}
use Rattle.kds_reply_texts.proofs.RecordTexts.{string_text}
use Rattle.kds_reply_texts.proofs.pieces.string_of.Goals as goal

pub returns : goal.returns
returns c =
    let text : c.as_str.result.now ≡ utf8_lossy c.args.bytes.now = search rules in
    let none : c.string.new.self.before ≡ [] = c.string.ensures.room.0 ∙ c.new-out.ensures.before
    ∙ c.new.ensures.items in
    let tokens : c.string.new.self.tokens ≡ string c.as_str.result.now ∷ [] =
    c.in_ok-string.ensures.ok
    ∙ ap (λ (ts : List Token). ts ++ string c.as_str.result.now ∷ []) c.new-out.ensures.tokens in
    c.into_inner.ensures.items ∙ string_text _ _ _ none tokens ∙ ap quoted text
