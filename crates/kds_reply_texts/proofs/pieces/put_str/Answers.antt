use Rattle.std.proofs.Common.{◌≡◌, ◌++◌, List, ℕ, ap, ◌∙◌, rules}
use Rattle.std.specs.Prelude.{IsUtf8}
use Rattle.std.proofs.lemmas.Str.{utf8_lossy-IsUtf8}
use Rattle.json.specs.Print.{escape}
use Rattle.kds_reply_texts.proofs.pieces.put_str.Goals as goal

pub returns-clause-ok : goal.returns-clause-ok
returns-clause-ok c =
    let bytes : c.as_bytes.result.now ≡ c.args.text.now = search rules in
    let utf8 : IsUtf8 c.args.text.now = search rules in
    c.in_ok-put_escaped.ensures.ok
    ∙ ap (λ (s : List ℕ). c.args.out.now.items ++ escape s) (rw bytes (utf8_lossy-IsUtf8 c.args.text.now utf8))
