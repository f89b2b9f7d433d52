use Rattle.std.proofs.Common.{◌≡◌, ◌∙◌, rules}
use Rattle.kds_reply.proofs.NameTexts.{name_is_text}
use Rattle.kds_reply.proofs.streams.name_text.Goals as goal

pub returns : goal.returns
returns c =
    let is : c.bytes.result.now ≡ c.args.name.now = search rules in
    c.in_ok-from_utf8_lossy.ensures.ok (rw is (name_is_text c.args.name.now c.bytes.ensures.name)) ∙ is
