use Rattle.std.proofs.Common.{rules, ◌≡◌, ◌+◌, ◌++◌, true, length, take, ℕ, List, ap, sym, ◌∙◌, arith}
use Rattle.base64.specs.Engines.{standard}
use Rattle.base64.specs.GeneralPurpose.{encode_of}
use Rattle.base64.specs.Rfc4648.{encoded_size}
use Rattle.kds_reply_texts.proofs.PlainTexts.{escape-encoded}
use Rattle.kds_reply_texts.proofs.RoomTexts.{over_part, length-encoded, encoded_by}
use Rattle.kds_reply_texts.proofs.overwriting.write_base64.Goals as goal

pub returns-clause-text : goal.returns-clause-text
returns-clause-text c =
    let bytes = c.args.bytes.now in
    let end : c.args.at + c.in-Ok.size ≡ c.args.at + encoded_size (length bytes) true = search rules in
    let written = encoded_by c.args.engine.now bytes _ c.encode_slice.new.output c.requires.standard
    c.in-Ok.ensures.written in
    over_part c.args.at _ (c.args.at + c.in-Ok.size) c.args.buffer.now c.encode_slice.new.output
    (encode_of standard bytes) _
    written (omega arith) (omega (arith, length-encoded bytes))
    ∙ ap (λ (text : List ℕ). take c.args.at c.args.buffer.now ++ text)
    (sym (escape-encoded bytes (λ k. omega (arith, c.type_inv.bytes k))))
