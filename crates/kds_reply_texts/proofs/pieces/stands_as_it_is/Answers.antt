use Rattle.std.proofs.Common.{arith}
use Rattle.kds_reply_texts.proofs.PlainTexts.{plain_ascii, plain_text}
use Rattle.kds_reply_texts.proofs.pieces.stands_as_it_is.Goals as goal

pub returns-then-ascii : goal.returns-then-ascii
returns-then-ascii c =
    let l = c.loop-byte in
    plain_ascii l.plain l.ascii c.args.bytes.now l.byte-index c.if-plain.true (omega arith) l.invariant.plain
    l.invariant.ascii

pub returns-else-ascii : goal.returns-else-ascii
returns-else-ascii c =
    let l = c.loop-byte in
    plain_text l.plain c.is_text.result c.args.bytes.now l.byte-index c.if-plain.true (omega arith) l.invariant.plain
    c.is_text.ensures
