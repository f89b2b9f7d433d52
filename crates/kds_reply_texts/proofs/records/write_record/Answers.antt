use Rattle.std.proofs.Common.{◌++◌, List, ℕ, take, ap, ◌∙◌}
use Rattle.kds_reply_texts.proofs.Joined.{more}
use Rattle.kds_reply_texts.proofs.RoomTexts.{record_in_pieces}
use Rattle.kds_reply_texts.proofs.records.write_record.Goals as goal

pub returns-clause-text : goal.returns-clause-text
returns-clause-text c =
    let t = take c.args.at c.args.buffer.now in
    let two = more t _ _ _ _ c.write_piece-at.ensures.text c.write_base64-at.ensures.text in
    let three = more t _ _ _ _ two c.write_piece-at-2.ensures.text in
    let four = more t _ _ _ _ three c.write_piece-at-3.ensures.text in
    let five = more t _ _ _ _ four c.write_piece-at-4.ensures.text in
    let six = more t _ _ _ _ five c.write_seq-at.ensures.text in
    let seven = more t _ _ _ _ six c.write_piece.ensures.text in
    seven ∙ ap (λ (text : List ℕ). t ++ text)
    (record_in_pieces c.args.front.now c.args.payload.now c.args.key.now c.args.seq)
