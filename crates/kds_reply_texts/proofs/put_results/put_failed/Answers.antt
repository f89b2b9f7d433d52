use Rattle.std.proofs.Common.{◌++◌, List, ℕ, ap, ◌∙◌}
use Rattle.kds_reply_texts.proofs.Joined.{more}
use Rattle.kds_reply_texts.proofs.PlaceTexts.{failed_pieces}
use Rattle.kds_reply_texts.proofs.put_results.put_failed.Goals as goal

pub returns-clause-ok : goal.returns-clause-ok
returns-clause-ok c =
    let t = c.args.out.now.items in
    let two = more t c.push_piece.new.out.items c.put_str.new.out.items _ _ c.in_ok-push_piece.ensures.ok
    c.in_ok-put_str.ensures.ok in
    let three = more t c.put_str.new.out.items c.push_piece-2.new.out.items _ _ two c.in_ok-push_piece-2.ensures.ok in
    let four = more t c.push_piece-2.new.out.items c.put_str-2.new.out.items _ _ three c.in_ok-put_str-2.ensures.ok in
    let five = more t c.put_str-2.new.out.items c.push_piece-3.new.out.items _ _ four c.in_ok-push_piece-3.ensures.ok in
    five ∙ ap (λ (text : List ℕ). t ++ text) (failed_pieces c.args.name.now c.args.message.now)
