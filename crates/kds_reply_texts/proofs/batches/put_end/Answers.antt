use Rattle.std.proofs.Common.{◌≡◌, ◌++◌, List, ℕ, ap, ◌∙◌, rules}
use Rattle.serde_json.specs.Written.{compact_text}
use Rattle.kds_reply_texts.specs.Bodies.{list_data}
use Rattle.kds_reply_texts.specs.Children.{child_data}
use Rattle.kds_reply_texts.proofs.BatchTexts.{end_pieces}
use Rattle.kds_reply_texts.proofs.Joined.{more}
use Rattle.kds_reply_texts.proofs.batches.put_end.Goals as goal

pub returns-clause-ok : goal.returns-clause-ok
returns-clause-ok c =
    let children = c.args.children.now in
    let t = c.args.out.now.items in
    let family : c.as_slice.result.now ≡ compact_text (list_data child_data children) = search rules in
    let two = more t _ _ _ _ c.in_ok-push_piece.ensures.ok c.in_ok-push_piece-2.ensures.ok in
    let three = more t _ _ _ _ two c.in_ok-push_piece-3.ensures.ok in
    let four = more t _ _ _ _ three c.in_ok-put_decimal.ensures.ok in
    let five = more t _ _ _ _ four c.in_ok-push_piece-4.ensures.ok in
    let six = more t _ _ _ _ five c.in_ok-append_records.ensures.ok in
    let seven = more t _ _ _ _ six c.in_ok-push_piece-5.ensures.ok in
    seven ∙ ap (λ (text : List ℕ). t ++ text)
    (end_pieces c.args.batch.now c.args.behind children c.as_slice.result.now family)
