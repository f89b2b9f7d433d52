use Rattle.std.proofs.Common.{◌≡◌, ◌++◌, List, ℕ, ap, ◌∙◌, rules}
use Rattle.json.specs.Print.{escape}
use Rattle.kds_token.specs.Tokens.{iter_token}
use Rattle.kds_reply_texts.proofs.BatchTexts.{open_pieces}
use Rattle.kds_reply_texts.proofs.Joined.{more}
use Rattle.kds_reply_texts.proofs.batches.put_open.Goals as goal

pub returns-clause-ok : goal.returns-clause-ok
returns-clause-ok c = λ children.
    let next = c.args.next.now in
    let t = c.args.out.now.items in
    let token : c.as_slice.result.now ≡ escape (iter_token next) = search rules in
    let two = more t _ _ _ _ c.in_ok-push_piece.ensures.ok c.in_ok-put_decimal.ensures.ok in
    let three = more t _ _ _ _ two c.in_ok-push_piece-2.ensures.ok in
    let four = more t _ _ _ _ three c.in_ok-push_piece-3.ensures.ok in
    let five = more t _ _ _ _ four c.in_ok-push_piece-4.ensures.ok in
    let six = more t _ _ _ _ five c.in_ok-append_records.ensures.ok in
    let seven = more t _ _ _ _ six c.in_ok-push_piece-5.ensures.ok in
    seven ∙ ap (λ (text : List ℕ). t ++ text)
    (open_pieces c.args.batch.now next c.args.behind children c.as_slice.result.now token)
