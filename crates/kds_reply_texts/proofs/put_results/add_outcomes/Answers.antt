use Rattle.std.proofs.Common.{◌≡◌, ◌++◌, List, ℕ, ap, ◌∙◌, rules}
use Rattle.kds_reply_texts.specs.Bodies.{failed_count}
use Rattle.kds_reply_texts.proofs.Joined.{more, added}
use Rattle.kds_reply_texts.proofs.PlaceTexts.{outcomes_pieces}
use Rattle.kds_reply_texts.proofs.put_results.add_outcomes.Goals as goal

pub returns-clause-ok : goal.returns-clause-ok
returns-clause-ok c =
    let os = c.args.outcomes.now in
    let t = c.args.out.now.items in
    let counted : c.failed_count.result ≡ failed_count os = search rules in
    let one = added _ _ t _ c.in_ok-reserve.ensures.ok c.in_ok-push_piece.ensures.ok in
    let two = more t _ _ _ _ one c.in_ok-put_decimal.ensures.ok in
    let three = more t _ _ _ _ two c.in_ok-push_piece-2.ensures.ok in
    let four = more t _ _ _ _ three c.in_ok-put_outcomes.ensures.ok in
    let five = more t _ _ _ _ four c.in_ok-push_piece-3.ensures.ok in
    five ∙ ap (λ (text : List ℕ). t ++ text) (outcomes_pieces os c.failed_count.result counted)
