use Rattle.std.proofs.Common.{◌≡◌, ◌++◌, ◌/◌, List, ℕ, ap, ◌∙◌, rules}
use Rattle.kds_reply_texts.proofs.Joined.{more}
use Rattle.kds_reply_texts.proofs.RecordTexts.{record_pieces}
use Rattle.kds_reply_texts.proofs.records.append_record.Goals as goal

pub returns-clause-ok : goal.returns-clause-ok
returns-clause-ok c =
    let r = c.args.stored.now in
    let arrival : c.seconds.result ≡ r.arrival / 1000 = search rules in
    let payload : c.as_slice.result.now ≡ r.payload = search rules in
    let name : c.as_slice-2.result.now ≡ r.key = search rules in
    let t = c.args.out.now.items in
    let two = more t c.push_piece.new.out.items c.put_decimal.new.out.items _ _ c.in_ok-push_piece.ensures.ok
    c.in_ok-put_decimal.ensures.ok in
    let three = more t c.put_decimal.new.out.items c.push_piece-2.new.out.items _ _ two
    c.in_ok-push_piece-2.ensures.ok in
    let four = more t c.push_piece-2.new.out.items c.put_base64.new.out.items _ _ three c.in_ok-put_base64.ensures.ok in
    let five = more t c.put_base64.new.out.items c.push_piece-3.new.out.items _ _ four
    c.in_ok-push_piece-3.ensures.ok in
    let six = more t c.push_piece-3.new.out.items c.put_replaced.new.out.items _ _ five
    c.in_ok-put_replaced.ensures.ok in
    let seven = more t c.put_replaced.new.out.items c.push_piece-4.new.out.items _ _ six
    c.in_ok-push_piece-4.ensures.ok in
    let eight = more t c.push_piece-4.new.out.items c.put_seq.new.out.items _ _ seven c.in_ok-put_seq.ensures.ok in
    let nine = more t c.put_seq.new.out.items c.push_piece-5.new.out.items _ _ eight c.in_ok-push_piece-5.ensures.ok in
    nine ∙ ap (λ (text : List ℕ). t ++ text)
    (record_pieces r c.seconds.result c.as_slice.result.now c.as_slice-2.result.now arrival payload name)
