use Rattle.std.proofs.Common.{◌++◌, ◌∷◌, [], take, ℕ, List, refl, sym, ap, ◌∙◌, append_assoc, arith}
use Rattle.serde_json.specs.Written.{comma_if, compact_text}
use Rattle.kds_reply_texts.specs.Records.{record_data}
use Rattle.kds_reply_texts.proofs.Fronts.{end_after, front_cut, front_up_to}
use Rattle.kds_reply_texts.proofs.RecordTexts.{next_item, last_item}
use Rattle.kds_reply_texts.proofs.records.fill_records.Goals as goal

pub loop-stored-preserved : goal.loop-stored-preserved
loop-stored-preserved c =
    let l = c.loop-stored in
    let earlier = take l.at l.out.items in
    let added = c.in_ok-at.ensures.text
    ∙ sym (append_assoc earlier (comma_if l.later) (compact_text (record_data c.stored-item.result))) in
    record {
      within = c.in_ok-at.ensures.within;
      short = c.renew_front-size.ensures.within;
      front = c.renew_front-size.ensures.text;
      before = front_up_to _ l.at _ l.out.items _ l.invariant.longer l.invariant.before c.add_record.ensures.front;
      longer = omega (
        arith,
        l.invariant.longer,
        end_after l.at c.in_ok-at.at l.out.items c.add_record.new.out.items _
            (omega (arith, l.invariant.within)) c.in_ok-at.ensures.text,
      );
      text = next_item record_data c.args.batch.now l.stored-index c.stored-item.result l.later earlier
          (earlier ++ comma_if l.later) _ _
          c.loop-stored-test.true c.stored-item.is refl added l.invariant.text;
    }

pub returns-in_err-at-clause-front : goal.returns-in_err-at-clause-front
returns-in_err-at-clause-front c =
    let l = c.loop-stored in
    front_up_to _ l.at _ l.out.items _ l.invariant.longer l.invariant.before c.add_record.ensures.front

pub returns-in_err-push_piece-2-clause-front : goal.returns-in_err-push_piece-2-clause-front
returns-in_err-push_piece-2-clause-front c =
    let l = c.loop-stored in
    front_cut _ l.at _ _ l.out.items c.truncate.new.self.items _ (omega arith) (omega arith) l.invariant.longer
    l.invariant.before c.truncate.ensures.items c.push_piece-2.ensures.front

pub returns-clause-front : goal.returns-clause-front
returns-clause-front c =
    let l = c.loop-stored in
    front_cut _ l.at _ _ l.out.items c.truncate.new.self.items _ (omega arith) (omega arith) l.invariant.longer
    l.invariant.before c.truncate.ensures.items c.push_piece-2.ensures.front

pub returns-clause-ok : goal.returns-clause-ok
returns-clause-ok c =
    let l = c.loop-stored in
    c.in_ok-push_piece-2.ensures.ok ∙ ap (λ (s : List ℕ). s ++ 93 ∷ []) c.truncate.ensures.items
    ∙ last_item record_data c.args.batch.now l.stored-index l.later (take l.at l.out.items) _ c.loop-stored-test.false
    l.invariant.text
