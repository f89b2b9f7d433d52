use Rattle.std.proofs.Common.{◌≡◌, ◌≤◌, ◌++◌, List, ℕ, length, take, ap, sym, ◌∙◌, arith, rules}
use Rattle.std.specs.Str.Lossy.{utf8_lossy}
use Rattle.json.specs.Print.{escape}
use Rattle.serde_json.specs.Written.{comma_if}
use Rattle.kds_reply_texts.proofs.Fronts.{front_under, front_within}
use Rattle.kds_reply_texts.proofs.Joined.{more}
use Rattle.kds_reply_texts.proofs.RoomTexts.{over_vec, record_over}
use Rattle.kds_reply_texts.proofs.records.add_record.Goals as goal

pub returns-clause-front : goal.returns-clause-front
returns-clause-front c =
    let s = c.as_mut_slice-buffer.result.now in
    let is_before : take c.args.at s ≡ take c.args.at c.args.out.now.items =
    ap (λ (x : List ℕ). take c.args.at x) c.as_mut_slice-buffer.ensures.value ∙ c.ensure_length.ensures.front in
    let fits : c.args.at ≤ length s =
    omega (arith, c.as_mut_slice-buffer.ensures.len, c.in_ok-ensure_length.ensures.room) in
    let written = more (take c.args.at s) _ _ _ _ c.write_comma-at.ensures.text c.write_record.ensures.text in
    front_within c.args.at c.ensure_length.new.out.len c.write_record.new.buffer _
    (omega (arith, c.in_ok-ensure_length.ensures.room))
    (omega (arith, c.write_record.ensures.len, c.write_comma-at.ensures.len))
    ∙ front_under c.args.at c.write_record.result s c.write_record.new.buffer _ fits written ∙ is_before

pub returns-clause-text : goal.returns-clause-text
returns-clause-text c =
    let r = c.args.stored.now in
    let t = take c.args.at c.args.out.now.items in
    let payload : c.as_slice-payload.result.now ≡ r.payload = search rules in
    let name : c.as_slice-key.result.now ≡ r.key = search rules in
    let key : c.as_slice-key.result.now ≡ escape (utf8_lossy r.key) =
    sym c.if-not-stands_as_it_is.ensures ∙ ap (λ (k : List ℕ). escape (utf8_lossy k)) name in
    let front : take c.args.at c.as_mut_slice-buffer.result.now ≡ t =
    ap (λ (s : List ℕ). take c.args.at s) c.as_mut_slice-buffer.ensures.value ∙ c.ensure_length.ensures.front in
    let same : length c.write_record.new.buffer ≡ c.ensure_length.new.out.len =
    omega (arith, c.write_record.ensures.len, c.write_comma-at.ensures.len, c.as_mut_slice-buffer.ensures.len) in
    let parted = c.write_comma-at.ensures.text ∙ ap (λ (s : List ℕ). s ++ comma_if c.args.later) front in
    over_vec c.write_record.result c.ensure_length.new.out.len c.write_record.new.buffer c.ensure_length.new.out.items
    same
    ∙ more t _ _ _ _ parted c.write_record.ensures.text
    ∙ ap (λ (s : List ℕ). t ++ (comma_if c.args.later ++ s))
    (record_over r c.args.front.now c.as_slice-payload.result.now c.as_slice-key.result.now c.requires.front payload
    key)
