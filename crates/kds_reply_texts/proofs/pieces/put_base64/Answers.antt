use Rattle.std.proofs.Common.{◌≡◌, ◌+◌, ◌-◌, true, List, ℕ, length, take, drop, ap, sym, ◌++◌, ◌∙◌, arith}
use Rattle.std.proofs.lemmas.List.{length-take, length-drop}
use Rattle.base64.specs.Engines.{standard}
use Rattle.base64.specs.GeneralPurpose.{encode_of}
use Rattle.base64.specs.Rfc4648.{encoded_size}
use Rattle.kds_reply_texts.proofs.PlainTexts.{escape-encoded}
use Rattle.kds_reply_texts.proofs.RecordTexts.{size_is, written_over}
use Rattle.kds_reply_texts.proofs.pieces.put_base64.Goals as goal

pub returns-clause-ok : goal.returns-clause-ok
returns-clause-ok c =
    let old = c.args.out.now.items in
    let bytes = c.args.bytes.now in
    let s : List ℕ = c.as_mut_slice.result.now in
    let index : ℕ = c.len-at.result in
    let new : List ℕ = c.encode_slice.new.output in
    let made : List ℕ = c.push_zeros.new.out.items in
    let size = size_is (length bytes) c.in-Some.size _ c.encoded_len.ensures.fits c.encoded_len.ensures.too_long
    c.in-Some.is in
    let front : take index s ≡ old =
    ap (λ (x : List ℕ). take index x) c.as_mut_slice.ensures.value ∙ ap (λ (n : ℕ). take n made) c.len-at.ensures
    ∙ c.push_zeros.ensures.front in
    let begun = c.len-at.ensures in
    let sizes = c.as_mut_slice.ensures.len in
    let grown = c.in_ok-push_zeros.ensures.len in
    let same = c.encode_slice.auto.output in
    let whole : length new + index ≡ length s =
    omega (arith, length-take (length s - index) (drop index s), length-drop index s) in
    written_over s new made old (encode_of standard bytes) _ index c.in-Some.size (encoded_size (length bytes) true)
    c.push_zeros.new.out.len front (omega arith) (omega arith) (omega arith) size same whole
    c.in-Ok.ensures.written
    ∙ ap (λ (text : List ℕ). old ++ text) (sym (escape-encoded bytes (λ k. omega (arith, c.type_inv.bytes k))))
