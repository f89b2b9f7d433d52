-- A text written over bytes of a vector replaces them, and what is so written for a record is its text.
use Rattle.std.proofs.Common.{◌≡◌, ℕ, ◌+◌, ◌/◌, ◌≤◌, true, List, ◌++◌, length, take, drop, replicate, subst, ap, ◌∙◌}
use Rattle.std.proofs.Common.{decimal, codes, arith, append_assoc}
use Rattle.std.proofs.lemmas.List.{length-append, length-replicate, length-take-le, take_at}
use borrow.Rule.Slice.PartMut.{put_mid, post_of}
use Rattle.std.specs.Str.Lossy.{utf8_lossy}
use Rattle.base64.specs.Engines.{standard}
use Rattle.base64.specs.GeneralPurpose.{encode_of, IsEncodedOver}
use Rattle.base64.specs.declared.engine.general_purpose.GeneralPurpose.{GeneralPurpose}
use Rattle.base64.specs.Rfc4648.{encode_symbols, encoded_size, padding_len}
use Rattle.base64.proofs.RoundTrip.{length-encode_symbols}
use Rattle.json.specs.Print.{escape}
use Rattle.serde_json.specs.Written.{compact_text}
use Rattle.kds_defs.specs.declared.reply.Stored.{Stored}
use Rattle.kds_reply_texts.specs.Records.{record_data}
use Rattle.kds_reply_texts.specs.Room.{front_text, written_record}
use Rattle.kds_reply_texts.proofs.RecordTexts.{record_text}
use Rattle.kds_reply_texts.proofs.BatchTexts.{in_pieces}

pub length-encoded : (m : List ℕ) → length (encode_of standard m) ≡ encoded_size (length m) true
length-encoded m =
    let symbols = encode_symbols standard.encode_table m in
    let padding : List ℕ = replicate (padding_len (length m)) 61 in
    let size : length padding ≡ padding_len (length m) = length-replicate {A = ℕ} (padding_len (length m)) 61 in
    omega (arith, length-append symbols padding, length-encode_symbols standard.encode_table m)

pub over_part : (a k n : ℕ) (xs ys text rest : List ℕ) → ys ≡ text ++ rest → a ≤ length xs → n ≡ a + length text
    → take n (put_mid a k xs ys) ≡ take a xs ++ text
over_part a k n xs ys text rest is inside end =
    let joined : put_mid a k xs ys ≡ (take a xs ++ text) ++ (rest ++ post_of a k xs) = rw is (simp append_assoc) in
    let size : length (take a xs ++ text) ≡ n =
    omega (arith, length-append (take a xs) text, length-take-le a xs inside) in
    ap (λ (s : List ℕ). take n s) joined ∙ take_at _ _ n size

front_first : (a b c rest : List ℕ) → (a ++ (b ++ c)) ++ rest ≡ a ++ (b ++ (c ++ rest))
front_first a b c rest = simp append_assoc

-- What is written from a record's three parts is the record's text.
pub record_over : (r : Stored) (front payload name : List ℕ)
    → front ≡ front_text (r.arrival / 1000) → payload ≡ r.payload → name ≡ escape (utf8_lossy r.key)
    → written_record front payload name r.seq ≡ compact_text (record_data r)
unfolding front_text written_record
record_over r front payload name is_front is_payload is_name =
    rw (is_front, is_payload, is_name)
    (front_first (codes "{\"ApproximateArrivalTimestamp\":") (decimal (r.arrival / 1000)) (codes ",\"Data\":\"") _
    ∙ record_text r)

-- The pieces written for a record are `written_record`.
pub record_in_pieces : (front payload name : List ℕ) (seq : ℕ)
    → (((((front ++ escape (encode_of standard payload)) ++ codes "\",\"PartitionKey\":\"") ++ name)
    ++ codes "\",\"SequenceNumber\":\"") ++ escape (decimal seq)) ++ codes "\"}"
    ≡ written_record front payload name seq
unfolding written_record
record_in_pieces front payload name seq =
    in_pieces front (escape (encode_of standard payload)) (codes "\",\"PartitionKey\":\"") name
    (codes "\",\"SequenceNumber\":\"") (escape (decimal seq)) (codes "\"}")

pub encoded_by : (e : GeneralPurpose) (m old new : List ℕ) → e ≡ standard → IsEncodedOver e m old new
    → IsEncodedOver standard m old new
encoded_by e m old new is written = subst (λ (g : GeneralPurpose). IsEncodedOver g m old new) is written

pub over_vec : (e k : ℕ) (new items : List ℕ) → length new ≡ k → take e (take k (new ++ drop (length new) items))
    ≡ take e new
over_vec e k new items size = ap (λ (s : List ℕ). take e s) (take_at new _ k size)
