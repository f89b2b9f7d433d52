-- The pieces appended for a record make its text, and all records with commas make the array's text.
use Rattle.std.proofs.Common.{◌≡◌, ℕ, ◌+◌, ◌-◌, ◌/◌, ◌^◌, ◌<◌, ◌≤◌, Bool, true, List, [], ◌∷◌, ◌++◌, Some, None, Option}
use Rattle.std.proofs.Common.{length, take, drop, map, get_or, refl, sym, ap, ◌∙◌, decimal, codes, arith, append_assoc}
use Rattle.std.proofs.Common.{inl, inr}
use Rattle.std.proofs.lemmas.List.{append-nil, length-append, length-drop, drop_all, drop_more, take_at}
use Rattle.std.proofs.lemmas.Bool.{cases_lt}
use borrow.Rule.Slice.PartMut.{post_of}
use Rattle.std.specs.Str.Lossy.{utf8_lossy}
use Rattle.base64.specs.Engines.{standard}
use Rattle.base64.specs.GeneralPurpose.{encode_of}
use Rattle.base64.specs.Rfc4648.{encoded_size}
use Rattle.json.specs.Token.{Token, string}
use Rattle.json.specs.Print.{print, print_from, escape, escape_byte, quoted}
use Rattle.serde_json.specs.Data.{Data}
use Rattle.serde_json.specs.Written.{compact_text, comma_if, items_text}
use Rattle.serde_json.specs.View.{items_of}
use Rattle.kds_defs.specs.declared.reply.Stored.{Stored}
use Rattle.kds_reply_texts.specs.Records.{record_data}

-- The pieces of a record make its text.
pub record_text : (r : Stored)
    → codes "{\"ApproximateArrivalTimestamp\":"
    ++ (decimal (r.arrival / 1000) ++ (codes ",\"Data\":\"" ++ (escape (encode_of standard r.payload)
    ++ (codes "\",\"PartitionKey\":\""
    ++ (escape (utf8_lossy r.key)
    ++ (codes "\",\"SequenceNumber\":\"" ++ (escape (decimal r.seq) ++ codes "\"}")))))))
    ≡ compact_text (record_data r)
unfolding record_data escape_byte
record_text r = simp append_assoc

pub size_is : (n size : ℕ) (r : Option ℕ) → (encoded_size n true < 2 ^ 64 → r ≡ Some (encoded_size n true))
    → (2 ^ 64 ≤ encoded_size n true → r ≡ None) → r ≡ Some size → size ≡ encoded_size n true
size_is n size r fits long is = elim (cases_lt (encoded_size n true) (2 ^ 64)) [
  | inl short ↦ let e = fits short in cc
  | inr over ↦ let e = long over in absurd (cc)
]

pub written_over : (s new rest old text part : List ℕ) (index size wide k : ℕ) → take index s ≡ old → index ≡ length old
    → length s ≡ index + size → k ≡ length s → size ≡ wide
    → length new ≡ length part → length new + index ≡ length s → new ≡ text ++ drop wide part
    → take k ((take index s ++ (new ++ post_of index (length s - index) s))
    ++ drop (length (take index s ++ (new ++ post_of index (length s - index) s))) rest) ≡ old ++ text
written_over s new rest old text part index size wide k front is long all fits same whole written =
    let over : drop wide part ≡ [] = drop_all wide part (omega arith) in
    let over_all : new ≡ text = written ∙ ap (λ (x : List ℕ). text ++ x) over ∙ append-nil text in
    let past : post_of index (length s - index) s ≡ [] =
    drop_all (length s - index) (drop index s) (omega (arith, length-drop index s)) in
    let bytes : take index s ++ (new ++ post_of index (length s - index) s) ≡ old ++ text =
    rw (front, past, over_all, append-nil) refl in
    let len : length (take index s ++ (new ++ post_of index (length s - index) s)) ≡ k =
    ap length bytes ∙ length-append old text ∙ omega (arith, ap length over_all) in
    take_at _ _ k len ∙ bytes

pub string_text : (old : List ℕ) (ts : List Token) (text : List ℕ) → old ≡ [] → ts ≡ string text ∷ []
    → old ++ print ts ≡ quoted text
unfolding print_from
string_text old ts text nothing is = rw (nothing, is) (append-nil (quoted text))

pub in_pieces : (a b c d e f g h i : List ℕ) → (((((((a ++ b) ++ c) ++ d) ++ e) ++ f) ++ g) ++ h) ++ i ≡ a
    ++ (b ++ (c ++ (d ++ (e ++ (f ++ (g ++ (h ++ i)))))))
in_pieces a b c d e f g h i = simp append_assoc

-- The pieces appended for a record make its text.
pub record_pieces : (r : Stored) (n : ℕ) (payload name : List ℕ) → n ≡ r.arrival / 1000 → payload ≡ r.payload
    → name ≡ r.key
    → (((((((codes "{\"ApproximateArrivalTimestamp\":" ++ decimal n) ++ codes ",\"Data\":\"")
    ++ escape (encode_of standard payload)) ++ codes "\",\"PartitionKey\":\"") ++ escape (utf8_lossy name))
    ++ codes "\",\"SequenceNumber\":\"") ++ escape (decimal r.seq)) ++ codes "\"}" ≡ compact_text (record_data r)
record_pieces r n payload name is_n is_payload is_name =
    rw (is_n, is_payload, is_name)
    (in_pieces (codes "{\"ApproximateArrivalTimestamp\":") (decimal (r.arrival / 1000)) (codes ",\"Data\":\"")
    (escape (encode_of standard r.payload))
    (codes "\",\"PartitionKey\":\"") (escape (utf8_lossy r.key)) (codes "\",\"SequenceNumber\":\"")
    (escape (decimal r.seq)) (codes "\"}")
    ∙ record_text r)

-- ---- The elements of an array, one after another

-- The elements so far and those to come still make the array after one more is appended.
pub next_item : {A : Type 0} (f : A → Data) (xs : List A) (i : ℕ) (x : A) (later : Bool) (out parted more all : List ℕ)
    → i < length xs → x ≡ get_or xs i x
    → parted ≡ out ++ comma_if later → more ≡ parted ++ compact_text (f x)
    → out ++ items_text later (items_of (map f (drop i xs))) ≡ all
    → more ++ items_text true (items_of (map f (drop (i + 1) xs))) ≡ all
next_item f xs i x later out parted more all inside is comma text whole =
    let rest = items_text true (items_of (map f (drop (i + 1) xs))) in
    let here : drop i xs ≡ x ∷ drop (i + 1) xs = drop_more xs i x inside ∙ ap (λ y. y ∷ drop (i + 1) xs) (sym is) in
    let joined : more ++ rest ≡ out ++ (comma_if later ++ (compact_text (f x) ++ rest)) =
    ap (λ (s : List ℕ). s ++ rest) (text ∙ ap (λ (s : List ℕ). s ++ compact_text (f x)) comma)
    ∙ append_assoc (out ++ comma_if later) (compact_text (f x)) rest
    ∙ append_assoc out (comma_if later) (compact_text (f x) ++ rest) in
    joined ∙ ap (λ ys. out ++ items_text later (items_of (map f ys))) (sym here) ∙ whole

pub last_item : {A : Type 0} (f : A → Data) (xs : List A) (i : ℕ) (later : Bool) (out all : List ℕ)
    → length xs ≤ i → out ++ items_text later (items_of (map f (drop i xs))) ≡ all → out ++ 93 ∷ [] ≡ all
last_item f xs i later out all past whole =
    ap (λ ys. out ++ items_text later (items_of (map f ys))) (sym (drop_all i xs past)) ∙ whole
