-- Tokens and what they stand for: a round trip, and no other text is read.
use Rattle.std.proofs.Common.{◌≡◌, ◌≢◌, ℕ, zero, suc, List, [], ◌∷◌, ◌++◌, Bool, true, false, Option, Some, None, refl}
use Rattle.std.proofs.Common.{sym, ap, ◌∙◌, arith, codes, decimal, subst}
use Rattle.std.specs.Prelude.{if◌then◌else◌, slice_index}
use Rattle.std.specs.Result.{result_ok}
use Rattle.std.specs.declared.result.Result.{Result}
use Rattle.std.specs.declared.result.Result.TheVariants.{Ok, Err}
use Rattle.std.specs.Str.{bytes_eq}
use Rattle.std.proofs.lemmas.Slice.Eq.{bytes_eq-Decides}
use Rattle.std.proofs.lemmas.Option.{same_Some}
use Rattle.base64.specs.Engines.{standard}
use Rattle.base64.specs.GeneralPurpose.{IsBytes, decode_of, decoded_of, encode_of}
use Rattle.base64.proofs.EngineFacts.{decode_of-encode_of, decode_of_strict}
use Rattle.kds_base.specs.NumberText.{number_of}
use Rattle.kds_base.proofs.NumberLemmas.{decimal_of_number, number_of_decimal}
use Rattle.kds_defs.specs.declared.reply.Iter.{Iter}
use Rattle.kds_defs.specs.declared.reply.Page.{Page}
use Rattle.kds_base.specs.Moments.{moment_of}
use Rattle.kds_token.specs.Fields.{◌>>=◌, field}
use Rattle.kds_token.specs.Tokens.{iter_text, iter_token, IsIter, ReadsAsIter, iter_from, iter_in, iter_of, page_text}
use Rattle.kds_token.specs.Tokens.{page_token, IsPage, ReadsAsPage, page_from, page_in, page_of}
use Rattle.kds_base.proofs.MomentLemmas.{moment_spells, moment_again}
use Rattle.kds_token.proofs.FieldLemmas.{field_at, field_spells, bind_some}
use Rattle.kds_token.proofs.FieldLemmas.{decimal_no_colon, AreSmall, decimal_small, small-append}

-- ---- Base64

pub small_bytes : (bs : List ℕ) → AreSmall bs → IsBytes bs
small_bytes [] h i = omega arith
small_bytes (b ∷ bs) h zero = h.0
small_bytes (b ∷ bs) h (suc i) = small_bytes bs h.1 i

decoded_again : (bs : List ℕ) → AreSmall bs → decoded_of standard (encode_of standard bs) ≡ Some bs
unfolding decoded_of
decoded_again bs small = ap result_ok (decode_of-encode_of standard bs refl (small_bytes bs small))

ok_from : {T E : Type 0} (r : Result T E) (x : T) → result_ok r ≡ Some x → r ≡ Ok x
ok_from (Ok y) x h = let e : y ≡ x = cc in ap Ok e
ok_from (Err y) x h = absurd (cc)

decoded_spells : (text bs : List ℕ) → IsBytes text → decoded_of standard text ≡ Some bs → text ≡ encode_of standard bs
unfolding decoded_of
decoded_spells text bs bytes h =
    decode_of_strict standard text bs (refl, refl) bytes (ok_from (decode_of standard text) bs h)

-- ---- Fields

three_fields : {a b c x y z : List ℕ} → a ≡ x → b ≡ y → c ≡ z → a ++ 58 ∷ (b ++ 58 ∷ c) ≡ x ++ 58 ∷ (y ++ 58 ∷ z)
three_fields p q r = rw (p, q, r) refl

four_fields : {a b c d w x y z : List ℕ} → a ≡ w → b ≡ x → c ≡ y → d ≡ z
    → a ++ 58 ∷ (b ++ 58 ∷ (c ++ 58 ∷ d)) ≡ w ++ 58 ∷ (x ++ 58 ∷ (y ++ 58 ∷ z))
four_fields p q r s = rw (p, q, r, s) refl

-- ---- Shard iterators

kind_is : {A : Type 0} (b : Bool) (x y : List ℕ) (o : Option A) (z : A) → bytes_eq x y ≡ b
    → (if b then o else None) ≡ Some z → (x ≡ y) × (o ≡ Some z)
kind_is true x y o z e h = ((bytes_eq-Decides x y).0 e, h)
kind_is false x y o z e h = absurd (cc)

pub iter_small : (i : Iter) → IsIter i → AreSmall (iter_text i)
iter_small i is =
    let issued = decimal_small i.issued (omega (arith, is.issued)) in
    let position = small-append (decimal i.position) (58 ∷ decimal i.issued) (decimal_small i.position is.position)
    (omega arith, issued) in
    let shard = small-append (decimal i.shard) (58 ∷ (decimal i.position ++ 58 ∷ decimal i.issued))
    (decimal_small i.shard is.shard) (omega arith, position) in
    let stream = small-append (decimal i.stream)
    (58 ∷ (decimal i.shard ++ 58 ∷ (decimal i.position ++ 58 ∷ decimal i.issued)))
    (decimal_small i.stream is.stream) (omega arith, shard) in
    (omega arith, (omega arith, (omega arith, (omega arith, stream))))

iter_from_again : (i : Iter) → IsIter i
    → iter_from (decimal i.stream) (decimal i.shard) (decimal i.position) (decimal i.issued) ≡ Some i
unfolding iter_from
iter_from_again i is =
    rw (
      number_of_decimal i.stream is.stream,
      number_of_decimal i.shard is.shard,
      number_of_decimal i.position is.position,
      moment_again i.issued is.issued,
    ) refl

iter_again : (i : Iter) → IsIter i → iter_in (iter_text i) ≡ Some i
unfolding iter_in
iter_again i is =
    rw (
      field_at (decimal i.stream) (decimal i.shard ++ 58 ∷ (decimal i.position ++ 58 ∷ decimal i.issued))
          (decimal_no_colon i.stream is.stream),
      field_at (decimal i.shard) (decimal i.position ++ 58 ∷ decimal i.issued) (decimal_no_colon i.shard is.shard),
      field_at (decimal i.position) (decimal i.issued) (decimal_no_colon i.position is.position),
    ) (iter_from_again i is)

-- The four texts with colons between them are the decimal numbers of the iterator, which are in range.
abbrev IsIterOf : List ℕ → List ℕ → List ℕ → List ℕ → Iter → Type 0
IsIterOf stream shard position issued i =
    IsIter i × (stream ++ 58 ∷ (shard ++ 58 ∷ (position ++ 58 ∷ issued)) ≡ decimal i.stream
    ++ 58 ∷ (decimal i.shard ++ 58 ∷ (decimal i.position ++ 58 ∷ decimal i.issued)))

iter_from_spells : (stream shard position issued : List ℕ) (i : Iter) → iter_from stream shard position issued ≡ Some i
    → IsIterOf stream shard position issued i
unfolding iter_from
iter_from_spells stream shard position issued i h =
    let a = bind_some (number_of 64 stream) _ i h in
    let b = bind_some (number_of 64 shard) _ i a.2 in
    let d = bind_some (number_of 64 position) _ i b.2 in
    let e = bind_some (moment_of issued) _ i d.2 in
    let same : record { stream = a.0; shard = b.0; position = d.0; issued = e.0 } ≡ i = cc e.2 in
    let s = decimal_of_number stream a.0 a.1 in
    let t = decimal_of_number shard b.0 b.1 in
    let u = decimal_of_number position d.0 d.1 in
    let v = moment_spells issued e.0 e.1 in
    subst (IsIterOf stream shard position issued) same (
      record { stream = s.1; shard = t.1; position = u.1; issued = v.1 },
      four_fields s.0 t.0 u.0 v.0,
    )

iter_spells : (text : List ℕ) (i : Iter) → iter_in text ≡ Some i → IsIter i × (text ≡ iter_text i)
unfolding iter_in
iter_spells text i h =
    let a = bind_some (field text) _ i h in
    let b = bind_some (field a.0.1) _ i a.2 in
    let d = bind_some (field b.0.1) _ i b.2 in
    let e = bind_some (field d.0.1) _ i d.2 in
    let k = kind_is _ a.0.0 (codes "KI1") _ i refl e.2 in
    let f = iter_from_spells b.0.0 d.0.0 e.0.0 e.0.1 i k.1 in
    let fa = field_spells text a.0 a.1 in
    let fb = field_spells a.0.1 b.0 b.1 in
    let fd = field_spells b.0.1 d.0 d.1 in
    let fe = field_spells d.0.1 e.0 e.1 in
    let rest : a.0.1 ≡ b.0.0 ++ 58 ∷ (d.0.0 ++ 58 ∷ (e.0.0 ++ 58 ∷ e.0.1)) =
    fb.0 ∙ ap (λ z. b.0.0 ++ 58 ∷ z) (fd.0 ∙ ap (λ z. d.0.0 ++ 58 ∷ z) fe.0) in
    (f.0, fa.0 ∙ ap (λ z. z ++ 58 ∷ a.0.1) k.0 ∙ ap (λ z. codes "KI1:" ++ z) (rest ∙ f.1))

iter_reads : (text : List ℕ) (i : Iter) → IsIter i → text ≡ iter_token i → iter_of text ≡ Some i
iter_reads text i is e = ap iter_of e ∙ ap (λ o. o >>= iter_in) (decoded_again (iter_text i) (iter_small i is))
    ∙ iter_again i is

pub iter_reads_as : (text : List ℕ) (o : Option Iter) → IsBytes text → iter_of text ≡ o → ReadsAsIter text o
iter_reads_as text None bytes e = λ i is token. let bad : None ≡ Some i = sym e ∙ iter_reads text i is token in cc bad
iter_reads_as text (Some i) bytes e =
    let a = bind_some (decoded_of standard text) iter_in i e in
    let s = iter_spells a.0 i a.2 in
    (s.0, decoded_spells text a.0 bytes a.1 ∙ ap (encode_of standard) s.1)

-- The reading of tokens of iterators is exact.
pub iter_exact : (text : List ℕ) → IsBytes text → ReadsAsIter text (iter_of text)
iter_exact text bytes = iter_reads_as text (iter_of text) bytes refl

pub one_iter : (i j : Iter) → IsIter i → IsIter j → iter_token i ≡ iter_token j → i ≡ j
one_iter i j is js e = same_Some i j (sym (iter_reads (iter_token i) i is refl) ∙ iter_reads (iter_token i) j js e)

-- ---- Places in a listing

page_small : (p : Page) → IsPage p → AreSmall (page_text p)
page_small p is =
    let issued = decimal_small p.issued (omega (arith, is.issued)) in
    let after = small-append (decimal p.after) (58 ∷ decimal p.issued) (decimal_small p.after is.after) (
      omega arith,
      issued,
    ) in
    let stream = small-append (decimal p.stream) (58 ∷ (decimal p.after ++ 58 ∷ decimal p.issued))
    (decimal_small p.stream is.stream) (omega arith, after) in
    (omega arith, (omega arith, (omega arith, (omega arith, stream))))

page_from_again : (p : Page) → IsPage p → page_from (decimal p.stream) (decimal p.after) (decimal p.issued) ≡ Some p
unfolding page_from
page_from_again p is =
    rw (number_of_decimal p.stream is.stream, number_of_decimal p.after is.after, moment_again p.issued is.issued) refl

page_again : (p : Page) → IsPage p → page_in (page_text p) ≡ Some p
unfolding page_in
page_again p is =
    rw (
      field_at (decimal p.stream) (decimal p.after ++ 58 ∷ decimal p.issued) (decimal_no_colon p.stream is.stream),
      field_at (decimal p.after) (decimal p.issued) (decimal_no_colon p.after is.after),
    ) (page_from_again p is)

-- The three texts with colons between them are the decimal numbers of the place, which are in range.
abbrev IsPageOf : List ℕ → List ℕ → List ℕ → Page → Type 0
IsPageOf stream after issued p =
    IsPage p × (stream ++ 58 ∷ (after ++ 58 ∷ issued) ≡ decimal p.stream
    ++ 58 ∷ (decimal p.after ++ 58 ∷ decimal p.issued))

page_from_spells : (stream after issued : List ℕ) (p : Page) → page_from stream after issued ≡ Some p
    → IsPageOf stream after issued p
unfolding page_from
page_from_spells stream after issued p h =
    let a = bind_some (number_of 64 stream) _ p h in
    let b = bind_some (number_of 64 after) _ p a.2 in
    let d = bind_some (moment_of issued) _ p b.2 in
    let same : record { stream = a.0; after = b.0; issued = d.0 } ≡ p = cc d.2 in
    let s = decimal_of_number stream a.0 a.1 in
    let t = decimal_of_number after b.0 b.1 in
    let u = moment_spells issued d.0 d.1 in
    subst (IsPageOf stream after issued) same (
      record { stream = s.1; after = t.1; issued = u.1 },
      three_fields s.0 t.0 u.0,
    )

page_spells : (text : List ℕ) (p : Page) → page_in text ≡ Some p → IsPage p × (text ≡ page_text p)
unfolding page_in
page_spells text p h =
    let a = bind_some (field text) _ p h in
    let b = bind_some (field a.0.1) _ p a.2 in
    let d = bind_some (field b.0.1) _ p b.2 in
    let k = kind_is _ a.0.0 (codes "KT1") _ p refl d.2 in
    let f = page_from_spells b.0.0 d.0.0 d.0.1 p k.1 in
    let fa = field_spells text a.0 a.1 in
    let fb = field_spells a.0.1 b.0 b.1 in
    let fd = field_spells b.0.1 d.0 d.1 in
    let rest : a.0.1 ≡ b.0.0 ++ 58 ∷ (d.0.0 ++ 58 ∷ d.0.1) = fb.0 ∙ ap (λ z. b.0.0 ++ 58 ∷ z) fd.0 in
    (f.0, fa.0 ∙ ap (λ z. z ++ 58 ∷ a.0.1) k.0 ∙ ap (λ z. codes "KT1:" ++ z) (rest ∙ f.1))

page_reads : (text : List ℕ) (p : Page) → IsPage p → text ≡ page_token p → page_of text ≡ Some p
page_reads text p is e = ap page_of e ∙ ap (λ o. o >>= page_in) (decoded_again (page_text p) (page_small p is))
    ∙ page_again p is

pub page_reads_as : (text : List ℕ) (o : Option Page) → IsBytes text → page_of text ≡ o → ReadsAsPage text o
page_reads_as text None bytes e = λ p is token. let bad : None ≡ Some p = sym e ∙ page_reads text p is token in cc bad
page_reads_as text (Some p) bytes e =
    let a = bind_some (decoded_of standard text) page_in p e in
    let s = page_spells a.0 p a.2 in
    (s.0, decoded_spells text a.0 bytes a.1 ∙ ap (encode_of standard) s.1)

-- The reading of tokens of places is exact.
pub page_exact : (text : List ℕ) → IsBytes text → ReadsAsPage text (page_of text)
page_exact text bytes = page_reads_as text (page_of text) bytes refl

pub one_page : (p q : Page) → IsPage p → IsPage q → page_token p ≡ page_token q → p ≡ q
one_page p q is js e = same_Some p q (sym (page_reads (page_token p) p is refl) ∙ page_reads (page_token p) q js e)

-- ---- No token is of both kinds

texts_apart : (a b : List ℕ) → codes "KI1:" ++ a ≡ codes "KT1:" ++ b → ⊥
texts_apart a b h = let e : ◌≡◌ {A = ℕ} 73 84 = ap (λ (l : List ℕ). slice_index l 1) h in absurd (omega arith)

pub tokens_apart : (i : Iter) (p : Page) → IsIter i → IsPage p → iter_token i ≢ page_token p
tokens_apart i p is js e =
    texts_apart _ _ (same_Some (iter_text i) (page_text p) (sym (decoded_again (iter_text i) (iter_small i is))
    ∙ ap (decoded_of standard) e ∙ decoded_again (page_text p) (page_small p js)))
