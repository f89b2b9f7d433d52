-- Base64 text, decimal numbers and texts that the code tested need no escaping.
use Rattle.std.proofs.Common.{◌≡◌, ℕ, zero, suc, ◌+◌, ◌*◌, ◌/◌, ◌%◌, ◌^◌, ◌<◌, ◌≤◌, Bool, true, false, ◌==◌, ◌||◌}
use Rattle.std.proofs.Common.{nat_lt, List, [], ◌∷◌, ◌++◌, length, refl, ap, ◌∙◌, decimal, arith, slice_index, get_or}
use Rattle.std.proofs.Common.{replicate, IsUtf8}
use Rattle.std.proofs.lemmas.Bool.{or_parts, not-true, eqb-false, ltb-false, ne_eqb, le-ltb}
use Rattle.std.proofs.lemmas.Fmt.{decimal_is_IsNumeral}
use Rattle.std.proofs.lemmas.Str.Parse.{digit_at}
use Rattle.std.proofs.lemmas.List.Sums.{AllPass-from_list_all}
use Rattle.std.proofs.lemmas.Str.{utf8_lossy-IsUtf8, IsUtf8-from_ascii}
use Rattle.std.specs.Prelude.{⊤}
use Rattle.std.specs.Bool.{OnTrue}
use Rattle.std.specs.Str.Lossy.{utf8_lossy}
use Rattle.std.proofs.lemmas.Str.Ascii.{IsAscii-from_reads}
use Rattle.base64.specs.Engines.{standard}
use Rattle.base64.specs.GeneralPurpose.{encode_of}
use Rattle.base64.specs.Rfc4648.{encode_symbols, padding_len}
use Rattle.json.specs.Run.{is_plain}
use Rattle.json.specs.Print.{escape, escape_byte}
use Rattle.json.specs.Written.{PlainBetween}
use Rattle.json.proofs.Printed.Plain.{escape_on_plain}
use Rattle.json.proofs.Printed.Strings.{escape_byte_plain}

-- No byte of the text needs escaping.
abbrev IsPlain : List ℕ → Type 0
IsPlain [] = ⊤
IsPlain (x ∷ xs) = (is_plain x ≡ true) × IsPlain xs

plain-append : (s t : List ℕ) → IsPlain s → IsPlain t → IsPlain (s ++ t)
plain-append [] t h k = k
plain-append (x ∷ s) t h k = (h.0, plain-append s t h.1 k)

plain-replicate : (n x : ℕ) → is_plain x ≡ true → IsPlain (replicate n x)
plain-replicate zero x h = tt
plain-replicate (suc n) x h = (h, plain-replicate n x h)

plain_byte : (x : ℕ) → is_plain x ≡ true → escape_byte x ≡ x ∷ []
plain_byte x h =
    let none = or_parts _ _ (not-true ((x == 34) || (x == 92) || nat_lt x 32) h) in
    let tests = or_parts (x == 34) _ none.0 in
    escape_byte_plain x (eqb-false x 34 tests.0) (eqb-false x 92 tests.1) (ltb-false x 32 none.1)

escape_plain : (s : List ℕ) → IsPlain s → escape s ≡ s
escape_plain [] h = refl
escape_plain (x ∷ xs) h = λ i. plain_byte x h.0 i ++ escape_plain xs h.1 i

-- ---- Base64 text

symbol : (k : ℕ) → k < 64 → is_plain (slice_index standard.encode_table k) ≡ true
symbol k small = AllPass-from_list_all is_plain standard.encode_table refl k 0 small

symbols : (m : List ℕ) → ((k : ℕ) → get_or m k 0 < 256) → IsPlain (encode_symbols standard.encode_table m)
unfolding encode_symbols
symbols [] bytes = tt
symbols (a ∷ []) bytes = let x = bytes 0 in (symbol (a / 4) (omega arith), (symbol (a % 4 * 16) (omega arith), tt))
symbols (a ∷ b ∷ []) bytes =
    let x = bytes 0 in
    let y = bytes 1 in (
      symbol (a / 4) (omega arith),
      (symbol (a % 4 * 16 + b / 16) (omega arith), (symbol (b % 16 * 4) (omega arith), tt)),
    )
symbols (a ∷ b ∷ c ∷ rest) bytes =
    let x = bytes 0 in
    let y = bytes 1 in
    let z = bytes 2 in
    let more = symbols rest (λ k. bytes (suc (suc (suc k)))) in (
      symbol (a / 4) (omega arith),
      (
        symbol (a % 4 * 16 + b / 16) (omega arith),
        (symbol (b % 16 * 4 + c / 64) (omega arith), (symbol (c % 64) (omega arith), more)),
      ),
    )

pub escape-encoded : (m : List ℕ) → ((k : ℕ) → get_or m k 0 < 256)
    → escape (encode_of standard m) ≡ encode_of standard m
escape-encoded m bytes =
    escape_plain (encode_of standard m)
    (plain-append (encode_symbols standard.encode_table m) _ (symbols m bytes)
    (plain-replicate (padding_len (length m)) 61 refl))

-- ---- Decimal numbers

digit : (x : ℕ) → 48 ≤ x → x ≤ 57 → is_plain x ≡ true
digit x low high = rw (ne_eqb x 34 (λ e. omega arith), ne_eqb x 92 (λ e. omega arith), le-ltb x 32 (omega arith)) refl

digits_plain : (s : List ℕ) → ((i : ℕ) → i < length s → (48 ≤ get_or s i 0) × (get_or s i 0 ≤ 57)) → IsPlain s
digits_plain [] h = tt
digits_plain (x ∷ xs) h =
    let first = h 0 (omega arith) in
    (digit x first.0 first.1, digits_plain xs (λ i small. h (suc i) (omega arith)))

pub escape-decimal : (n : ℕ) → n < 2 ^ 64 → escape (decimal n) ≡ decimal n
escape-decimal n small =
    escape_plain (decimal n)
    (digits_plain (decimal n) (λ i inside. digit_at (decimal n) i (decimal_is_IsNumeral n small).0.1 inside))

-- ---- Texts that the code copies into a JSON string unchanged

escape_seen : (plain : Bool) (d : List ℕ) (n : ℕ) → plain ≡ true → length d ≤ n → OnTrue plain (PlainBetween d 0 n)
    → escape d ≡ d
escape_seen true d n is all seen = escape_on_plain true d (λ k low high. seen k low (omega arith))
escape_seen false d n is all seen = absurd (cc)

stands : (d : List ℕ) → IsUtf8 d → escape d ≡ d → escape (utf8_lossy d) ≡ d
stands d text plain = ap escape (utf8_lossy-IsUtf8 d text) ∙ plain

pub plain_ascii : (plain ascii : Bool) (d : List ℕ) (n : ℕ) → plain ≡ true → length d ≤ n
    → OnTrue plain (PlainBetween d 0 n)
    → OnTrue ascii ((k : ℕ) → k < n → get_or d k 0 < 128) → OnTrue ascii (escape (utf8_lossy d) ≡ d)
plain_ascii plain true d n is all seen low =
    stands d (IsUtf8-from_ascii d (IsAscii-from_reads d n all low)) (escape_seen plain d n is all seen)
plain_ascii plain false d n is all seen low = tt

pub plain_text : (plain text : Bool) (d : List ℕ) (n : ℕ) → plain ≡ true → length d ≤ n
    → OnTrue plain (PlainBetween d 0 n)
    → OnTrue text (IsUtf8 d) → OnTrue text (escape (utf8_lossy d) ≡ d)
plain_text plain true d n is all seen text = stands d text (escape_seen plain d n is all seen)
plain_text plain false d n is all seen text = tt
