-- Each number has exactly one text without needless leading zeros; a text is read digit by digit.
use Rattle.std.proofs.Common.{decimal, sym, ap, ◌∙◌, subst, get_or, take, Some, None, zero, suc, inl, inr, ◌⊎◌, ◌≡◌, ℕ}
use Rattle.std.proofs.Common.{◌+◌, ◌-◌, ◌*◌, ◌/◌, ◌%◌, ◌^◌, ◌<◌, ◌≤◌, List, [], ◌∷◌, ◌++◌, length, Bool, true, false}
use Rattle.std.proofs.Common.{refl, arith, rules}
use Rattle.std.proofs.lemmas.Grind.{common_steps}
use Rattle.std.proofs.lemmas.Bool.Decides.{nat_tests}
use Rattle.std.proofs.lemmas.Int.Digits.{digits_value_more}
use Rattle.std.proofs.lemmas.List.Folds.{list_all_more}
use Rattle.std.specs.Prelude.{◌&&◌, ◌==◌, nat_lt, slice_index, if◌then◌else◌}
use Rattle.std.proofs.lemmas.Str.Parse.{IsNumeralModel, numerals_by_value, digits_value-take-le}
use Rattle.std.proofs.lemmas.Fmt.{decimal_digit, decimal_step_wide, decimal_by_steps_wide, decimal_is_IsNumeral_wide}
use Rattle.std.proofs.lemmas.List.{append_assoc, append-nil, length-append}
use Rattle.std.proofs.lemmas.Str.{digit_value_digit}
use Rattle.std.proofs.lemmas.Str.Parse.{digit_from_value}
use Rattle.std.proofs.Math.ListN.{get_or-append}
use Rattle.std.proofs.Math.Pow.{pow_mono}
use Rattle.std.specs.Char.{digit_value, is_ascii_digit}
use Rattle.std.specs.List.{list_all}
use Rattle.std.specs.Str.Parse.{AllDigits, digits_value, digits_value_after}
use Rattle.kds_base.specs.NumberText.{are_digits, digits_of, is_plain, number_of}

-- Each byte of the text is a decimal digit.
abbrev pub IsDigits : List ℕ → Type 0
IsDigits ds = list_all is_ascii_digit ds ≡ true

-- Lets the lemmas of std on numerals apply to texts of digits.
pub own : IsNumeralModel IsDigits (digits_value 10)
own = numerals_by_value IsDigits (search rules)

pub plain_digits : (text : List ℕ) → is_plain text ≡ true → IsDigits text × (0 < length text)
plain_digits text p = (grind (arith, common_steps), grind (arith, common_steps))

-- ---- One text for each number

pub plain_first : (text : List ℕ) → is_plain text ≡ true → get_or text 0 0 ≡ 48 → length text ≡ 1
plain_first text p z = grind (arith, common_steps)

pub few_digits : (bits n : ℕ) → bits ≤ 128 → n < 2 ^ bits → n < 10 ^ 64
few_digits bits n few small = let most : 2 ^ bits ≤ 2 ^ 128 = pow_mono few in omega arith

le_value_after : (n : ℕ) (ds : List ℕ) → n ≤ digits_value_after 10 n ds
le_value_after n [] = omega arith
le_value_after n (c ∷ cs) = omega (arith, le_value_after (n * 10 + digit_value c) cs)

value_after : (n : ℕ) (ds : List ℕ) → 0 < n → AllDigits 10 ds → digits_value_after 10 n ds < 10 ^ 64
    → decimal (digits_value_after 10 n ds) ≡ decimal n ++ ds
value_after n [] some d small = sym (append-nil (decimal n))
value_after n (c ∷ cs) some d small =
    let m : ℕ = n * 10 + digit_value c in
    let k = digit_value_digit c (digit_from_value c d.0) in
    let front : m / 10 ≡ n = omega (arith, d.0) in
    let end : 48 + m % 10 ≡ c = omega (arith, d.0) in
    value_after m cs (omega arith) d.1 small
    ∙ ap (λ x. x ++ cs) (decimal_step_wide m (omega arith) (omega (arith, le_value_after m cs))
    ∙ (λ i. decimal (front i) ++ (end i ∷ [])))
    ∙ append_assoc (decimal n) (c ∷ []) cs

value_digits : (ds : List ℕ) → AllDigits 10 ds → 0 < length ds → (get_or ds 0 0 ≡ 48 → length ds ≡ 1)
    → digits_value 10 ds < 10 ^ 64 → decimal (digits_value 10 ds) ≡ ds
value_digits [] d some lead small = absurd (omega arith)
value_digits (c ∷ []) d some lead small =
    let k = digit_value_digit c (digit_from_value c d.0) in
    decimal_digit (0 * 10 + digit_value c) (omega (arith, d.0)) ∙ ap (λ x. x ∷ []) (omega arith)
value_digits (c ∷ e ∷ cs) d some lead small =
    let k = digit_value_digit c (digit_from_value c d.0) in
    let other : c ≡ 48 → ⊥ = λ z. omega (arith, lead z) in
    let is : 48 + (0 * 10 + digit_value c) ≡ c = omega arith in
    value_after (0 * 10 + digit_value c) (e ∷ cs) (omega arith) d.1 small
    ∙ ap (λ x. x ++ (e ∷ cs)) (decimal_digit (0 * 10 + digit_value c) (omega (arith, d.0)) ∙ ap (λ x. x ∷ []) is)

pub fits : (bits n : ℕ) (text : List ℕ) → number_of bits text ≡ Some n → n < 2 ^ bits
fits bits n text h =
    let small : digits_value 10 text < 2 ^ bits = grind (arith, common_steps) in
    let v : digits_value 10 text ≡ n = grind (arith, common_steps) in
    subst (λ (z : ℕ). z < 2 ^ bits) v small

-- A number's text without needless leading zeros is its one spelling.
pub spells : (bits n : ℕ) (text : List ℕ) → bits ≤ 128 → number_of bits text ≡ Some n → text ≡ decimal n
spells bits n text few h =
    let p : is_plain text ≡ true = grind (arith, common_steps) in
    let small : digits_value 10 text < 2 ^ bits = grind (arith, common_steps) in
    let v : digits_value 10 text ≡ n = grind (arith, common_steps) in
    let d = plain_digits text p in
    sym (ap decimal (sym v)
    ∙ value_digits text (own.to text d.0) d.1 (plain_first text p) (few_digits bits _ few small))

plain_from : (text : List ℕ) → 0 < length text → IsDigits text → (48 < get_or text 0 0) ⊎ (length text ≡ 1)
    → is_plain text ≡ true
plain_from text some digits (inl big) = grind (arith, common_steps)
plain_from text some digits (inr one) = grind (arith, common_steps)

first_digit : (n : ℕ) → 0 < n → n < 10 ^ 64 → 48 < get_or (decimal n) 0 0
first_digit n some small =
    (decimal_by_steps_wide (λ m ds. (0 < length ds) × (0 < m → 48 < get_or ds 0 0))
    (λ m l. (omega arith, λ a. omega arith))
    (λ m ds l h. (
      omega (arith, length-append ds ((48 + m % 10) ∷ [])),
      λ a. omega (arith, get_or-append ds ((48 + m % 10) ∷ []) 0 0 h.0, h.1 (omega arith)),
    )) n small).1 some

decimal_digits : (n : ℕ) → n < 10 ^ 64 → IsDigits (decimal n)
decimal_digits n small = own.from (decimal n) (decimal_is_IsNumeral_wide n small).0.1

pub decimal_plain : (n : ℕ) → n < 10 ^ 64 → is_plain (decimal n) ≡ true
decimal_plain zero small =
    plain_from (decimal 0) (decimal_is_IsNumeral_wide 0 small).0.0 (decimal_digits 0 small)
    (inr (ap length (decimal_digit 0 (omega arith))))
decimal_plain (suc n) small =
    plain_from (decimal (suc n)) (decimal_is_IsNumeral_wide (suc n) small).0.0 (decimal_digits (suc n) small)
    (inl (first_digit (suc n) (omega arith) small))

number_from : (bits n : ℕ) (text : List ℕ) → is_plain text ≡ true → digits_value 10 text ≡ n → n < 2 ^ bits
    → number_of bits text ≡ Some n
number_from bits n text p v small = grind (arith, common_steps)

-- A round trip from number to text.
pub reads : (bits n : ℕ) → bits ≤ 128 → n < 2 ^ bits → number_of bits (decimal n) ≡ Some n
reads bits n few small =
    let short = few_digits bits n few small in
    number_from bits n (decimal n) (decimal_plain n short) (decimal_is_IsNumeral_wide n short).1 small

-- The one spelling, for 64 bits.
pub decimal_of_number : (text : List ℕ) (n : ℕ) → number_of 64 text ≡ Some n → (text ≡ decimal n) × (n < 2 ^ 64)
decimal_of_number text n h = (spells 64 n text (omega arith) h, fits 64 n text h)

-- A round trip from number to text, for 64 bits.
pub number_of_decimal : (n : ℕ) → n < 2 ^ 64 → number_of 64 (decimal n) ≡ Some n
number_of_decimal n small = reads 64 n (omega arith) small

-- ---- Digits with or without needless leading zeros

pub some_digits : (text : List ℕ) → are_digits text ≡ true → IsDigits text × (0 < length text)
some_digits text p = (grind (arith, common_steps), grind (arith, common_steps))

-- The value of one digit more.
pub next_digit : (ds : List ℕ) (i n : ℕ) → i < length ds → is_ascii_digit (get_or ds i 0) ≡ true
    → n ≡ digits_value 10 (take i ds)
    → digits_value 10 (take (i + 1) ds) ≡ n * 10 + (get_or ds i 0 - 48)
next_digit ds i n inside digit value =
    let worth : digit_value (get_or ds i 0) ≡ get_or ds i 0 - 48 = grind (arith, nat_tests) in
    rw (digits_value_more 10 ds i inside, worth, value)

pub more_digits : (ds : List ℕ) (i : ℕ) → i < length ds → list_all is_ascii_digit (take i ds) ≡ true
    → is_ascii_digit (get_or ds i 0) ≡ true
    → list_all is_ascii_digit (take (i + 1) ds) ≡ true
more_digits ds i inside front digit = list_all_more is_ascii_digit ds i 0 inside ∙ rw (front, digit) refl

some_other : (test : ℕ → Bool) (xs : List ℕ) (i : ℕ) → i < length xs → test (get_or xs i 0) ≡ false
    → list_all test xs ≡ false
some_other test [] i inside fails = absurd (omega arith)
some_other test (x ∷ xs) zero inside fails = rw fails refl
some_other test (x ∷ xs) (suc i) inside fails = none (test x) _ (some_other test xs i (omega arith) fails)
  where
    none : (a b : Bool) → b ≡ false → (a && b) ≡ false
    none true b e = e
    none false b e = refl

pub none_of_nothing : (bits : ℕ) (text : List ℕ) → length text ≡ 0 → None ≡ digits_of bits text
none_of_nothing bits text e = let no : nat_lt 0 (length text) ≡ false = grind (arith, common_steps) in rw no refl

pub none_of_others : (bits i : ℕ) (text : List ℕ) → i < length text → is_ascii_digit (get_or text i 0) ≡ false
    → None ≡ digits_of bits text
none_of_others bits i text inside fails =
    let all : list_all is_ascii_digit text ≡ false = some_other is_ascii_digit text i inside fails in
    let no : are_digits text ≡ false = grind (arith, common_steps) in
    rw no refl

-- The value of a front already exceeds the bound.
pub none_of_large : (bits i : ℕ) (text : List ℕ) → 2 ^ bits ≤ digits_value 10 (take i text) → None ≡ digits_of bits text
none_of_large bits i text large =
    let most : digits_value 10 (take i text) ≤ digits_value 10 text = digits_value-take-le 10 text i (omega arith) in
    past (are_digits text) (digits_value 10 text) (omega arith)
  where
    past : (b : Bool) (n : ℕ) → 2 ^ bits ≤ n → None ≡ (if b && nat_lt n (2 ^ bits) then Some n else None)
    past true n h = let no : nat_lt n (2 ^ bits) ≡ false = grind (arith, nat_tests) in rw no refl
    past false n h = refl

pub all_read : (bits n : ℕ) (text : List ℕ) → 0 < length text → list_all is_ascii_digit text ≡ true
    → n ≡ digits_value 10 text → n < 2 ^ bits → Some n ≡ digits_of bits text
all_read bits n text some all value small =
    let digits : are_digits text ≡ true = grind (arith, common_steps) in
    let less : digits_value 10 text < 2 ^ bits = subst (λ (z : ℕ). z < 2 ^ bits) value small in
    let fits_bits : nat_lt (digits_value 10 text) (2 ^ bits) ≡ true = grind (arith, nat_tests) in
    rw (digits, fits_bits) (ap (λ z. Some z) value)

pub none_of_needless : (bits : ℕ) (text : List ℕ) → (nat_lt 1 (length text) && slice_index text 0 == 48) ≡ true
    → None ≡ number_of bits text
none_of_needless bits text e = let no : is_plain text ≡ false = grind (arith, common_steps) in rw no refl

-- Both readings agree on a text without a needless leading zero.
pub plain_as_digits : (bits : ℕ) (text : List ℕ) → (nat_lt 1 (length text) && slice_index text 0 == 48) ≡ false
    → digits_of bits text ≡ number_of bits text
plain_as_digits bits text e = let same : are_digits text ≡ is_plain text = grind (arith, common_steps) in rw same refl
