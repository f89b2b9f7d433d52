-- A long text of digits is read in two parts: its last 19 digits are the block, the digits before it the front.
use Rattle.std.proofs.Common.{sym, ap, ◌∙◌, Option, Some, None, zero, suc, ◌≡◌, ℕ, ◌+◌, ◌*◌, ◌^◌, ◌<◌, ◌≤◌, List, []}
use Rattle.std.proofs.Common.{◌∷◌, ◌++◌, length, Bool, true, false, refl, arith}
use native.Mathlib.Nat.{pow-zero, pow-succ', pow-le-pow_right, mul-le-mul_right}
use Rattle.std.proofs.lemmas.Grind.{common_steps}
use Rattle.std.proofs.lemmas.Bool.Decides.{nat_tests}
use Rattle.std.proofs.lemmas.List.{length-append}
use Rattle.std.proofs.lemmas.List.Folds.{list_all-append}
use Rattle.std.proofs.lemmas.Str.Parse.{digits_value_short}
use Rattle.std.specs.Prelude.{◌&&◌, ◌==◌, nat_lt, if◌then◌else◌, IfSome, IfNone}
use Rattle.std.specs.Char.{digit_value, is_ascii_digit}
use Rattle.std.specs.List.{list_all}
use Rattle.std.specs.Str.Parse.{digits_value, digits_value_after}
use Rattle.kds_base.specs.NumberText.{are_digits, digits_of, is_plain, number_of}
use Rattle.kds_base.proofs.NumberLemmas.{IsDigits, own}

-- ---- The value of two parts

after_weighs : (n : ℕ) (ds : List ℕ) → digits_value_after 10 n ds ≡ n * 10 ^ length ds + digits_value 10 ds
after_weighs n [] = omega (arith, ap (λ x. n * x) (pow-zero 10))
after_weighs n (c ∷ cs) =
    omega (
      arith,
      ap (λ x. n * x) (pow-succ' 10 (length cs)),
      after_weighs (n * 10 + digit_value c) cs,
      after_weighs (0 * 10 + digit_value c) cs,
    )

after_both : (n : ℕ) (ds es : List ℕ)
    → digits_value_after 10 n (ds ++ es) ≡ digits_value_after 10 (digits_value_after 10 n ds) es
after_both n [] es = refl
after_both n (d ∷ ds) es = after_both (n * 10 + digit_value d) ds es

value_of_both : (ds es : List ℕ) → digits_value 10 (ds ++ es) ≡ digits_value 10 ds * 10 ^ length es + digits_value 10 es
value_of_both ds es = after_both 0 ds es ∙ after_weighs (digits_value 10 ds) es

-- ---- When a text is read as a number, and when it isn't

not_read : (bits : ℕ) (text : List ℕ) → list_all is_ascii_digit text ≡ false → None ≡ digits_of bits text
not_read bits text other = let no : are_digits text ≡ false = grind (arith, common_steps) in rw no refl

too_large : (bits : ℕ) (text : List ℕ) → 2 ^ bits ≤ digits_value 10 text → None ≡ digits_of bits text
too_large bits text large = go (are_digits text) (digits_value 10 text) large
  where
    go : (b : Bool) (n : ℕ) → 2 ^ bits ≤ n → None ≡ (if b && nat_lt n (2 ^ bits) then Some n else None)
    go true n h = let no : nat_lt n (2 ^ bits) ≡ false = grind (arith, nat_tests) in rw no refl
    go false n h = refl

is_read : (bits : ℕ) (text : List ℕ) → 0 < length text → list_all is_ascii_digit text ≡ true
    → digits_value 10 text < 2 ^ bits
    → Some (digits_value 10 text) ≡ digits_of bits text
is_read bits text some all small =
    let digits : are_digits text ≡ true = grind (arith, common_steps) in
    let fits : nat_lt (digits_value 10 text) (2 ^ bits) ≡ true = grind (arith, nat_tests) in
    rw (digits, fits) refl

why_not : (bits : ℕ) (text : List ℕ) → 0 < length text → digits_of bits text ≡ None
    → list_all is_ascii_digit text ≡ true → 2 ^ bits ≤ digits_value 10 text
why_not bits text some h all = let digits : are_digits text ≡ true = grind (arith, common_steps) in
    grind (arith, nat_tests)

all_of : (bits n : ℕ) (text : List ℕ) → digits_of bits text ≡ Some n → list_all is_ascii_digit text ≡ true
all_of bits n text h = grind (arith, common_steps)

value_of : (bits n : ℕ) (text : List ℕ) → digits_of bits text ≡ Some n → digits_value 10 text ≡ n
value_of bits n text h = grind (arith, common_steps)

-- ---- A front and a block after it

block_end : (block : List ℕ) → IsDigits block → length block ≡ 19 → digits_value 10 block < 10 ^ 19
block_end block digits long = digits_value_short own block 19 digits (omega arith)

pub by_test : {A : Type 0} (b : Bool) → (b ≡ true → A) → (b ≡ false → A) → A
by_test true holds fails = holds refl
by_test false holds fails = fails refl

other_front : (front block : List ℕ) → list_all is_ascii_digit front ≡ false
    → list_all is_ascii_digit (front ++ block) ≡ false
other_front front block h = list_all-append is_ascii_digit front block ∙ rw h refl

other_block : (front block : List ℕ) → list_all is_ascii_digit block ≡ false
    → list_all is_ascii_digit (front ++ block) ≡ false
other_block front block h = list_all-append is_ascii_digit front block ∙ rw h (none (list_all is_ascii_digit front))
  where
    none : (b : Bool) → (b && false) ≡ false
    none true = refl
    none false = refl

-- A front that isn't read makes the whole text unreadable.
pub front_not_read : (front block : List ℕ) → 0 < length front → digits_of 128 front ≡ None
    → None ≡ digits_of 128 (front ++ block)
front_not_read front block some h = by_test (list_all is_ascii_digit front)
    (λ all. too_large 128 (front ++ block)
    (omega (
      arith,
      why_not 128 front some h all,
      value_of_both front block,
      weight (digits_value 10 front) (length block),
    )))
    (λ other. not_read 128 (front ++ block) (other_front front block other))
  where
    weight : (n k : ℕ) → n ≤ n * 10 ^ k
    weight n zero = omega (arith, ap (λ x. n * x) (pow-zero 10))
    weight n (suc k) = omega (arith, ap (λ x. n * x) (pow-succ' 10 k), weight n k)

-- A block that isn't read makes the whole text unreadable.
pub block_not_read : (front block : List ℕ) → length block ≡ 19 → digits_of 64 block ≡ None
    → None ≡ digits_of 128 (front ++ block)
block_not_read front block long h = by_test (list_all is_ascii_digit block)
    (λ all. absurd (omega (arith, why_not 64 block (omega arith) h all, block_end block all long)))
    (λ other. not_read 128 (front ++ block) (other_block front block other))

module _ (front block : List ℕ) (x y : ℕ) (long : length block ≡ 19) (front_is : digits_of 128 front ≡ Some x)
    (block_is : digits_of 64 block ≡ Some y) where
  value_is : digits_value 10 (front ++ block) ≡ x * 10 ^ 19 + y
  value_is = value_of_both front block
      ∙ (λ i. value_of 128 x front front_is i * 10 ^ long i + value_of 64 y block block_is i)

  both_too_large : 2 ^ 128 ≤ x * 10 ^ 19 + y → None ≡ digits_of 128 (front ++ block)
  both_too_large large = too_large 128 (front ++ block) (omega (arith, value_is))

  both_read : (n : ℕ) → n ≡ x * 10 ^ 19 + y → n < 2 ^ 128 → Some n ≡ digits_of 128 (front ++ block)
  both_read n is small =
      let all : list_all is_ascii_digit (front ++ block) ≡ true =
      list_all-append is_ascii_digit front block ∙ rw (all_of 128 x front front_is, all_of 64 y block block_is) refl in
      ap (λ z. Some z) (is ∙ sym value_is)
      ∙ is_read 128 (front ++ block) (omega (arith, length-append front block)) all (omega (arith, value_is))

  -- The whole text from the front's value `x` and the block's value `y`.
  pub both_as_made : (r : Option ℕ) → IfSome r (λ n. n ≡ x * 10 ^ 19 + y) → IfSome r (λ n. n < 2 ^ 128)
      → IfNone r (2 ^ 128 ≤ x * 10 ^ 19 + y)
      → r ≡ digits_of 128 (front ++ block)
  both_as_made (Some n) is small large = both_read n is small
  both_as_made None is small large = both_too_large large

-- ---- More digits than any number below 2 ^ 128 has

first_weighs : (n : ℕ) (ds : List ℕ) → 0 < n → 10 ^ length ds ≤ digits_value_after 10 n ds
first_weighs n ds some = omega (arith, after_weighs n ds, mul-le-mul_right {m = 1} {n = n} (10 ^ length ds) some)

-- 2^128 has 39 digits.
pub none_of_long : (text : List ℕ) → 39 < length text → None ≡ number_of 128 text
none_of_long text long = by_test (is_plain text) (λ plain. go text long plain) (λ other. rw other refl)
  where
    large : (n : ℕ) (p : Bool) → 2 ^ 128 ≤ n → None ≡ (if p && nat_lt n (2 ^ 128) then Some n else None)
    large n true h = let no : nat_lt n (2 ^ 128) ≡ false = grind (arith, nat_tests) in rw no refl
    large n false h = refl

    go : (text : List ℕ) → 39 < length text → is_plain text ≡ true → None ≡ number_of 128 text
    go [] long plain = absurd (omega arith)
    go (c ∷ cs) long plain =
        let digit : is_ascii_digit c ≡ true = grind (arith, common_steps) in
        let lead : (c == 48) ≡ false = grind (arith, common_steps, nat_tests) in
        let some : 0 < 0 * 10 + digit_value c = grind (arith, nat_tests) in
        let more : 39 ≤ length cs = omega arith in
        let wide : 10 ^ 39 ≤ 10 ^ length cs = pow-le-pow_right {n = 10} (omega arith) more in
        large (digits_value 10 (c ∷ cs)) (is_plain (c ∷ cs))
        (omega (arith, wide, first_weighs (0 * 10 + digit_value c) cs some))

-- ---- A text that is no longer than a block

-- 19 digits always fit into 64 bits.
pub short_as_wide : (text : List ℕ) → length text ≤ 19 → digits_of 64 text ≡ digits_of 128 text
short_as_wide text short = by_test (list_all is_ascii_digit text)
    (λ all. let small : digits_value 10 text < 10 ^ 19 = digits_value_short own text 19 all short in
    go (are_digits text) (digits_value 10 text) small)
    (λ other. sym (not_read 64 text other) ∙ not_read 128 text other)
  where
    go : (b : Bool) (n : ℕ) → n < 10 ^ 19 → (if b && nat_lt n (2 ^ 64) then Some n else None)
        ≡ (if b && nat_lt n (2 ^ 128) then Some n else None)
    go true n h =
        let one : nat_lt n (2 ^ 64) ≡ true = grind (arith, nat_tests) in
        let two : nat_lt n (2 ^ 128) ≡ true = grind (arith, nat_tests) in
        rw (one, two) refl
    go false n h = refl
