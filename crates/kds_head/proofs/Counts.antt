-- A text of 1 to 19 digits is below 2^64 and is read as its number.
use Rattle.std.proofs.Common.{sym, Some, None, ◌≡◌, ℕ, ◌^◌, ◌<◌, ◌≤◌, List, length, Bool, true, false, arith, refl}
use Rattle.std.proofs.Common.{rules}
use Rattle.std.proofs.lemmas.Grind.{common_steps}
use Rattle.std.proofs.lemmas.Str.Parse.{IsNumeralModel, numerals_by_value, digits_value_short}
use Rattle.std.specs.Char.{is_ascii_digit}
use Rattle.std.specs.List.{list_all}
use Rattle.std.specs.Str.Parse.{digits_value}
use Rattle.std.specs.Prelude.{nat_lt}
use Rattle.kds_base.specs.NumberText.{are_digits, digits_of}
use Rattle.kds_head.specs.Values.{is_byte_count, byte_count}

-- Each byte of the text is a digit.
abbrev pub IsDigits : List ℕ → Type 0
IsDigits text = list_all is_ascii_digit text ≡ true

own : IsNumeralModel IsDigits (digits_value 10)
own = numerals_by_value IsDigits (search rules)

pub count_digits : (text : List ℕ) → is_byte_count text ≡ true → IsDigits text × (0 < length text) × (length text ≤ 19)
count_digits text p = (grind (arith, common_steps), grind (arith, common_steps), grind (arith, common_steps))

pub count_small : (text : List ℕ) → is_byte_count text ≡ true → digits_value 10 text < 2 ^ 64
count_small text p =
    let d = count_digits text p in
    let small : digits_value 10 text < 10 ^ 19 = digits_value_short own text 19 d.0 d.2 in
    omega arith

is_some_count : (bs : List ℕ) → is_byte_count bs ≡ true → byte_count bs ≡ Some (digits_value 10 bs)
unfolding byte_count
is_some_count bs p = rw p refl

no_count : (text : List ℕ) → is_byte_count text ≡ false → byte_count text ≡ None
unfolding byte_count
no_count text p = rw p refl

read_is : (b : Bool) (text : List ℕ) → are_digits text ≡ b → length text ≤ 19 → digits_of 64 text ≡ byte_count text
read_is true text e short =
    let count : is_byte_count text ≡ true = grind (arith, common_steps) in
    let small = count_small text count in
    let fits : nat_lt (digits_value 10 text) (2 ^ 64) ≡ true = grind (arith, common_steps) in
    rw (e, fits) (sym (is_some_count text count))
read_is false text e short =
    let none : is_byte_count text ≡ false = grind (arith, common_steps) in
    rw e (sym (no_count text none))

pub counted : (text : List ℕ) → length text ≤ 19 → digits_of 64 text ≡ byte_count text
counted text short = read_is (are_digits text) text refl short

pub too_long : (text : List ℕ) → 19 < length text → byte_count text ≡ None
too_long text long = let none : is_byte_count text ≡ false = grind (arith, common_steps) in no_count text none
