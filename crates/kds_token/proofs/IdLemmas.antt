-- The id of a shard and its number: a round trip, and no other text is read.
use Rattle.std.proofs.Common.{subst, rules, ◌≡◌, ◌≢◌, ℕ, zero, suc, ◌-◌, ◌^◌, ◌<◌, List, ◌++◌, length, drop, replicate}
use Rattle.std.proofs.Common.{decimal, Bool, true, false, Option, Some, None, refl, sym, ap, ◌∙◌, arith}
use Rattle.std.specs.Prelude.{◌&&◌, nat_lt, if◌then◌else◌}
use Rattle.std.specs.Str.{bytes_eq}
use Rattle.std.specs.Char.{is_ascii_digit}
use Rattle.std.specs.List.{list_all}
use Rattle.std.specs.Str.Parse.{AllDigits, digits_value}
use Rattle.std.proofs.lemmas.Bool.Decides.{nat_tests}
use Rattle.std.proofs.lemmas.Fmt.{decimal_is_IsNumeral}
use Rattle.std.proofs.lemmas.Str.Parse.{IsNumeralModel, numerals_by_value}
use Rattle.std.proofs.lemmas.Slice.Eq.{bytes_eq-Decides}
use Rattle.kds_base.specs.NumberText.{are_digits, digits_of}
use Rattle.kds_token.specs.Ids.{twelve_digits, shard_id, if_id, id_of}

-- ---- The digits of an id

zeros_digits : (k : ℕ) (ds : List ℕ) → AllDigits 10 ds → AllDigits 10 (replicate k 48 ++ ds)
zeros_digits zero ds are = are
zeros_digits (suc k) ds are = (omega arith, zeros_digits k ds are)

zeros_value : (k : ℕ) (ds : List ℕ) → digits_value 10 (replicate k 48 ++ ds) ≡ digits_value 10 ds
zeros_value zero ds = refl
zeros_value (suc k) ds = zeros_value k ds

zeros_some : (k : ℕ) (ds : List ℕ) → 0 < length ds → 0 < length (replicate k 48 ++ ds)
zeros_some zero ds some = some
zeros_some (suc k) ds some = omega arith

pub id_digits : (n : ℕ) → n < 2 ^ 64 → AllDigits 10 (twelve_digits n)
id_digits n small = zeros_digits (12 - length (decimal n)) (decimal n) (decimal_is_IsNumeral n small).0.1

pub id_some : (n : ℕ) → n < 2 ^ 64 → 0 < length (twelve_digits n)
id_some n small = zeros_some (12 - length (decimal n)) (decimal n) (decimal_is_IsNumeral n small).0.0

pub id_value : (n : ℕ) → n < 2 ^ 64 → digits_value 10 (twelve_digits n) ≡ n
id_value n small = zeros_value (12 - length (decimal n)) (decimal n) ∙ (decimal_is_IsNumeral n small).1

-- ---- The whole id

if_id_again : (n : ℕ) → n < 2 ^ 64 → if_id (shard_id n) n ≡ Some n
if_id_again n small =
    let same : bytes_eq (shard_id n) (shard_id n) ≡ true = (bytes_eq-Decides (shard_id n) (shard_id n)).1 refl in
    let fits : nat_lt n (2 ^ 64) ≡ true = grind (arith, nat_tests) in
    rw (fits, same) refl

-- A round trip.
pub id_reads : (n : ℕ) → n < 2 ^ 64 → id_of (shard_id n) ≡ Some n
unfolding id_of
id_reads n small = ap (if_id (shard_id n)) (id_value n small) ∙ if_id_again n small

if_id_is : (b c : Bool) (text : List ℕ) (m n : ℕ) → nat_lt m (2 ^ 64) ≡ b → bytes_eq text (shard_id m) ≡ c
    → (if b && c then Some m else None) ≡ Some n → (text ≡ shard_id n) × (n < 2 ^ 64)
if_id_is true true text m n fits is h =
    let same : m ≡ n = cc in (
      (bytes_eq-Decides text (shard_id m)).0 is ∙ ap shard_id same,
      subst (λ (z : ℕ). z < 2 ^ 64) same (grind (arith, nat_tests)),
    )
if_id_is true false text m n fits is h = absurd (cc)
if_id_is false c text m n fits is h = absurd (cc)

pub id_is : (text : List ℕ) (n : ℕ) → id_of text ≡ Some n → (text ≡ shard_id n) × (n < 2 ^ 64)
unfolding id_of
id_is text n h = if_id_is _ _ text (digits_value 10 (drop 8 text)) n refl refl h

-- A round trip: only the id of shard `n` is read as `n`.
pub id_spells : (text : List ℕ) (n : ℕ) → id_of text ≡ Some n → text ≡ shard_id n
id_spells text n h = (id_is text n h).0

-- ---- How the code reads an id

-- Each byte of the text is a decimal digit.
abbrev IsDigits : List ℕ → Type 0
IsDigits text = list_all is_ascii_digit text ≡ true

own : IsNumeralModel IsDigits (digits_value 10)
own = numerals_by_value IsDigits (search rules)

some_digits : (ds : List ℕ) → AllDigits 10 ds → 0 < length ds → are_digits ds ≡ true
some_digits ds all some =
    let tested : list_all is_ascii_digit ds ≡ true = own.from ds all in
    let long : nat_lt 0 (length ds) ≡ true = grind (arith, nat_tests) in
    rw (long, tested) refl

twelve_read : (n : ℕ) → n < 2 ^ 64 → digits_of 64 (twelve_digits n) ≡ Some n
twelve_read n small =
    let tested = some_digits (twelve_digits n) (id_digits n small) (id_some n small) in
    let fits : nat_lt n (2 ^ 64) ≡ true = grind (arith, nat_tests) in
    rw (tested, id_value n small, fits) refl

-- After `shardId-`, an id is read as its shard's number.
pub tail_read : (text tail : List ℕ) (n : ℕ) → tail ≡ drop 8 text → text ≡ shard_id n → n < 2 ^ 64
    → digits_of 64 tail ≡ Some n
tail_read text tail n cut e small = ap (digits_of 64) (cut ∙ ap (drop 8) e) ∙ twelve_read n small

-- A text that isn't the id of the only shard in question is no id.
pub no_id : (text : List ℕ) (found o : Option ℕ) → id_of text ≡ o
    → ((n : ℕ) → n < 2 ^ 64 → text ≡ shard_id n → found ≡ Some n) → ((n : ℕ) → found ≡ Some n → text ≢ shard_id n)
    → None ≡ id_of text
no_id text found None is only other = sym is
no_id text found (Some n) is only other = let i = id_is text n is in absurd (other n (only n i.1 i.0) i.0)
