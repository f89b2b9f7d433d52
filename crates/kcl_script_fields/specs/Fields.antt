-- Fields of a line, separated by spaces, and the numbers, workers and keys in them.
use Rattle.std.specs.Prelude.{◌≡◌, ℕ, ◌-◌, ◌^◌, List, [], ◌∷◌, ◌++◌, decimal, false, ◌&&◌, ◌==◌, nat_le}
use Rattle.std.specs.Prelude.{if◌then◌else◌, Option, Some, None, option_map, option_and_then}
use Rattle.kds_base.specs.declared.lease_key.ShardRef.{ShardRef}
use Rattle.kds_base.specs.NumberText.{number_of}

infixl 10 ◌>>=◌
-- The result of `f` for the option's value, or None without a value.
abbrev pub ◌>>=◌ : {A B : Type 0} → (found : Option A) (next : A → Option B) → Option B
(Some x) >>= f = f x
None >>= f = None

-- The text before and after the first byte `sep`, if it has one.
abbrev pub parted : (sep : ℕ) (bs : List ℕ) → Option (List ℕ × List ℕ)
parted sep [] = None
parted sep (b ∷ bs) = if b == sep then Some ([], bs) else option_map (λ p. (b ∷ p.0, p.1)) (parted sep bs)

-- The first field, up to the first space, and the text after it; None without a space.
abbrev pub field : (text : List ℕ) → Option (List ℕ × List ℕ)
field text = parted 32 text

-- The text has no byte `sep`.
abbrev pub Lacks : (sep : ℕ) (bs : List ℕ) → Type 0
Lacks sep [] = Unit {0}
Lacks sep (b ∷ bs) = ((b == sep) ≡ false) × Lacks sep bs

-- What `f` and `g` read before and after the first `sep`; None if either fails or `sep` is missing.
unfoldable pub two : {A B : Type 0} → (sep : ℕ) (f : List ℕ → Option A) (g : List ℕ → Option B) (text : List ℕ) →
    Option (A × B)
two sep f g text = do
  p ← parted sep text
  a ← f p.0
  b ← g p.1
  Some (a, b)

-- The decimal number below 2^64, if the text is one.
abbrev pub number : (text : List ℕ) → Option ℕ
number text = number_of 64 text

-- The number, if it is from 1 to `most`.
abbrev pub from_one_to : (most n : ℕ) → Option ℕ
from_one_to most n = if nat_le 1 n && nat_le n most then Some n else None

-- The decimal number from 1 to `most`, if the text is one.
abbrev pub count_of : (most : ℕ) (text : List ℕ) → Option ℕ
count_of most text = option_and_then (from_one_to most) (number text)

-- The greatest number of 32 bits.
abbrev pub greatest32 : ℕ
greatest32 = 2 ^ 32 - 1

-- The worker's number from the text `wN`, with N from 1 and in 32 bits.
abbrev pub worker_of : (digits : List ℕ) → Option ℕ
worker_of [] = None
worker_of (b ∷ digits) = if b == 119 then count_of greatest32 digits else None

-- The text `wN` of worker `n`.
abbrev pub worker_text : (n : ℕ) → List ℕ
worker_text n = 119 ∷ decimal n

-- The key of stream `p.0` and shard `p.1`.
abbrev pub key_from : (p : ℕ × ℕ) → ShardRef
key_from p = record { stream = p.0; shard = p.1 }

-- The key from the text STREAM/SHARD.
abbrev pub key_of : (text : List ℕ) → Option ShardRef
key_of text = option_map key_from (two 47 number number text)

-- The text STREAM/SHARD of a key.
abbrev pub key_text : (key : ShardRef) → List ℕ
key_text key = decimal key.stream ++ 47 ∷ decimal key.shard

-- A prefix of `text`, perhaps empty or whole, was added.
pub record AddsFront (old now text : List ℕ) : Type 0 where
  pub front : List ℕ
  pub back : List ℕ
  pub parts : text ≡ front ++ back
  pub added : now ≡ old ++ front
