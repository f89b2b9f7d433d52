-- Moments, which are times in milliseconds below 2^62, and their texts.
use Rattle.std.specs.Prelude.{ℕ, ◌^◌, List, nat_lt, if◌then◌else◌, Option, Some, None, option_and_then}
use Rattle.kds_base.specs.NumberText.{number_of}

-- A moment of `n` milliseconds must be below 2^62.
abbrev pub in_time : (n : ℕ) → Option ℕ
in_time n = if nat_lt n (2 ^ 62) then Some n else None

-- The moment that a decimal text without needless leading zeros states.
abbrev pub moment_of : (text : List ℕ) → Option ℕ
moment_of text = option_and_then in_time (number_of 64 text)
