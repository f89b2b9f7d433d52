-- The pair of a value before a call and after it.

-- A value before a call, and the value after it.
pub record Around (A : Type 0) : Type 0 where
  pub before : A
  pub after : A

-- The pair of the two values.
abbrev pub around : {A : Type 0} → (old new : A) → Around A
around old new = record { before = old; after = new }
