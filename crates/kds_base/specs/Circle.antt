-- Indices that go around in a circle: after the last one comes 0.
use Rattle.std.specs.Prelude.{ℕ, ◌+◌, nat_lt, if◌then◌else◌}

-- The index after `n` among `count` indices; after the last one comes 0.
abbrev pub next_of : (count n : ℕ) → ℕ
next_of count n = if nat_lt (n + 1) count then n + 1 else 0
