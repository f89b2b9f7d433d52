use Rattle.std.proofs.Common.{◌≡◌, ℕ, ◌+◌, ◌*◌, ◌/◌, ◌^◌, ◌++◌}
use Rattle.kds_base.specs.Span.{uniform_from, uniform}
use Rattle.kds_base.proofs.range.Range.uniform.Given as goal

-- The ranges made so far, followed by the rest of the uniform ranges, are all `n` of them.
abbrev pub invariant-loop-i : goal.invariant-loop-i
invariant-loop-i l = (k : ℕ) → k + l.i ≡ l.n → l.ranges ++ uniform_from (2 ^ 128 / l.n) (l.i * (2 ^ 128 / l.n)) k
    ≡ uniform l.n
