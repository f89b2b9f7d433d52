use Rattle.std.proofs.Common.{◌≡◌, ◌∷◌, ◌++◌, take, decimal}
use Rattle.std.specs.Prelude.{flat_map}
use Rattle.kcl_journal.proofs.print.number_fields.Given as goal

-- Numbers so far were added, each with a space before it.
abbrev pub invariant-loop-number : goal.invariant-loop-number
invariant-loop-number l = l.to ≡ l.initial.to ++ flat_map (λ n. 32 ∷ decimal n) (take l.number-index l.numbers)
