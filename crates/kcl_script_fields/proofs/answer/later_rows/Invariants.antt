use Rattle.std.proofs.Common.{◌≡◌, ◌++◌, take, codes}
use Rattle.std.specs.Prelude.{flat_map}
use Rattle.kcl_script_fields.specs.Answers.{row_text}
use Rattle.kcl_script_fields.proofs.answer.later_rows.Given as goal

-- Rows so far were added, each with `;` before it.
abbrev pub invariant-loop-next : goal.invariant-loop-next
invariant-loop-next l = l.to ≡ l.initial.to ++ flat_map (λ r. codes ";" ++ row_text r) (take l.next-index l.rows)
