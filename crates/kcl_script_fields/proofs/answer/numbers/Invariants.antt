use Rattle.std.proofs.Common.{◌≡◌, ◌++◌, take}
use Rattle.std.specs.Prelude.{flat_map}
use Rattle.kcl_script_fields.specs.Answers.{number_text}
use Rattle.kcl_script_fields.proofs.answer.numbers.Given as goal

-- Sequence numbers so far were added, each with a space before it.
abbrev pub invariant-loop-stored : goal.invariant-loop-stored
invariant-loop-stored l = l.to ≡ l.initial.to ++ flat_map number_text (take l.stored-index l.batch)
