use Rattle.std.proofs.Common.{◌≡◌, take}
use Rattle.std.specs.List.{filter}
use Rattle.kcl_sim_scribe.specs.Telling.{is_step}
use Rattle.kcl_sim_scribe.proofs.entries.steps.Given as goal

-- The steps found so far are all steps among the entries passed.
abbrev pub invariant-loop-entry : goal.invariant-loop-entry
invariant-loop-entry l = l.steps ≡ filter is_step (take l.entry-index l.entries)
