use Rattle.std.proofs.Common.{◌≡◌, ◌++◌, take}
use Rattle.kcl_sim_scribe.specs.Added.{entries_text}
use Rattle.kds_cli_runs.proofs.entries.print_entries.Given as goal

-- Text so far equals the text at entry and the entries passed.
abbrev pub invariant-loop-line : goal.invariant-loop-line
invariant-loop-line l = l.text ≡ l.fn.text ++ entries_text (take l.line-index l.lines)
