use Rattle.std.proofs.Common.{◌≡◌, ◌++◌}
use Rattle.kcl_sim_scribe.specs.Telling.{lines_by}
use Rattle.kcl_sim_scribe.proofs.scribe.lines_of.Given as goal

-- The lines so far, then the remaining entries' lines, are the lines of all entries.
abbrev pub invariant-loop-what : goal.invariant-loop-what
invariant-loop-what l = l.lines ++ lines_by l.clock l.by l.what-iterator.rest.items ≡ lines_by l.clock l.by l.fn.entries
