use Rattle.std.specs.Io.KnownBytes.{Keeps}
use Rattle.kds_ends.proofs.standard.write_again.Given as goal

-- The writer's bytes, if known, are the same as before the call.
abbrev pub invariant-loop : goal.invariant-loop
invariant-loop g l = Keeps (g.W.Write.contents l.fn.writer) (g.W.Write.contents l.writer)
