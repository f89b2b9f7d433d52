use Rattle.std.specs.Io.KnownBytes.{Keeps}
use Rattle.kds_ends.proofs.tcp.read_in_slices.Given as goal

-- The bytes that the stream has left, if known, are the same as before the call.
abbrev pub invariant-loop-slice : goal.invariant-loop-slice
invariant-loop-slice g l = Keeps (g.S.Read.remaining l.fn.stream) (g.S.Read.remaining l.stream)
