use Rattle.std.proofs.Common.{◌≤◌, length, drop}
use Rattle.kds_session.specs.Standing.{CarriesOn}
use Rattle.kds_session.specs.Next.{IsNearer}
use Rattle.kds_session.specs.Steps.{read_state, IsFree, IsKept}
use Rattle.kds_session.proofs.progress.Progress.to_command.Given as goal

-- A kept head begins the unconsumed bytes; the reading's session is free and stands for the same traffic,
-- and less may still come than before the loop, or nothing was read.
abbrev pub invariant-loop-what : goal.invariant-loop-what
invariant-loop-what l = record {
  room : l.self.read ≤ length l.bytes;
  kept : IsKept (drop l.self.read l.bytes) l.kept;
  free : IsFree (read_state l.bytes l.self);
  nearer : IsNearer (read_state l.bytes l.fn.self) (read_state l.bytes l.self);
  stands : CarriesOn (read_state l.bytes l.fn.self) (read_state l.bytes l.self) (λ past. past);
}

-- Each round lowers the number of requests still allowed.
abbrev pub decreases-loop-what : goal.decreases-loop-what
decreases-loop-what l = l.self.left
