use Rattle.std.proofs.Common.{drop}
use Rattle.kds_turn.specs.declared.pass.TurnErr.{TurnErr}
use Rattle.kcl_drill_run.specs.Ends.{AllEnded, SomeFailed}
use Rattle.kcl_drill_run.proofs.threads.first_error.Given as goal

-- No run gone over so far ended with an error, so the remaining workers decide how all of them ended.
abbrev pub invariant-loop-member : goal.invariant-loop-member
invariant-loop-member l = record {
  ok : AllEnded (drop l.member-index l.members) → AllEnded l.members;
  err : (e : TurnErr) → SomeFailed e (drop l.member-index l.members) → SomeFailed e l.members;
}
