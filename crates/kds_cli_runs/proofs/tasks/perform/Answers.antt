use Rattle.kds_cli_runs.proofs.Completing.{drills, serves}
use Rattle.kds_cli_runs.proofs.tasks.perform.Goals as goal

pub returns-in-Replay-clause-performed : goal.returns-in-Replay-clause-performed
returns-in-Replay-clause-performed g c =
    rw c.in-Replay.is
    (record {
      kind = c.run_replay.ensures.kinds;
      told = c.run_replay.ensures.told;
      ran = c.run_replay.ensures.ran;
      sound = c.run_replay.ensures.sound;
    })

pub returns-in-Answer-clause-performed : goal.returns-in-Answer-clause-performed
returns-in-Answer-clause-performed g c =
    rw c.in-Answer.is
    (record {
      kind = c.run_answer.ensures.kinds;
      spent = g.C.Clock.moments c.run_answer.new.clock;
      served = c.run_answer.ensures.served;
    })

pub returns-in-Audit-clause-performed : goal.returns-in-Audit-clause-performed
returns-in-Audit-clause-performed g c =
    rw c.in-Audit.is
    (record {
      kind = c.run_audit.ensures.kinds;
      told = c.run_audit.ensures.told;
      safe = c.run_audit.ensures.safe;
      legal = c.run_audit.ensures.legal;
    })

pub returns-in-Replay-clause-complete : goal.returns-in-Replay-clause-complete
returns-in-Replay-clause-complete g c = λ read write door. rw c.in-Replay.is (c.run_replay.ensures.complete read write)

pub returns-in-Answer-clause-complete : goal.returns-in-Answer-clause-complete
returns-in-Answer-clause-complete g c = λ read write door. rw c.in-Answer.is (c.run_answer.ensures.complete read write)

pub returns-in-Audit-clause-complete : goal.returns-in-Audit-clause-complete
returns-in-Audit-clause-complete g c = λ read write door. rw c.in-Audit.is (c.run_audit.ensures.complete read write)

pub returns-in-Serve-clause-complete : goal.returns-in-Serve-clause-complete
returns-in-Serve-clause-complete g c = λ read write door.
    rw c.in-Serve.is (serves c.run_serve.result _ _ _ (λ is. write (c.run_serve.ensures.write is))
    (λ is. door (c.run_serve.ensures.door is)) c.run_serve.ensures.told)

pub returns-in-Drill-clause-complete : goal.returns-in-Drill-clause-complete
returns-in-Drill-clause-complete g c = λ read write door.
    rw c.in-Drill.is (drills c.run_drill.result _ _ _ _ (λ is. write (c.run_drill.ensures.write is))
    c.run_drill.ensures.told)
