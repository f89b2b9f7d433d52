use Rattle.std.proofs.Common.{true, false, sym, ◌∙◌}
use Rattle.kcl_sim.specs.Output.{fresh, outputs}
use Rattle.kcl_sim.specs.Schedule.{ran}
use Rattle.kcl_sim.specs.Serving.{AreAllServed}
use Rattle.kds_cli_runs.specs.Answered.{AreHandedOn}
use Rattle.kds_cli_runs.specs.Journal.{recorded}
use Rattle.kds_cli_runs.proofs.Answering.{ran_safely}
use Rattle.kds_cli_runs.proofs.Codes.{each}
use Rattle.kds_cli_runs.proofs.Completing.{replays}
use Rattle.kds_cli_runs.proofs.Journaling.{false_true}
use Rattle.kds_cli_runs.proofs.runs.run_replay.Goals as goal

pub returns-then-journal-clause-told : goal.returns-then-journal-clause-told
returns-then-journal-clause-told g c = rw c.if-journal.true c.record_schedule.ensures.told

pub returns-then-journal-clause-ran : goal.returns-then-journal-clause-ran
returns-then-journal-clause-ran g c =
    rw c.if-journal.true
    (ran_safely (recorded c.record_schedule.result.status) c.record_schedule.result.status
    (g.S.Source.left c.args.input.now) _ _
    c.record_schedule.result.sim (record {
      lawful = c.lawful.ensures.first;
      part = c.lawful.ensures.part;
      safe = c.safety.ensures;
      served = c.served.ensures.first;
      handed = c.schedules.ensures.handed;
    }) c.record_schedule.ensures.ran)

pub returns-clause-told : goal.returns-clause-told
returns-clause-told g c = rw c.if-journal.false c.run_schedule.ensures.told

pub returns-clause-ran : goal.returns-clause-ran
returns-clause-ran g c =
    rw c.if-journal.false
    (ran_safely (outputs fresh) c.run_schedule.result.status (g.S.Source.left c.args.input.now)
    _ _ c.run_schedule.result.sim
    (record {
      lawful = c.lawful.ensures.first;
      part = c.lawful.ensures.part;
      safe = c.safety.ensures;
      served = c.served.ensures.first;
      handed = c.schedules.ensures.handed;
    }) c.run_schedule.ensures.ran)

pub returns-then-journal-clause-sound : goal.returns-then-journal-clause-sound
returns-then-journal-clause-sound g c = λ asked done. c.record_schedule.ensures.sound done

pub returns-clause-sound : goal.returns-clause-sound
returns-clause-sound g c = λ asked done. absurd (false_true (sym c.if-journal.false ∙ asked))

pub returns-then-journal-clause-complete : goal.returns-then-journal-clause-complete
returns-then-journal-clause-complete g c = λ read write.
    replays true c.record_schedule.result.status (g.S.Source.left c.args.input.now) _ _ _
    (λ is. read (c.record_schedule.ensures.read is)) (λ is. write (c.record_schedule.ensures.write is))
    c.record_schedule.ensures.told

pub returns-clause-complete : goal.returns-clause-complete
returns-clause-complete g c = λ read write.
    replays false c.run_schedule.result.status (g.S.Source.left c.args.input.now) _ _ _
    (λ is. read (c.run_schedule.ensures.read is)) (λ is. write (c.run_schedule.ensures.write is))
    c.run_schedule.ensures.told

pub returns-then-journal-clause-served : goal.returns-then-journal-clause-served
returns-then-journal-clause-served g c =
    each (λ bytes. AreAllServed (ran bytes)) c.served.ensures.whole (g.S.Source.left c.args.input.now)

pub returns-clause-served : goal.returns-clause-served
returns-clause-served g c =
    each (λ bytes. AreAllServed (ran bytes)) c.served.ensures.whole (g.S.Source.left c.args.input.now)

pub returns-then-journal-clause-handed : goal.returns-then-journal-clause-handed
returns-then-journal-clause-handed g c = each AreHandedOn c.schedules.ensures.handed (g.S.Source.left c.args.input.now)

pub returns-clause-handed : goal.returns-clause-handed
returns-clause-handed g c = each AreHandedOn c.schedules.ensures.handed (g.S.Source.left c.args.input.now)
