use Rattle.std.proofs.Common.{sym, ◌∙◌}
use Rattle.kds_defs.specs.Histories.{clock, journal as journal_of}
use Rattle.kds_defs.specs.Safe.{IsSafe}
use Rattle.kcl_sim.specs.Schedule.{history, ran}
use Rattle.kcl_sim.specs.Serving.{AreAllServed}
use Rattle.kds_cli_runs.specs.Answered.{AreHandedOn}
use Rattle.kds_cli_runs.proofs.Asked.{sound_by}
use Rattle.kds_cli_runs.proofs.Codes.{done_by, door_by, each, read_by, refused_code, usage_by, write_by}
use Rattle.kds_cli_runs.proofs.program.run.Goals as goal

pub returns-clause-usage : goal.returns-clause-usage
returns-clause-usage g c =
    λ two. c.perform_words-status.ensures.usage (usage_by c.perform_words-status.result (sym c.code.ensures ∙ two))

pub returns-clause-refused : goal.returns-clause-refused
returns-clause-refused g c =
    λ none. refused_code c.perform_words-status.result c.code.result c.code.ensures
    (c.perform_words-status.ensures.refused none)

pub returns-clause-untouched : goal.returns-clause-untouched
returns-clause-untouched g c = c.perform_words-status.ensures.untouched

pub returns-clause-door_left : goal.returns-clause-door_left
returns-clause-door_left g c = c.perform_words-status.ensures.door_left

pub returns-clause-input_left : goal.returns-clause-input_left
returns-clause-input_left g c = c.perform_words-status.ensures.input_left

pub returns-clause-ended : goal.returns-clause-ended
returns-clause-ended g c = record {
  status = c.perform_words-status.result;
  is_code = c.code.ensures;
  error = c.tell.ensures;
  performed = c.perform_words-status.ensures.performed;
}

pub returns-clause-complete : goal.returns-clause-complete
returns-clause-complete g c = λ read write door. record {
  status = c.perform_words-status.result;
  is_code = c.code.ensures;
  completed = c.perform_words-status.ensures.complete read write door;
}

pub returns-clause-safe : goal.returns-clause-safe
returns-clause-safe g c =
    λ journal is. each (λ bytes. IsSafe (journal_of (history bytes)) (clock (history bytes))) c.schedules.ensures.safe
    (g.S.Source.left c.args.input.now)

pub returns-clause-served : goal.returns-clause-served
returns-clause-served g c =
    λ journal is. each (λ bytes. AreAllServed (ran bytes)) c.schedules.ensures.served (g.S.Source.left c.args.input.now)

pub returns-clause-handed : goal.returns-clause-handed
returns-clause-handed g c = λ journal is. each AreHandedOn c.schedules.ensures.handed (g.S.Source.left c.args.input.now)

pub returns-clause-read : goal.returns-clause-read
returns-clause-read g c =
    λ four. c.perform_words-status.ensures.read (read_by c.perform_words-status.result (sym c.code.ensures ∙ four))

pub returns-clause-write : goal.returns-clause-write
returns-clause-write g c =
    λ five. c.perform_words-status.ensures.write (write_by c.perform_words-status.result (sym c.code.ensures ∙ five))

pub returns-clause-door : goal.returns-clause-door
returns-clause-door g c =
    λ eight. c.perform_words-status.ensures.door (door_by c.perform_words-status.result (sym c.code.ensures ∙ eight))

pub returns-clause-sound : goal.returns-clause-sound
returns-clause-sound g c = λ zero asked.
    sound_by _ c.perform_words-status.result _ c.perform_words-status.ensures.performed asked
    (done_by c.perform_words-status.result (sym c.code.ensures ∙ zero))
