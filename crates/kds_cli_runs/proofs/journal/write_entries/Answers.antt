use Rattle.std.proofs.Common.{refl}
use Rattle.kds_cli_runs.specs.Entries.{lines_journal}
use Rattle.kds_cli_runs.proofs.Answering.{tells_all, ran_all, replays}
use Rattle.kds_cli_runs.proofs.Growing.{all_grow}
use Rattle.kds_cli_runs.proofs.journal.write_entries.Goals as goal

pub read_lines-outcome-requires : goal.read_lines-outcome-requires
read_lines-outcome-requires g c = record { are_lines = refl; made = c.requires }

pub returns-clause-told : goal.returns-clause-told
returns-clause-told g c =
    rw c.status_of.ensures
    (tells_all lines_journal c.one_after_another.ensures.judged
    (all_grow c.turn_by_turn.ensures.lines c.turn_by_turn.ensures.text
    c.few_turns.ensures.line c.one_after_another.ensures.states) c.read_lines-outcome.result
    (g.S.Source.left c.args.input.now) _ _ _ _
    c.read_lines-outcome.ensures.told)

pub returns-clause-ran : goal.returns-clause-ran
returns-clause-ran g c =
    rw c.status_of.ensures
    (ran_all lines_journal c.one_after_another.ensures.judged
    (all_grow c.turn_by_turn.ensures.lines c.turn_by_turn.ensures.text
    c.few_turns.ensures.line c.one_after_another.ensures.states) c.read_lines-outcome.result
    (g.S.Source.left c.args.input.now) _ _ _ _
    c.read_lines-outcome.ensures.told)

pub returns-clause-kinds : goal.returns-clause-kinds
returns-clause-kinds g c = rw c.status_of.ensures (replays c.read_lines-outcome.result)
