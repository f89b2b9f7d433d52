use Rattle.std.proofs.Common.{rules, ◌≡◌}
use Rattle.kds_cli_runs.specs.Journal.{first_line}
use Rattle.kds_cli_runs.proofs.Journaling.{audited_all, first_broke, first_there, no_write, none_ran_all}
use Rattle.kds_cli_runs.proofs.journal.record_schedule.Goals as goal

pub returns-in-Ok-clause-told : goal.returns-in-Ok-clause-told
returns-in-Ok-clause-told g c =
    let line : c.as_slice.result.now ≡ first_line = search rules in
    c.write_rest.ensures.told _ (first_there _ _ c.as_slice.result.now line c.in-Ok.ensures.ok)

pub returns-in-Err-clause-told : goal.returns-in-Err-clause-told
returns-in-Err-clause-told g c =
    let line : c.as_slice.result.now ≡ first_line = search rules in
    first_broke _ (g.S.Source.left c.args.input.now) _ _ c.as_slice.result.now line c.in-Err.ensures.err

pub returns-in-Ok-clause-ran : goal.returns-in-Ok-clause-ran
returns-in-Ok-clause-ran g c =
    let line : c.as_slice.result.now ≡ first_line = search rules in
    c.write_rest.ensures.ran _ (first_there _ _ c.as_slice.result.now line c.in-Ok.ensures.ok)

pub returns-in-Err-clause-ran : goal.returns-in-Err-clause-ran
returns-in-Err-clause-ran g c =
    let line : c.as_slice.result.now ≡ first_line = search rules in
    none_ran_all (g.S.Source.left c.args.input.now) _ _ c.keeping-sim.result c.as_slice.result.now line
    c.keeping-sim.ensures c.in-Err.ensures.err

pub returns-in-Ok-clause-sound : goal.returns-in-Ok-clause-sound
returns-in-Ok-clause-sound g c =
    λ done. audited_all (g.S.Source.left c.args.input.now) c.lawful.ensures.whole c.sound_histories.ensures.sound
    (c.write_rest.ensures.bits done)

pub returns-in-Err-clause-sound : goal.returns-in-Err-clause-sound
returns-in-Err-clause-sound g c = λ done. absurd (no_write done)
