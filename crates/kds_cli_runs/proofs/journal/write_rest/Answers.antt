use Rattle.std.proofs.Common.{refl, sym, ◌∙◌}
use Rattle.kds_cli_runs.specs.Journal.{first_line}
use Rattle.kds_cli_runs.proofs.Journaling.{begins_all, bits_all, done_by, ends_with, not_done_by, ran_behind_all}
use Rattle.kds_cli_runs.proofs.Journaling.{ran_ends_with}
use Rattle.kds_cli_runs.proofs.journal.write_rest.Goals as goal

pub returns-then-is_done-clause-told : goal.returns-then-is_done-clause-told
returns-then-is_done-clause-told g c = λ start first.
    ends_with c.write_entries-status.result c.write_last.result (g.S.Source.left c.args.input.now)
    _ start _ _ _ c.write_entries-status.new.sim c.clock.result
    (done_by c.write_entries-status.result (sym c.is_done.ensures ∙ c.if-is_done.true)) c.clock.ensures first
    c.write_entries-status.ensures.told c.write_entries-status.ensures.ran c.write_last.ensures.told

pub returns-clause-told : goal.returns-clause-told
returns-clause-told g c = λ start first.
    begins_all c.write_entries-status.result (g.S.Source.left c.args.input.now) _ start _ _ first_line refl
    (not_done_by c.write_entries-status.result (sym c.is_done.ensures ∙ c.if-is_done.false))
    first c.write_entries-status.ensures.told

pub returns-then-is_done-clause-ran : goal.returns-then-is_done-clause-ran
returns-then-is_done-clause-ran g c = λ start first.
    ran_ends_with c.write_entries-status.result c.write_last.result (g.S.Source.left c.args.input.now)
    start _ _ _ c.write_entries-status.new.sim c.clock.result
    (done_by c.write_entries-status.result (sym c.is_done.ensures ∙ c.if-is_done.true)) c.clock.ensures first
    c.write_entries-status.ensures.ran c.write_last.ensures.told

pub returns-clause-ran : goal.returns-clause-ran
returns-clause-ran g c = λ start first.
    ran_behind_all c.write_entries-status.result (g.S.Source.left c.args.input.now)
    start _ _ c.write_entries-status.new.sim
    (not_done_by c.write_entries-status.result (sym c.is_done.ensures ∙ c.if-is_done.false))
    first c.write_entries-status.ensures.ran

pub returns-then-is_done-clause-bits : goal.returns-then-is_done-clause-bits
returns-then-is_done-clause-bits g c = λ done.
    bits_all c.write_entries-status.result (g.S.Source.left c.args.input.now) _ _ c.write_entries-status.new.sim
    (done_by c.write_entries-status.result (sym c.is_done.ensures ∙ c.if-is_done.true)) c.kept.ensures.0
    c.write_entries-status.ensures.ran

pub returns-clause-bits : goal.returns-clause-bits
returns-clause-bits g c =
    λ done. absurd (not_done_by c.write_entries-status.result (sym c.is_done.ensures ∙ c.if-is_done.false) done)
