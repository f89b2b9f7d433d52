use Rattle.std.proofs.Common.{◌∙◌}
use Rattle.kds_ends.proofs.Writing.{appends_three}
use Rattle.kds_cli_runs.proofs.errors.write_number.Goals as goal

pub returns-clause-ok : goal.returns-clause-ok
returns-clause-ok g c =
    appends_three _ _ _ _ _ _ _ _ _ _ c.as_slice.ensures (c.as_bytes.ensures.value ∙ c.format.ensures.text)
    c.as_slice-2.ensures
    c.in_ok-write_all.ensures.ok c.in_ok-write_all-2.ensures.ok c.in_ok-write_all-3.ensures.ok
