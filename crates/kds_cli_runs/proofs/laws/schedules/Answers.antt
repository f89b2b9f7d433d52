use Rattle.kds_cli_runs.proofs.laws.schedules.Goals as goal

pub returns-clause-handed : goal.returns-clause-handed
returns-clause-handed c =
    λ bytes lines later parts. (
      c.handed_off.ensures.marked bytes lines later parts,
      c.handed_off.ensures.once bytes lines later parts,
    )
