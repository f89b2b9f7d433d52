use Rattle.kds_service.proofs.Lives.{shows_added, shows_after, shows_none, shows_removed}
use Rattle.kds_service.proofs.laws.others.Goals as goal

pub returns-clause-changed : goal.returns-clause-changed
returns-clause-changed c =
    λ clock b n i vs x v log lines all here numbered is_at is_of shown.
    shows_after clock b n i vs x v log lines c.other_lines.ensures all here numbered is_at is_of shown

pub returns-clause-added : goal.returns-clause-added
returns-clause-added c =
    λ clock b n actor count name vs v log all numbered is_at shown.
    shows_added clock b n actor count name vs v log c.other_lines.ensures all numbered is_at shown

pub returns-clause-removed : goal.returns-clause-removed
returns-clause-removed c =
    λ clock b n actor i vs x log all here. shows_removed clock b n actor i vs x log c.other_lines.ensures all here

pub returns-clause-empty : goal.returns-clause-empty
returns-clause-empty c = shows_none
