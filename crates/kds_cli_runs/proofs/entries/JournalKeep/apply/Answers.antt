use Rattle.std.proofs.Common.{sym, subst}
use Rattle.kds_defs.specs.Lawful.{IsLawful}
use Rattle.kds_cli_runs.proofs.entries.JournalKeep.apply.Goals as goal

pub note-requires-clause-lawful : goal.note-requires-clause-lawful
note-requires-clause-lawful g c = subst IsLawful (sym c.in_ok-copy.ensures) c.requires.lawful

pub note-requires-clause-answered : goal.note-requires-clause-answered
note-requires-clause-answered g c =
    let s = c.requires.stands in
    let a = c.in_ok-answer.ensures.answered s.1.0 s.1.1.0 in
    (s.0, (s.1.0, (rw c.take-text.ensures.value s.1.1.1.1, rw c.in_ok-copy.ensures a.0)))

pub returns-clause-added : goal.returns-clause-added
returns-clause-added g c = λ cleared_at h stood kept.
    let a = c.in_ok-answer.ensures.answered h stood in
    let noted = c.note.ensures cleared_at h (rw c.take-text.ensures.value kept.1) (rw c.in_ok-copy.ensures a.0) in
    ((c.fits_types.ensures, kept.0), rw (sym c.in_ok-copy.ensures) noted)
