use Rattle.kcl_audit.proofs.SoundTexts.{sound_text}
use Rattle.kcl_audit.proofs.laws.legal.Goals as goal

pub returns : goal.returns
returns c = sound_text c.one_entry.ensures.reads c.one_entry.ensures.end_reads c.exact.ensures.ok
