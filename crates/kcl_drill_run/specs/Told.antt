-- What a drill has written to its output when it ended with a status.
use Rattle.std.specs.Prelude.{ℕ, List, []}
use Rattle.std.specs.declared.option.Option.{Option}
use Rattle.std.specs.Io.KnownBytes.{Appends}
use Rattle.kds_ends.specs.Causes.{AppendsFront}
use Rattle.kds_ends.specs.declared.status.Status.{Status}
use Rattle.kds_ends.specs.declared.status.Status.TheVariants.{Done, Write, Memory}
use Rattle.kcl_drill.specs.Summed.{drill_text}

-- What the drill added to the sink: with Done its text, with Write a prefix of it, and with Memory nothing.
abbrev pub DrillTells : (status : Status) (number records : ℕ) (held now : Option (List ℕ)) → Type 0
DrillTells Done number records held now = Appends held now (drill_text number records)
DrillTells Write number records held now = AppendsFront held now (drill_text number records)
DrillTells Memory number records held now = Appends held now []
DrillTells _ number records held now = ⊥
