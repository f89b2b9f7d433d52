use Rattle.std.proofs.Common.{◌≡◌, take}
use Rattle.kcl_sim_scribe.specs.Telling.{numbers_read}
use Rattle.kcl_sim_scribe.proofs.leases.numbers_of.Given as goal

-- The numbers so far belong to the records passed.
abbrev pub invariant-loop-stored : goal.invariant-loop-stored
invariant-loop-stored l = l.numbers ≡ numbers_read (take l.stored-index l.batch)
