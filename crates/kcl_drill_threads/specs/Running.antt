-- The members of a drill, which are its workers, before and after their runs.
use Rattle.std.specs.Prelude.{◌≡◌, ◌⊎◌, ℕ, ◌<◌, List, length, slice_index_or}
use Rattle.kcl_defs.specs.declared.consumer.Call.{Call}
use Rattle.kcl_live.specs.declared.crew.Member.{Member}
use Rattle.kcl_drill.specs.declared.limits.TheConstants.{TICK}
use Rattle.kcl_live.specs.Members.{HasEnded}

module _ {M P F G : Type 0} (stands : P → List Call → Type 0) (turns : ℕ) (old new : List (Member M P F G)) where
  -- Each member's run, of `turns` turns and then the stopped worker's, has ended, perhaps early by an error.
  abbrev pub HaveEnded : Type 0
  HaveEnded = (i : ℕ) (m : Member M P F G) → i < length old
      → HasEnded stands turns TICK (slice_index_or old i m) (slice_index_or new i m)

  -- Each member's run has ended, or the member is unchanged, as if its run hadn't begun.
  abbrev pub HaveEndedOrNot : Type 0
  HaveEndedOrNot =
      (i : ℕ) (m : Member M P F G) → i < length old
      → HasEnded stands turns TICK (slice_index_or old i m) (slice_index_or new i m)
      ⊎ (slice_index_or new i m ≡ slice_index_or old i m)
