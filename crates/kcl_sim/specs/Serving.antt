-- What holds for each worker and its hand-offs: calls match given reads, and nothing given is read again.
use Rattle.std.specs.Prelude.{◌≡◌, ℕ, List, slice_get, Some}
use Rattle.std.specs.List.{AllByRecursion}
use Rattle.kds_defs.specs.declared.command.Turn.{Turn}
use Rattle.kcl_hand.specs.Joints as joint
use Rattle.kcl_hand.specs.Joints.{hands_after}
use Rattle.kcl_hand.specs.Twice.{IsHandedOffIfFreed, IsNeverReadAgain}
use Rattle.kcl_sim.specs.Output.{Ran}
use Rattle.kcl_sim.specs.Workers.{Employed, actor_at}

-- For each worker and its hand-offs, the processors are called for the given reads of their tenures.
abbrev pub AreAllServed : (ran : Ran) → Type 0
AreAllServed ran = (index : ℕ) (e : Employed) → slice_get ran.workers index ≡ Some e
    → joint.AreAllServed (actor_at index) ran.history e.made e.past

-- If a hand-off freed its row, all handed to its processor is given, at or below any remaining row's checkpoint.
abbrev pub AreHandedOff : (ran : Ran) → Type 0
AreHandedOff ran = (index : ℕ) (e : Employed) → slice_get ran.workers index ≡ Some e
    → AllByRecursion (IsHandedOffIfFreed (actor_at index) ran.history) (hands_after e.made e.past)

-- A tenure begun in `h` right after the run reads nothing given in a hand-off of its key that freed its row.
abbrev pub AreNeverReadAgain : (h : List Turn) (ran : Ran) → Type 0
AreNeverReadAgain h ran = (index : ℕ) (e : Employed) → slice_get ran.workers index ≡ Some e
    → AllByRecursion (IsNeverReadAgain (actor_at index) h ran.history) (hands_after e.made e.past)
