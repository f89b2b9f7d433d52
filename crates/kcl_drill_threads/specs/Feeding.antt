-- What a drill's root, which makes the stream, and its feeder, which gives all other commands, have done.
use Rattle.std.specs.Prelude.{◌≡◌, ◌⊎◌, ℕ, ◌<◌, List, [], ◌∷◌, ◌++◌, length, take, drop, Result, IfErr, OnErr, OnOk}
use Rattle.kds_defs.specs.declared.command.Command.{Command}
use Rattle.kds_defs.specs.declared.command.Turn.{Turn}
use Rattle.kds_turn.specs.declared.pass.TurnErr.{TurnErr}
use Rattle.kds_turn.specs.declared.pass.TurnErr.TheVariants as failed
use Rattle.kds_turn.specs.Known.{turns_by}
use Rattle.kds_turn.specs.Passes.{PassValue}
use Rattle.kcl_drill.specs.Generated.{generated}
use Rattle.kcl_drill_threads.specs.Asking.{HasAsked, HasBegun, IsAskErr, IsKept, IsTurnErr}

-- Among the turns that the feeder has seen, the root's turns come before all of its own.
pub record IsAfter (root feeder : PassValue) : Type 0 where
  pub newer : List Turn
  pub older : List Turn
  pub around : feeder.seen ≡ newer ++ (root.own ++ older)
  pub none : 0 < length feeder.own → turns_by feeder.by older ≡ []

-- The root made the generator's first command, and then the feeder made all the others, in order.
pub record HasFed (number records : ℕ) (root feeder : PassValue) : Type 0 where
  pub of_root : HasAsked (take 1 (generated number records)) root
  pub of_feeder : HasAsked (drop 1 (generated number records)) feeder
  pub after : IsAfter root feeder

-- The root and then the feeder each made a prefix, perhaps empty, of their commands.
pub record HasFedSoFar (number records : ℕ) (root feeder : PassValue) : Type 0 where
  pub of_root : HasBegun (take 1 (generated number records)) root
  pub of_feeder : HasBegun (drop 1 (generated number records)) feeder
  pub after : 0 < length feeder.own → IsAfter root feeder

-- The newest turn that the pass has seen is its own.
pub record IsAtOwn (p : PassValue) : Type 0 where
  pub last : Turn
  pub older : List Turn
  pub before : List Turn
  pub seen : p.seen ≡ last ∷ older
  pub own : p.own ≡ last ∷ before

-- The feeder ran out of memory, before its first turn or right after one, or a turn failed (`IsTurnErr`).
abbrev pub IsFeedErr : (p : PassValue) (e : TurnErr) → Type 0
IsFeedErr p e = ((e ≡ failed.Memory) × ((p.own ≡ []) ⊎ IsAtOwn p)) ⊎ IsTurnErr p e

-- With Ok, the feeder made all of the commands `coming`; with an error, it made them up to some command.
pub record Feeds {A : Type 0} (coming : List Command) (old new : PassValue) (result : Result A TurnErr) :
    Type 0 where
  pub kept : IsKept old new
  pub asked : OnOk result (HasAsked coming new)
  pub begun : OnErr result (HasBegun coming new)
  pub none : 0 < length new.own → turns_by new.by old.seen ≡ []
  pub err : IfErr result (IsFeedErr new)

-- The root's command failed and no turn was made, or the root made its turn and the feeder failed.
abbrev pub IsCrowdErr : (old root feeder : PassValue) (e : TurnErr) → Type 0
IsCrowdErr old root feeder e = ((feeder.own ≡ []) × (root.own ≡ []) × IsAskErr old root e)
    ⊎ ((0 < length root.own) × IsFeedErr feeder e)
