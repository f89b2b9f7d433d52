-- How the runs of a drill's workers ended: all without an error, or at least one with an error.
use Rattle.std.specs.Prelude.{◌≡◌, ◌⊎◌, List, [], ◌∷◌, Err, IsOk}
use Rattle.std.specs.List.{AllByRecursion}
use Rattle.kds_turn.specs.declared.pass.TurnErr.{TurnErr}
use Rattle.kcl_live.specs.declared.crew.Member.{Member}

-- The run of each worker ended without an error.
abbrev pub AllEnded : {M P F G : Type 0} → (ms : List (Member M P F G)) → Type 0
AllEnded ms = AllByRecursion (λ m. IsOk m.outcome) ms

-- The run of at least one worker ended with the error `e`.
abbrev pub SomeFailed : {M P F G : Type 0} → (e : TurnErr) (ms : List (Member M P F G)) → Type 0
SomeFailed e [] = ⊥
SomeFailed e (m ∷ ms) = (m.outcome ≡ Err e) ⊎ SomeFailed e ms
