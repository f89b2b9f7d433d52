-- What a drill's threads have done when they have ended, and the history for which its machine then stands.
use Rattle.std.specs.Prelude.{◌≡◌, ◌⊎◌, ℕ, ◌+◌, ◌^◌, ◌<◌, ◌≤◌, List, [], ◌∷◌, ◌++◌, length, flat_map}
use Rattle.std.specs.List.{AllByRecursion}
use Rattle.kds_defs.specs.declared.command.Turn.{Turn}
use Rattle.kds_defs.specs.Histories.{journal}
use Rattle.kds_turn.specs.declared.view.Account.{Account}
use Rattle.kds_turn.specs.Known.{Continues, account}
use Rattle.kds_turn.specs.Passes.{HallValue, PassValue, accounts_of}
use Rattle.kcl_drill_laws.specs.Closed.{AreFromHorizon, IsFew, IsMemberAccount}
use Rattle.kcl_drill_threads.specs.Feeding.{HasFed, HasFedSoFar, IsCrowdErr}
use Rattle.kcl_drill.specs.declared.limits.TheConstants.{MOST_RECORDS, MOST_WORKERS}
use Rattle.kcl_drill.specs.Fed.{IsDrill}
use Rattle.kcl_live.specs.declared.crew.Member.{Member}
use Rattle.kcl_world.specs.Standing.{StandsFor, WorldValue}
use Rattle.kds_turn.specs.declared.pass.TurnErr.{TurnErr}
use Rattle.kcl_drill_run.specs.Ends.{SomeFailed}
use Rattle.kcl_drill_run.specs.declared.participants.Participants.{Participants}

-- The account of a worker: the number of its pass, and the turns that it made.
abbrev pub account_in : {M P F G : Type 0} → (m : Member M P F G) → Account
account_in m = account m.pass.by m.pass.own

-- The worker has the hall's pass `n`, and no other pass was joined into it.
pub record HasPass {M P F G : Type 0} (hall : HallValue) (n : ℕ) (m : Member M P F G) : Type 0 where
  pub at : m.pass.hall ≡ hall.id
  pub by : m.pass.by ≡ n
  pub alone : m.pass.joined ≡ []

-- The workers have the hall's passes with the numbers from `start` on, in order.
abbrev pub HavePasses : {M P F G : Type 0} → (hall : HallValue) (start : ℕ) (ms : List (Member M P F G)) → Type 0
HavePasses hall start [] = Unit {0}
HavePasses hall start (m ∷ ms) = HasPass hall start m × HavePasses hall (start + 1) ms

-- The threads have ended, perhaps early: root and feeder made their commands up to some, workers few turns.
pub record HaveStopped (hall : HallValue) (number records : ℕ) (p : Participants) : Type 0 where
  pub limit : records ≤ MOST_RECORDS
  pub at : (p.root.hall ≡ hall.id) × (p.feeder.hall ≡ hall.id)
  pub by : (p.root.by ≡ 1) × (p.feeder.by ≡ 2)
  pub alone : (p.root.joined ≡ []) × (p.feeder.joined ≡ [])
  pub begun : HasFedSoFar number records p.root p.feeder
  pub passes : HavePasses hall 3 p.members.items
  pub turns : AllByRecursion (λ m. IsFew records (account_in m)) p.members.items
  pub all : hall.passes ≡ length p.members.items + 2
  pub few : length p.members.items ≤ MOST_WORKERS

-- The threads have ended without an error: root and feeder made all commands, and workers made their whole runs.
pub record HaveRun (hall : HallValue) (number records : ℕ) (p : Participants) : Type 0 where
  pub stopped : HaveStopped hall number records p
  pub fed : HasFed number records p.root p.feeder
  pub made : AllByRecursion (λ m. IsMemberAccount records (account_in m)) p.members.items

-- The threads stopped early with `e`, because the root, the feeder or at least one worker failed with it.
abbrev pub HaveFailed : (old new : Participants) (e : TurnErr) → Type 0
HaveFailed old new e = IsCrowdErr old.root new.root new.feeder e ⊎ SomeFailed e new.members.items

-- ---- How many turns a pass has seen

-- The pass has seen 2^64 - 1 turns, the most that can be counted.
abbrev pub IsFull : (p : PassValue) → Type 0
IsFull p = length p.seen + 1 ≡ 2 ^ 64

-- The pass of at least one worker is full (`IsFull`).
abbrev pub SomeIsFull : {M P F G : Type 0} → (ms : List (Member M P F G)) → Type 0
SomeIsFull [] = ⊥
SomeIsFull (m ∷ ms) = IsFull m.pass ⊎ SomeIsFull ms

-- The pass of the root, of the feeder, or of at least one worker is full (`IsFull`).
abbrev pub AreFull : (p : Participants) → Type 0
AreFull p = IsFull p.root ⊎ IsFull p.feeder ⊎ SomeIsFull p.members.items

-- The pass has seen fewer than 2^32 turns.
abbrev pub IsShort : (p : PassValue) → Type 0
IsShort p = length p.seen < 2 ^ 32

-- All passes have seen fewer than 2^32 turns each.
pub record AreShort (p : Participants) : Type 0 where
  pub root : IsShort p.root
  pub feeder : IsShort p.feeder
  pub members : AllByRecursion (λ m. IsShort m.pass) p.members.items

-- ---- The end of the hall: all passes are joined into one

-- The accounts of a worker's pass and of the passes that were joined into it.
abbrev pub accounts_in : {M P F G : Type 0} → (m : Member M P F G) → List Account
accounts_in m = accounts_of m.pass

-- `last` is the root's pass with the feeder's and then the workers' joined, and has seen all that they had seen.
pub record HasTaken (p : Participants) (last : PassValue) : Type 0 where
  pub by : last.by ≡ p.root.by
  pub own : last.own ≡ p.root.own
  pub joined : last.joined ≡ p.root.joined ++ (accounts_of p.feeder ++ flat_map accounts_in p.members.items)
  pub seen_root : Continues last.seen p.root.seen
  pub seen : Continues last.seen p.feeder.seen
  pub seen_members : AllByRecursion (λ m. Continues last.seen m.pass.seen) p.members.items

-- The machine stands for a short history of the drill, whose rows were all made with the origin TRIM_HORIZON.
pub record HasDrilled (number records : ℕ) (w : WorldValue) : Type 0 where
  pub turns : List Turn
  pub stands : StandsFor w turns
  pub drill : IsDrill turns number records
  pub few : length turns < 2 ^ 32
  pub horizon : AreFromHorizon (journal turns)
