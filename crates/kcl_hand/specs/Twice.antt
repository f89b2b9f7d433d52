-- When nothing is read twice: what a tenure gave up to the checkpoint isn't read in a later tenure.
use Rattle.std.specs.Prelude.{ℕ, ◌≡◌, ◌≤◌, List, Some}
use Rattle.kds_base.specs.declared.lease_key.Checkpoint.{Checkpoint}
use Rattle.kds_base.specs.declared.lease_key.Checkpoint.TheVariants.{TrimHorizon, At, ShardEnd}
use Rattle.kds_defs.specs.declared.command.Turn.{Turn}
use Rattle.kds_defs.specs.declared.reply.Row.{Row}
use Rattle.kds_defs.specs.Histories.{journal}
use Rattle.kds_defs.specs.Journal.{Journal}
use Rattle.kds_defs.specs.Leases.{TenureState, checkpoint_in, given_reads, row, tenure}
use Rattle.kds_defs.specs.Safe.{IsRead}
use Rattle.kcl_laws.specs.TenureLines.{Told, taking}
use Rattle.kcl_defs.specs.WorkerLives.{IsServedWhole}
use Rattle.kcl_hand.specs.declared.stand.Left.TheVariants as left
use Rattle.kcl_hand.specs.declared.stand.Stand.TheVariants as stand
use Rattle.kcl_hand.specs.Joints.{HandOff, known_in, state_of}

-- `n` is at or below the checkpoint: ShardEnd is above all numbers, TrimHorizon below all.
abbrev pub IsUpTo : (n : ℕ) (checkpoint : Checkpoint) → Type 0
IsUpTo n TrimHorizon = ⊥
IsUpTo n (At q) = n ≤ q
IsUpTo n ShardEnd = Unit {0}

-- What the tenure gave is at or below the checkpoint.
abbrev pub IsMarked : (tenure_state : TenureState) (checkpoint : Checkpoint) → Type 0
IsMarked T checkpoint = (n : ℕ) → IsRead n (given_reads T) → IsUpTo n checkpoint

-- When tenure `u` began, all that tenure `t` of its key had given was at or below the row's checkpoint.
pub record FollowsMarked (log : Journal) (t u : ℕ) (T U : TenureState) : Type 0 where
  pub begun : Told
  pub began : taking log u ≡ Some begun
  pub before : tenure begun.before t ≡ Some T
  pub after : tenure log u ≡ Some U
  pub of_key : T.key ≡ U.key
  pub marked : IsMarked T (checkpoint_in (row begun.before T.key))

-- Nothing given in the first tenure is read in the second.
abbrev pub IsReadOnce : (old new : TenureState) → Type 0
IsReadOnce T U = (n : ℕ) → IsRead n (given_reads T) → IsRead n U.reads → ⊥

-- ---- A hand-off that freed its row

-- All batches handed over are given, and if the row exists, are at or below its checkpoint.
pub record IsHandedOff (actor : ℕ) (h : List Turn) (x : HandOff) : Type 0 where
  pub whole : IsServedWhole actor h (known_in x)
  pub marked : (T : TenureState) (r : Row) → tenure (journal h) x.made.tenure ≡ Some T → row (journal h) T.key ≡ Some r
      → IsMarked T r.checkpoint

-- `IsHandedOff` holds if the hand-off has freed its row.
abbrev pub IsHandedOffIfFreed : (actor : ℕ) (h : List Turn) (x : HandOff) → Type 0
IsHandedOffIfFreed actor h x = (counter : ℕ) → (state_of x).stand ≡ stand.Ended (left.Handed counter)
    → IsHandedOff actor h x

-- ---- A later tenure

-- The tenure `u` began right after the turns `old`, when its key had a row.
pub record BeginsAfter (h old : List Turn) (u : ℕ) (U : TenureState) : Type 0 where
  pub begun : Told
  pub began : taking (journal h) u ≡ Some begun
  pub lines : begun.before ≡ journal old
  pub after : tenure (journal h) u ≡ Some U
  pub taken : Row
  pub there : row (journal old) U.key ≡ Some taken

-- After the freeing, a tenure of the key that begins next reads nothing that the hand-off's tenure gave.
abbrev pub IsNeverReadAgain : (actor : ℕ) (h old : List Turn) (x : HandOff) → Type 0
IsNeverReadAgain actor h old x = (counter : ℕ) → (state_of x).stand ≡ stand.Ended (left.Handed counter)
    → (u : ℕ) (T U : TenureState) → tenure (journal old) x.made.tenure ≡ Some T → BeginsAfter h old u U
    → T.key ≡ U.key → IsReadOnce T U
