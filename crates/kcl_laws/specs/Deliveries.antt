-- Which records were read and given, up to the positions of a tenure and the checkpoint of a row.
use Rattle.std.specs.Prelude.{ℕ, ◌<◌, ◌≤◌, ◌≡◌, ◌⊎◌, Some}
use Rattle.std.specs.List.{AllByRecursion}
use Rattle.kds_base.specs.declared.lease_key.ShardRef.{ShardRef}
use Rattle.kds_defs.specs.declared.command.Origin.TheVariants.{TrimHorizon}
use Rattle.kds_defs.specs.declared.reply.Row.{Row}
use Rattle.kds_defs.specs.Journal.{Journal}
use Rattle.kds_defs.specs.Leases.{TenureState, delivered, origin_of, reach, row, tenure}
use Rattle.kds_defs.specs.Records.{records}
use Rattle.kds_defs.specs.Safe.{IsCovered, IsRead, IsSettled, SettledBetween}

-- From `floor` on, each record below `reach` was read, given or trimmed; below `delivered`, it was given or trimmed.
pub record ReadsOn (log : Journal) (c floor : ℕ) (T : TenureState) : Type 0 where
  pub given : SettledBetween log c T.key floor (delivered T)
  pub read : AllByRecursion (λ r. floor ≤ r.seq → r.seq < reach T → IsRead r.seq T.reads ⊎ IsSettled log c T.key r)
      (records log T.key.stream T.key.shard)

-- Each tenure whose key has a row has read on (`ReadsOn`) from the row's floor.
abbrev pub AreReadOn : (log : Journal) (c : ℕ) → Type 0
AreReadOn log c = (t : ℕ) (T : TenureState) (r : Row) → tenure log t ≡ Some T → row log T.key ≡ Some r
    → ReadsOn log c r.floor T

-- For a row with the origin TRIM_HORIZON, each record up to the checkpoint was given or is trimmed.
abbrev pub AreWhole : (log : Journal) (c : ℕ) → Type 0
AreWhole log c = (key : ShardRef) (r : Row) → row log key ≡ Some r → origin_of log key ≡ Some TrimHorizon
    → IsCovered log c key 0 r.checkpoint
