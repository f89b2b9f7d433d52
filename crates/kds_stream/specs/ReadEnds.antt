-- Whether a read of a shard reaches the shard's end.
use Rattle.std.specs.Prelude.{Bool, ℕ}
use Rattle.kds_defs.specs.Journal.{Journal}
use Rattle.kds_defs.specs.Listings.{ends_at}
use Rattle.kds_defs.specs.Records.{batch, numbers_of, position_after}

-- Whether the read leaves no untrimmed record of shard `sh` after it, and the shard is closed.
abbrev pub read_ends : (log : Journal) (c s sh position limit : ℕ) → Bool
read_ends log c s sh position limit =
    ends_at log c s sh (position_after position (numbers_of (batch log c s sh position limit)))
