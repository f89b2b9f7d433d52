-- The keys of leases: a stream's number and a shard's number in this stream.
use Rattle.std.specs.Prelude.{ℕ, Bool, ◌==◌, ◌&&◌, nat_lt, if◌then◌else◌}
use Rattle.kds_base.specs.declared.lease_key.ShardRef.{ShardRef}
use Rattle.kds_defs.specs.Journal.{Journal}
use Rattle.kds_defs.specs.Shards.{is_listed}

-- The key of shard `sh` of stream `s`.
abbrev pub ref : (s sh : ℕ) → ShardRef
ref s sh = record { stream = s; shard = sh }

-- Whether two keys name the same shard.
abbrev pub same_key : (a b : ShardRef) → Bool
same_key a b = (a.stream == b.stream) && (a.shard == b.shard)

-- Whether `a` comes before `b`: keys are ordered by stream, and within a stream by shard.
abbrev pub is_before : (a b : ShardRef) → Bool
is_before a b =
    if a.stream == b.stream then nat_lt a.shard b.shard else nat_lt a.stream b.stream

-- Whether the key's shard is listed.
abbrev pub is_listed_key : (log : Journal) (c : ℕ) (key : ShardRef) → Bool
is_listed_key log c key = is_listed log c key.stream key.shard
