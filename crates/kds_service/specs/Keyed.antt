-- Which shard has a key (the numbers of its stream and its shard), and whether it is listed.
use Rattle.std.specs.Prelude.{ℕ, ◌==◌, Bool, false, if◌then◌else◌, List, [], ◌∷◌, ◌++◌, slice_get, Option, Some, None}
use Rattle.kds_base.specs.declared.lease_key.ShardRef.{ShardRef}
use Rattle.kds_defs.specs.Journal.{Journal}
use Rattle.kds_defs.specs.Listings.{refs_of}
use Rattle.kds_defs.specs.Shards.{ShardState, listed_among, shard_at}
use Rattle.kds_defs.specs.Streams.{floor_of, is_live}
use Rattle.kds_stream.specs.Value.{StreamValue, is_listed_at}

-- The first stream with the number `s`.
abbrev pub stream_at : (vs : List StreamValue) (s : ℕ) → Option StreamValue
stream_at [] s = None
stream_at (v ∷ vs) s = if v.no == s then Some v else stream_at vs s

-- The state of shard `sh` of the stream.
abbrev pub state_of : (v : Option StreamValue) (sh : ℕ) → Option ShardState
state_of None sh = None
state_of (Some v) sh = slice_get v.tree sh

-- Whether the stream has a shard `sh` that is listed: it wasn't closed at or before the cut.
abbrev pub is_listed_of : (v : Option StreamValue) (sh : ℕ) → Bool
is_listed_of None sh = false
is_listed_of (Some v) sh = is_listed_at (floor_of v.cut) (slice_get v.tree sh)

-- The state of the shard with the key.
abbrev pub state_in : (vs : List StreamValue) (key : ShardRef) → Option ShardState
state_in vs key = state_of (stream_at vs key.stream) key.shard

-- Whether the shard with the key exists and is listed.
abbrev pub is_listed_in : (vs : List StreamValue) (key : ShardRef) → Bool
is_listed_in vs key = is_listed_of (stream_at vs key.stream) key.shard

-- The keys of all listed shards, stream by stream and in the order of the shards.
abbrev pub listed_keys : (vs : List StreamValue) → List ShardRef
listed_keys [] = []
listed_keys (v ∷ vs) = refs_of v.no (listed_among (floor_of v.cut) v.tree) ++ listed_keys vs

-- The state of the shard with the key in the journal, if its stream is live.
abbrev pub live_shard : (log : Journal) (key : ShardRef) → Option ShardState
live_shard log key = if is_live log key.stream then shard_at log key.stream key.shard else None
