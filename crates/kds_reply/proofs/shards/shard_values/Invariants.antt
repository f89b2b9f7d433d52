use Rattle.std.proofs.Common.{◌≡◌, map, take}
use Rattle.serde_json.specs.View.{view}
use Rattle.kds_reply.specs.Shards.{shard_data}
use Rattle.kds_reply.proofs.shards.shard_values.Given as goal

-- The JSON values so far stand for the shards passed.
abbrev pub invariant-loop-shard : goal.invariant-loop-shard
invariant-loop-shard l = map view l.values.items ≡ map shard_data (take l.shard-index l.shards)
