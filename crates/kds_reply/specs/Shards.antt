-- JSON objects for shards, and the reply to ListShards.
use Rattle.std.specs.Prelude.{ℕ, List, codes, Option, option_map}
use Rattle.serde_json.specs.Data.{Data, object, no_members, member}
use Rattle.kds_defs.specs.declared.reply.Page.{Page}
use Rattle.kds_defs.specs.declared.reply.Shard.{Shard}
use Rattle.kds_reply_texts.specs.Bodies.{number_data, id_data, list_data}
use Rattle.kds_reply.specs.Bodies.{member_if, page_string}
use Rattle.kds_reply_texts.specs.Children.{range_data}

-- A shard's starting number, and the ending one if it is closed (Kinesis API Reference, SequenceNumberRange).
unfoldable pub sequence_data : (start : ℕ) (end : Option ℕ) → Data
sequence_data start end =
    object
    (member_if (codes "EndingSequenceNumber") (option_map number_data end)
    (member (codes "StartingSequenceNumber") (number_data start) no_members))

-- The object for a shard, with its parents' IDs even if they have expired (Kinesis API Reference, Shard).
unfoldable pub shard_data : (s : Shard) → Data
shard_data s =
    object
    (member_if (codes "AdjacentParentShardId") (option_map id_data s.adjacent)
    (member (codes "HashKeyRange") (range_data s.range)
    (member_if (codes "ParentShardId") (option_map id_data s.parent)
    (member (codes "SequenceNumberRange") (sequence_data s.start s.end)
    (member (codes "ShardId") (id_data s.no) no_members)))))

-- The reply to ListShards; NextToken if more follow (Kinesis API Reference, ListShards, Response Elements).
unfoldable pub shards_data : (shards : List Shard) (next : Option Page) → Data
shards_data shards next =
    object
    (member_if (codes "NextToken") (option_map page_string next)
    (member (codes "Shards") (list_data shard_data shards) no_members))
