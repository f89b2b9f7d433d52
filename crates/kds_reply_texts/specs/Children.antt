-- JSON objects for the child shards that GetRecords returns at the end of a closed shard.
use Rattle.std.specs.Prelude.{ℕ, List, ◌++◌, codes}
use Rattle.std.specs.Option.{option_to_list}
use Rattle.serde_json.specs.Data.{Data, object, no_members, member}
use Rattle.kds_base.specs.Span.{Span}
use Rattle.kds_defs.specs.declared.reply.Shard.{Shard}
use Rattle.kds_reply_texts.specs.Bodies.{number_data, id_data, list_data}

-- A range of hash keys, with ends as decimal strings (Kinesis API Reference, HashKeyRange).
unfoldable pub range_data : (r : Span) → Data
range_data r =
    object
    (member (codes "EndingHashKey") (number_data r.end)
    (member (codes "StartingHashKey") (number_data r.start) no_members))

-- The numbers of the shard's parent and adjacent parent, as far as it has them.
abbrev pub parents_of : (s : Shard) → List ℕ
parents_of s = option_to_list s.parent ++ option_to_list s.adjacent

-- The object for a child shard (Kinesis API Reference, ChildShard).
unfoldable pub child_data : (s : Shard) → Data
child_data s =
    object
    (member (codes "HashKeyRange") (range_data s.range)
    (member (codes "ParentShards") (list_data id_data (parents_of s))
    (member (codes "ShardId") (id_data s.no) no_members)))
