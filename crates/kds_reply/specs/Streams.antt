-- JSON objects for streams, and the reply to ListStreams.
use Rattle.std.specs.Prelude.{ℕ, List, ◌++◌, codes, Bool}
use Rattle.serde_json.specs.Data.{unsigned, Data, boolean, number, string, array, object, no_items, item, Members}
use Rattle.serde_json.specs.Data.{no_members, member}
use Rattle.kds_defs.specs.declared.reply.About.{About}
use Rattle.kds_defs.specs.declared.reply.Shard.{Shard}
use Rattle.kds_reply_texts.specs.Bodies.{list_data, seconds_data}
use Rattle.kds_reply.specs.Shards.{shard_data}

-- The reply to ListStreams (Kinesis API Reference, ListStreams, Response Elements).
unfoldable pub streams_data : (names : List (List ℕ)) (more : Bool) → Data
streams_data names more =
    object
    (member (codes "HasMoreStreams") (boolean more)
    (member (codes "StreamNames") (list_data string names) no_members))

-- EnhancedMonitoring with an empty list of metrics, as none are kept (Kinesis API Reference, EnhancedMetrics).
abbrev pub monitoring_data : Data
monitoring_data = array (item (object (member (codes "ShardLevelMetrics") (array no_items) no_members)) no_items)

-- The ARN of a stream (Kinesis API Reference, StreamDescription, StreamARN).
abbrev pub arn_data : (name : List ℕ) → Data
arn_data name = string (codes "arn:aws:kinesis:local:000000000000:stream/" ++ name)

-- A live stream is always ACTIVE (Kinesis API Reference, StreamDescription, StreamStatus).
abbrev pub status_data : Data
status_data = string (codes "ACTIVE")

-- The members common to the replies to DescribeStream and DescribeStreamSummary.
abbrev pub about_members : (about : About) → Members
about_members about =
    member (codes "EnhancedMonitoring") monitoring_data
    (member (codes "RetentionPeriodHours") (number (unsigned about.hours))
    (member (codes "StreamARN") (arn_data about.name)
    (member (codes "StreamCreationTimestamp") (seconds_data about.made)
    (member (codes "StreamName") (string about.name)
    (member (codes "StreamStatus") status_data no_members)))))

-- A stream with its shards, and whether more follow (Kinesis API Reference, StreamDescription).
unfoldable pub description_data : (about : About) (shards : List Shard) (more : Bool) → Data
description_data about shards more =
    object
    (member (codes "EnhancedMonitoring") monitoring_data
    (member (codes "HasMoreShards") (boolean more)
    (member (codes "RetentionPeriodHours") (number (unsigned about.hours))
    (member (codes "Shards") (list_data shard_data shards)
    (member (codes "StreamARN") (arn_data about.name)
    (member (codes "StreamCreationTimestamp") (seconds_data about.made)
    (member (codes "StreamName") (string about.name)
    (member (codes "StreamStatus") status_data no_members))))))))

-- A stream with its number of open shards (Kinesis API Reference, StreamDescriptionSummary).
unfoldable pub description_summary_data : (about : About) (open_shards : ℕ) → Data
description_summary_data about open_shards =
    object
    (member (codes "EnhancedMonitoring") monitoring_data
    (member (codes "OpenShardCount") (number (unsigned open_shards))
    (member (codes "RetentionPeriodHours") (number (unsigned about.hours))
    (member (codes "StreamARN") (arn_data about.name)
    (member (codes "StreamCreationTimestamp") (seconds_data about.made)
    (member (codes "StreamName") (string about.name)
    (member (codes "StreamStatus") status_data no_members)))))))

-- The reply to DescribeStream (Kinesis API Reference, DescribeStream, Response Elements).
unfoldable pub described_data : (about : About) (shards : List Shard) (more : Bool) → Data
described_data about shards more =
    object (member (codes "StreamDescription") (description_data about shards more) no_members)

-- The reply to DescribeStreamSummary (Kinesis API Reference, DescribeStreamSummary, Response Elements).
unfoldable pub summary_data : (about : About) (open_shards : ℕ) → Data
summary_data about open_shards =
    object (member (codes "StreamDescriptionSummary") (description_summary_data about open_shards) no_members)

-- The reply: open shards before and to come (Kinesis API Reference, UpdateShardCount, Response Elements).
unfoldable pub scaled_data : (name : List ℕ) (old target : ℕ) → Data
scaled_data name old target =
    object
    (member (codes "CurrentShardCount") (number (unsigned old))
    (member (codes "StreamName") (string name)
    (member (codes "TargetShardCount") (number (unsigned target)) no_members)))
