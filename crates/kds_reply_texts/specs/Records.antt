-- JSON values for the records of GetRecords, and for the whole reply.
use Rattle.std.specs.Prelude.{ℕ, List, codes, Option, Some, None}
use Rattle.std.specs.Str.Lossy.{utf8_lossy}
use Rattle.base64.specs.Engines.{standard}
use Rattle.base64.specs.GeneralPurpose.{encode_of}
use Rattle.serde_json.specs.Data.{unsigned, Data, null, number, string, object, no_members, member}
use Rattle.kds_defs.specs.declared.reply.Iter.{Iter}
use Rattle.kds_defs.specs.declared.reply.Shard.{Shard}
use Rattle.kds_defs.specs.declared.reply.Stored.{Stored}
use Rattle.kds_reply_texts.specs.Bodies.{number_data, list_data, seconds_data, iterator_string}
use Rattle.kds_reply_texts.specs.Children.{child_data}

-- A JSON string of bytes in padded standard base64 (RFC 4648, section 4).
abbrev pub blob_data : (bytes : List ℕ) → Data
blob_data bytes = string (encode_of standard bytes)

-- The partition key as a JSON string; invalid UTF-8 would be replaced, but no history has such keys.
abbrev pub key_data : (key : List ℕ) → Data
key_data key = string (utf8_lossy key)

-- The object for a record (Kinesis API Reference, Record).
unfoldable pub record_data : (r : Stored) → Data
record_data r =
    object
    (member (codes "ApproximateArrivalTimestamp") (seconds_data r.arrival)
    (member (codes "Data") (blob_data r.payload)
    (member (codes "PartitionKey") (key_data r.key)
    (member (codes "SequenceNumber") (number_data r.seq) no_members))))

-- GetRecords: at a shard's end, a null iterator and children (Kinesis API Reference, GetRecords, Response Elements).
unfoldable pub records_data : (batch : List Stored) (next : Option Iter) (behind : ℕ) (children : List Shard) → Data
records_data batch (Some next) behind children =
    object
    (member (codes "MillisBehindLatest") (number (unsigned behind))
    (member (codes "NextShardIterator") (iterator_string next)
    (member (codes "Records") (list_data record_data batch) no_members)))
records_data batch None behind children =
    object
    (member (codes "ChildShards") (list_data child_data children)
    (member (codes "MillisBehindLatest") (number (unsigned behind))
    (member (codes "NextShardIterator") null
    (member (codes "Records") (list_data record_data batch) no_members))))
