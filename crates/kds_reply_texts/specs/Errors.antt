-- The bodies of error responses to refused commands (Kinesis API Reference, the Errors of each action).
use Rattle.std.specs.Prelude.{ℕ, List, [], codes}
use Rattle.serde_json.specs.Data.{Data, string, object, member, no_members}
use Rattle.serde_json.specs.Written.{compact_text}
use Rattle.kds_defs.specs.declared.reply.Refusal.{Refusal}
use Rattle.kds_defs.specs.declared.reply.Refusal.TheVariants.{NoStream, StreamThere, NoShard, ShardClosed, NotAdjacent}
use Rattle.kds_defs.specs.declared.reply.Refusal.TheVariants.{BadSplit, BadNumber, BadRetention, Expired, PageExpired}
use Rattle.kds_defs.specs.declared.reply.Refusal.TheVariants.{Full, Spent, Throttled}

-- The object for an error.
abbrev pub error_data : (name message : List ℕ) → Data
error_data name message =
    object (member (codes "__type") (string name) (member (codes "message") (string message) no_members))

-- The error's name for a refusal of the stream service; others are empty and never sent.
abbrev pub refusal_name : (refusal : Refusal) → List ℕ
refusal_name NoStream = codes "ResourceNotFoundException"
refusal_name StreamThere = codes "ResourceInUseException"
refusal_name NoShard = codes "ResourceNotFoundException"
refusal_name ShardClosed = codes "InvalidArgumentException"
refusal_name NotAdjacent = codes "InvalidArgumentException"
refusal_name BadSplit = codes "InvalidArgumentException"
refusal_name BadNumber = codes "InvalidArgumentException"
refusal_name BadRetention = codes "InvalidArgumentException"
refusal_name Expired = codes "ExpiredIteratorException"
refusal_name PageExpired = codes "ExpiredNextTokenException"
refusal_name Full = codes "LimitExceededException"
refusal_name Spent = codes "LimitExceededException"
refusal_name (Throttled sh) = codes "ProvisionedThroughputExceededException"
refusal_name _ = []

-- The error's message for a refusal of the stream service; others are empty and never sent.
abbrev pub refusal_message : (refusal : Refusal) → List ℕ
refusal_message NoStream = codes "stream not found"
refusal_message StreamThere = codes "stream exists"
refusal_message NoShard = codes "shard not found"
refusal_message ShardClosed = codes "shard is closed"
refusal_message NotAdjacent = codes "shards are not adjacent"
refusal_message BadSplit = codes "split key out of range"
refusal_message BadNumber = codes "sequence number out of range"
refusal_message BadRetention = codes "retention period does not fit"
refusal_message Expired = codes "iterator expired"
refusal_message PageExpired = codes "next token expired"
refusal_message Full = codes "limit reached"
refusal_message Spent = codes "numbers are used up"
refusal_message (Throttled sh) = codes "rate exceeded"
refusal_message _ = []

-- The body of the error response for a refusal.
abbrev pub refusal_text : (r : Refusal) → List ℕ
refusal_text r = compact_text (error_data (refusal_name r) (refusal_message r))
