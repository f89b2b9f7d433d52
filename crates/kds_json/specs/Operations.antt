-- The command or first fault of each operation's members, which are read in this order; others are ignored.
use Rattle.std.specs.Prelude.{ℕ, List, length, codes, Bool, if◌then◌else◌, is_some, None, Result, Ok, Err}
use Rattle.std.specs.Str.{bytes_eq}
use Rattle.serde_json.specs.Data.{Data}
use Rattle.serde_json.specs.Find.{as_str, as_bool}
use Rattle.kds_defs.specs.declared.command.Command.{Command}
use Rattle.kds_defs.specs.declared.command.Command.TheVariants as command
use Rattle.kds_defs.specs.declared.command.NewItem.{NewItem}
use Rattle.kds_defs.specs.declared.command.Start.{Start}
use Rattle.kds_defs.specs.declared.command.Start.TheVariants as start
use Rattle.kds_defs.specs.declared.limits.TheConstants.{LEAST_SHARDS, MOST_SHARDS, LEAST_HOURS, MOST_HOURS, MOST}
use Rattle.kds_token.specs.Tokens.{iter_of, page_of}
use Rattle.kds_defs.specs.declared.limits.TheConstants.{DEFAULT_RECORDS, DEFAULT_SHARDS, DEFAULT_DESCRIBED}
use Rattle.kds_defs.specs.declared.limits.TheConstants.{DEFAULT_NAMES}
use Rattle.kds_json_members.specs.declared.problem.Fault.{Fault}
use Rattle.kds_json_members.specs.declared.problem.FaultKind.TheVariants.{Invalid}
use Rattle.kds_json_members.specs.Results.{◌>>=◌, fault_of}
use Rattle.kds_json_members.specs.Member.{member_of, absent_at, required_at, optional_at, token_at}
use Rattle.kds_json_members.specs.Kinds.{name_in, some_name_in, mode_in, scaling_in, number_in, moment_in, key_in}
use Rattle.kds_json_members.specs.Kinds.{blob_in, id_in, some_id_in, hash_in, hash_at, sequence_in}

-- ---- Streams

-- CreateStream; StreamModeDetails may only be PROVISIONED (Kinesis API Reference, CreateStream, Request Parameters).
unfoldable pub create_stream : (d : Data) → Result Command Fault
create_stream d = do
  name ← required_at name_in (codes "StreamName") d
  shards ← required_at (number_in LEAST_SHARDS MOST_SHARDS) (codes "ShardCount") d
  mode ← optional_at tt mode_in (codes "StreamModeDetails") d
  Ok (command.Create name shards)

-- DeleteStream: its command or first fault (Kinesis API Reference, DeleteStream, Request Parameters).
unfoldable pub delete_stream : (d : Data) → Result Command Fault
delete_stream d = do
  name ← required_at name_in (codes "StreamName") d
  Ok (command.Delete name)

-- ListStreams: its command or first fault (Kinesis API Reference, ListStreams, Request Parameters).
unfoldable pub list_streams : (d : Data) → Result Command Fault
list_streams d = do
  after ← optional_at None some_name_in (codes "ExclusiveStartStreamName") d
  limit ← optional_at DEFAULT_NAMES (number_in 1 MOST) (codes "Limit") d
  Ok (command.Streams after limit)

-- DescribeStream: its command or first fault (Kinesis API Reference, DescribeStream, Request Parameters).
unfoldable pub describe_stream : (d : Data) → Result Command Fault
describe_stream d = do
  name ← required_at name_in (codes "StreamName") d
  after ← optional_at None some_id_in (codes "ExclusiveStartShardId") d
  limit ← optional_at DEFAULT_DESCRIBED (number_in 1 MOST) (codes "Limit") d
  Ok (command.Describe name after limit)

-- DescribeStreamSummary: its command or fault (Kinesis API Reference, DescribeStreamSummary, Request Parameters).
unfoldable pub describe_summary : (d : Data) → Result Command Fault
describe_summary d = do
  name ← required_at name_in (codes "StreamName") d
  Ok (command.Summary name)

-- Increase- or DecreaseStreamRetentionPeriod, by `raise` (Kinesis API Reference, Request Parameters).
unfoldable pub keep : (raise : Bool) (d : Data) → Result Command Fault
keep raise d = do
  name ← required_at name_in (codes "StreamName") d
  wanted ← required_at (number_in LEAST_HOURS MOST_HOURS) (codes "RetentionPeriodHours") d
  Ok (command.Keep name wanted raise)

-- UpdateShardCount; ScalingType is UNIFORM_SCALING (Kinesis API Reference, UpdateShardCount, Request Parameters).
unfoldable pub update_shard_count : (d : Data) → Result Command Fault
update_shard_count d = do
  name ← required_at name_in (codes "StreamName") d
  target ← required_at (number_in LEAST_SHARDS MOST_SHARDS) (codes "TargetShardCount") d
  uniform ← required_at scaling_in (codes "ScalingType") d
  Ok (command.Scale name target)

-- LocalEnforceLimits, the project's own operation, which turns limits on throughput on or off.
unfoldable pub enforce_limits : (d : Data) → Result Command Fault
enforce_limits d = do
  name ← required_at name_in (codes "StreamName") d
  is_on ← required_at as_bool (codes "Enforce") d
  Ok (command.Enforce name is_on)

-- ---- Records

-- The record to put; without a hash key, its key is hashed (Kinesis API Reference, PutRecordsRequestEntry).
unfoldable pub item_of : (d : Data) → Result NewItem Fault
item_of d = do
  key ← required_at key_in (codes "PartitionKey") d
  payload ← required_at (blob_in (length key)) (codes "Data") d
  hash ← hash_at key (codes "ExplicitHashKey") d
  Ok (record { key = key; hash = hash; payload = payload })

-- PutRecord: its command or first fault (Kinesis API Reference, PutRecord, Request Parameters).
unfoldable pub put_record : (d : Data) → Result Command Fault
put_record d = do
  name ← required_at name_in (codes "StreamName") d
  item ← item_of d
  Ok (command.Put name item)

-- Reading starts at StartingSequenceNumber.
unfoldable pub start_at : (d : Data) → Result Start Fault
start_at d = do
  number ← required_at sequence_in (codes "StartingSequenceNumber") d
  Ok (start.At number)

-- Reading starts right after StartingSequenceNumber.
unfoldable pub start_after : (d : Data) → Result Start Fault
start_after d = do
  number ← required_at sequence_in (codes "StartingSequenceNumber") d
  Ok (start.After number)

-- Reading starts at the first record that arrived at Timestamp or later.
unfoldable pub start_time : (d : Data) → Result Start Fault
start_time d = do
  moment ← required_at moment_in (codes "Timestamp") d
  Ok (start.Time moment)

-- Where reading starts, by type and its own member (Kinesis API Reference, GetShardIterator, ShardIteratorType).
unfoldable pub start_of : (kind : List ℕ) (d : Data) → Result Start Fault
start_of kind d =
    if bytes_eq kind (codes "TRIM_HORIZON") then Ok start.TrimHorizon
    else if bytes_eq kind (codes "LATEST") then Ok start.Latest
    else if bytes_eq kind (codes "AT_SEQUENCE_NUMBER") then start_at d
    else if bytes_eq kind (codes "AFTER_SEQUENCE_NUMBER") then start_after d
    else if bytes_eq kind (codes "AT_TIMESTAMP") then start_time d
    else Err (fault_of Invalid (codes "ShardIteratorType"))

-- GetShardIterator: its command or first fault (Kinesis API Reference, GetShardIterator, Request Parameters).
unfoldable pub get_shard_iterator : (d : Data) → Result Command Fault
get_shard_iterator d = do
  name ← required_at name_in (codes "StreamName") d
  shard ← required_at id_in (codes "ShardId") d
  kind ← required_at as_str (codes "ShardIteratorType") d
  first ← start_of kind d
  Ok (command.GetIterator name shard first)

-- GetRecords: its command or first fault (Kinesis API Reference, GetRecords, Request Parameters).
unfoldable pub get_records : (d : Data) → Result Command Fault
get_records d = do
  iter ← token_at iter_of (codes "ShardIterator") d
  limit ← optional_at DEFAULT_RECORDS (number_in 1 MOST) (codes "Limit") d
  Ok (command.Records iter limit)

-- ---- Shards

-- SplitShard: its command or first fault (Kinesis API Reference, SplitShard, Request Parameters).
unfoldable pub split_shard : (d : Data) → Result Command Fault
split_shard d = do
  name ← required_at name_in (codes "StreamName") d
  shard ← required_at id_in (codes "ShardToSplit") d
  hash ← required_at hash_in (codes "NewStartingHashKey") d
  Ok (command.Split name shard hash)

-- MergeShards: its command or first fault (Kinesis API Reference, MergeShards, Request Parameters).
unfoldable pub merge_shards : (d : Data) → Result Command Fault
merge_shards d = do
  name ← required_at name_in (codes "StreamName") d
  shard ← required_at id_in (codes "ShardToMerge") d
  other ← required_at id_in (codes "AdjacentShardToMerge") d
  Ok (command.Merge name shard other)

-- ListShards without a NextToken, by the stream's name; ShardFilter must be absent.
unfoldable pub list_from_start : (d : Data) → Result Command Fault
list_from_start d = do
  name ← required_at name_in (codes "StreamName") d
  nothing ← absent_at (codes "ShardFilter") d
  after ← optional_at None some_id_in (codes "ExclusiveStartShardId") d
  limit ← optional_at DEFAULT_SHARDS (number_in 1 MOST) (codes "MaxResults") d
  Ok (command.Shards name after limit)

-- ListShards with a NextToken; StreamName, ShardFilter and ExclusiveStartShardId must be absent.
unfoldable pub list_from_token : (d : Data) → Result Command Fault
list_from_token d = do
  no_name ← absent_at (codes "StreamName") d
  no_filter ← absent_at (codes "ShardFilter") d
  no_start ← absent_at (codes "ExclusiveStartShardId") d
  page ← token_at page_of (codes "NextToken") d
  limit ← optional_at DEFAULT_SHARDS (number_in 1 MOST) (codes "MaxResults") d
  Ok (command.More page limit)

-- ListShards, by a NextToken if it isn't null (Kinesis API Reference, ListShards, Request Parameters).
unfoldable pub list_shards : (d : Data) → Result Command Fault
list_shards d = if is_some (member_of (codes "NextToken") d) then list_from_token d else list_from_start d
