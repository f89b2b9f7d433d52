-- The command that a request asks for by its operation's name and its body, or its first fault.
use Rattle.std.specs.Prelude.{◌≡◌, ℕ, List, [], codes, true, false, if◌then◌else◌, Option, Some, None, Result, Ok, Err}
use Rattle.std.specs.Str.{bytes_eq, is_utf8}
use Rattle.serde_json.specs.Data.{Data, object}
use Rattle.serde_json.specs.Read.{read}
use Rattle.kds_defs.specs.declared.command.Command.{Command}
use Rattle.kds_defs.specs.Kinds.{is_service}
use Rattle.kds_defs.specs.Lawful.{IsLawfulCommand}
use Rattle.kds_json.specs.declared.operation.Operation.{Operation}
use Rattle.kds_json.specs.declared.operation.Operation.TheVariants as op
use Rattle.kds_json_members.specs.declared.problem.Fault.{Fault}
use Rattle.kds_json_members.specs.declared.problem.FaultKind.TheVariants.{Unknown, Serialization}
use Rattle.kds_json_members.specs.Results.{◌>>=◌, fault_of, some_or}
use Rattle.kds_json.specs.Operations.{create_stream, delete_stream, list_streams, describe_stream, describe_summary}
use Rattle.kds_json.specs.Operations.{keep, update_shard_count, enforce_limits, put_record, get_shard_iterator}
use Rattle.kds_json.specs.Operations.{get_records, split_shard, merge_shards, list_shards}
use Rattle.kds_json.specs.Many.{put_records}

-- The JSON value in a body, or None if it isn't UTF-8 or JSON (RFC 8259).
unfoldable pub read_body : (body : List ℕ) → Option Data
read_body body = if is_utf8 body then read body else None

-- The value if it is an object, otherwise the fault Serialization; None is a body that isn't JSON.
abbrev pub if_object : (body : Option Data) → Result Data Fault
if_object (Some (object ms)) = Ok (object ms)
if_object _ = Err (fault_of Serialization [])

-- The JSON object in a body, or the fault Serialization.
abbrev pub object_of : (body : List ℕ) → Result Data Fault
object_of body = if_object (read_body body)

-- The operation with the name, among the last four.
abbrev pub last_four_named : (name : List ℕ) → Option Operation
last_four_named name =
    if bytes_eq name (codes "IncreaseStreamRetentionPeriod") then Some op.IncreaseRetention
    else if bytes_eq name (codes "DecreaseStreamRetentionPeriod") then Some op.DecreaseRetention
    else if bytes_eq name (codes "UpdateShardCount") then Some op.UpdateShardCount
    else if bytes_eq name (codes "LocalEnforceLimits") then Some op.EnforceLimits
    else None

-- The operation with the name, among the last eight.
abbrev pub last_eight_named : (name : List ℕ) → Option Operation
last_eight_named name =
    if bytes_eq name (codes "PutRecord") then Some op.PutRecord
    else if bytes_eq name (codes "PutRecords") then Some op.PutRecords
    else if bytes_eq name (codes "SplitShard") then Some op.SplitShard
    else if bytes_eq name (codes "MergeShards") then Some op.MergeShards
    else last_four_named name

-- The operation with the name, among the last twelve.
abbrev pub last_twelve_named : (name : List ℕ) → Option Operation
last_twelve_named name =
    if bytes_eq name (codes "DescribeStreamSummary") then Some op.DescribeStreamSummary
    else if bytes_eq name (codes "ListShards") then Some op.ListShards
    else if bytes_eq name (codes "GetShardIterator") then Some op.GetShardIterator
    else if bytes_eq name (codes "GetRecords") then Some op.GetRecords
    else last_eight_named name

-- The operation with the name (Kinesis API Reference, Actions; LocalEnforceLimits is this project's own).
abbrev pub operation_named : (name : List ℕ) → Option Operation
operation_named name =
    if bytes_eq name (codes "CreateStream") then Some op.CreateStream
    else if bytes_eq name (codes "DeleteStream") then Some op.DeleteStream
    else if bytes_eq name (codes "ListStreams") then Some op.ListStreams
    else if bytes_eq name (codes "DescribeStream") then Some op.DescribeStream
    else last_twelve_named name

-- The command that the members ask for in a request for this operation, or their first fault.
abbrev pub members_of : (operation : Operation) (d : Data) → Result Command Fault
members_of op.CreateStream d = create_stream d
members_of op.DeleteStream d = delete_stream d
members_of op.ListStreams d = list_streams d
members_of op.DescribeStream d = describe_stream d
members_of op.DescribeStreamSummary d = describe_summary d
members_of op.ListShards d = list_shards d
members_of op.GetShardIterator d = get_shard_iterator d
members_of op.GetRecords d = get_records d
members_of op.PutRecord d = put_record d
members_of op.PutRecords d = put_records d
members_of op.SplitShard d = split_shard d
members_of op.MergeShards d = merge_shards d
members_of op.IncreaseRetention d = keep true d
members_of op.DecreaseRetention d = keep false d
members_of op.UpdateShardCount d = update_shard_count d
members_of op.EnforceLimits d = enforce_limits d

-- The command asked for, or the first fault: of the name (Unknown), the body (Serialization), the members.
unfoldable pub asked : (operation body : List ℕ) → Result Command Fault
asked operation body = do
  command ← some_or Unknown [] (operation_named operation)
  d ← object_of body
  members_of command d

-- A request may ask for the command: it is within the API's ranges, and isn't about leases.
abbrev pub IsRequest : (command : Command) → Type 0
IsRequest command = IsLawfulCommand command × (is_service command ≡ true)
