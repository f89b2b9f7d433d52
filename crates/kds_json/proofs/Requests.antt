-- A request without fault asks for an allowed command, and a fault names a member in valid UTF-8.
use Rattle.std.proofs.Common.{◌≡◌, ℕ, List, Bool, Option, Some, None, Ok, Err, true, false, codes, arith, is_some, refl}
use Rattle.std.specs.Str.{IsUtf8, bytes_eq}
use Rattle.std.proofs.lemmas.Str.{IsUtf8-nil}
use Rattle.serde_json.specs.Data.{Data, object}
use Rattle.serde_json.specs.Find.{as_str}
use Rattle.kds_defs.specs.declared.command.Command.{Command}
use Rattle.kds_defs.specs.declared.command.Start.{Start}
use Rattle.kds_defs.specs.declared.limits.TheConstants.{LEAST_SHARDS, MOST_SHARDS, LEAST_HOURS, MOST_HOURS}
use Rattle.kds_defs.specs.Lawful.{IsNameIfThere, IsRetention, IsShardCount}
use Rattle.kds_json.specs.declared.operation.Operation.{Operation}
use Rattle.kds_json.specs.declared.operation.Operation.TheVariants as op
use Rattle.kds_json_members.specs.declared.problem.Fault.{Fault}
use Rattle.kds_json_members.specs.Results.{some_or}
use Rattle.kds_json_members.specs.Member.{member_of, required_at, optional_at}
use Rattle.kds_json_members.specs.Kinds.{some_name_in, number_in, hash_in, moment_in, sequence_in}
use Rattle.kds_json.specs.Operations.{create_stream, delete_stream, list_streams, describe_stream, describe_summary}
use Rattle.kds_json.specs.Operations.{keep, update_shard_count, enforce_limits}
use Rattle.kds_json.specs.Operations.{start_at, start_after, start_time, start_of, get_shard_iterator, get_records}
use Rattle.kds_json.specs.Operations.{split_shard, merge_shards}
use Rattle.kds_json.specs.Operations.{list_from_start, list_from_token, list_shards}
use Rattle.kds_json.specs.Asked.{read_body, if_object, object_of, operation_named, members_of, asked, IsRequest}
use Rattle.kds_json_members.proofs.Members.{Anything, IsHash, Reads, anything, either_reads, hash_is, number_is}
use Rattle.kds_json_members.proofs.Members.{optional_reads, plain_text}
use Rattle.kds_json_members.proofs.Members.{required_reads, some_name_is, some_or_reads, then_reads}
use Rattle.kds_json.proofs.Puts.{put_reads, many_reads}
use Rattle.kds_json.proofs.Steps.{asks, takes, names, may_take, limits, lacks, takes_token}

-- ---- The members of each operation

create_reads : (d : Data) → Reads IsRequest (create_stream d)
unfolding create_stream
create_reads d =
    names d _ (λ name is_named.
    asks IsShardCount (number_in LEAST_SHARDS MOST_SHARDS) (codes "ShardCount") d _ refl
    (number_is LEAST_SHARDS MOST_SHARDS) (λ shards counted.
    may_take _ _ (codes "StreamModeDetails") d _ refl (λ mode. ((is_named, counted), refl))))

delete_reads : (d : Data) → Reads IsRequest (delete_stream d)
unfolding delete_stream
delete_reads d = names d _ (λ name is_named. (is_named, refl))

names_read : (d : Data) → Reads IsRequest (list_streams d)
unfolding list_streams
names_read d =
    then_reads IsNameIfThere IsRequest (optional_at None some_name_in (codes "ExclusiveStartStreamName") d) _
    (optional_reads IsNameIfThere None some_name_in (codes "ExclusiveStartStreamName") d refl tt some_name_is)
    (λ after is_named.
    limits _ (codes "Limit") d _ refl (omega arith, omega arith) (λ limit is_limit. ((is_named, is_limit), refl)))

describe_reads : (d : Data) → Reads IsRequest (describe_stream d)
unfolding describe_stream
describe_reads d =
    names d _ (λ name is_named.
    may_take _ _ (codes "ExclusiveStartShardId") d _ refl (λ after.
    limits _ (codes "Limit") d _ refl (omega arith, omega arith) (λ limit is_limit. ((is_named, is_limit), refl))))

summary_reads : (d : Data) → Reads IsRequest (describe_summary d)
unfolding describe_summary
summary_reads d = names d _ (λ name is_named. (is_named, refl))

keep_reads : (raise : Bool) (d : Data) → Reads IsRequest (keep raise d)
unfolding keep
keep_reads raise d =
    names d _ (λ name is_named.
    asks IsRetention (number_in LEAST_HOURS MOST_HOURS) (codes "RetentionPeriodHours") d _ refl
    (number_is LEAST_HOURS MOST_HOURS)
    (λ wanted is. ((is_named, is), refl)))

scale_reads : (d : Data) → Reads IsRequest (update_shard_count d)
unfolding update_shard_count
scale_reads d =
    names d _ (λ name is_named.
    asks IsShardCount (number_in LEAST_SHARDS MOST_SHARDS) (codes "TargetShardCount") d _ refl
    (number_is LEAST_SHARDS MOST_SHARDS) (λ target counted.
    takes _ (codes "ScalingType") d _ refl (λ uniform. ((is_named, counted), refl))))

enforce_reads : (d : Data) → Reads IsRequest (enforce_limits d)
unfolding enforce_limits
enforce_reads d =
    names d _ (λ name is_named.
    takes _ (codes "Enforce") d _ refl (λ is_on. (is_named, refl)))

at_reads : (d : Data) → Reads (Anything Start) (start_at d)
unfolding start_at
at_reads d =
    then_reads (Anything ℕ) (Anything Start) (required_at sequence_in (codes "StartingSequenceNumber") d) _
    (required_reads (Anything ℕ) sequence_in (codes "StartingSequenceNumber") d refl (λ x. anything (sequence_in x)))
    (λ number _. tt)

after_reads : (d : Data) → Reads (Anything Start) (start_after d)
unfolding start_after
after_reads d =
    then_reads (Anything ℕ) (Anything Start) (required_at sequence_in (codes "StartingSequenceNumber") d) _
    (required_reads (Anything ℕ) sequence_in (codes "StartingSequenceNumber") d refl (λ x. anything (sequence_in x)))
    (λ number _. tt)

time_reads : (d : Data) → Reads (Anything Start) (start_time d)
unfolding start_time
time_reads d =
    then_reads (Anything ℕ) (Anything Start) (required_at moment_in (codes "Timestamp") d) _
    (required_reads (Anything ℕ) moment_in (codes "Timestamp") d refl (λ x. anything (moment_in x))) (λ moment _. tt)

start_reads : (kind : List ℕ) (d : Data) → Reads (Anything Start) (start_of kind d)
unfolding start_of
start_reads kind d =
    either_reads (Anything Start) (bytes_eq kind (codes "TRIM_HORIZON")) _ _ tt
    (either_reads (Anything Start) (bytes_eq kind (codes "LATEST")) _ _ tt
    (either_reads (Anything Start) (bytes_eq kind (codes "AT_SEQUENCE_NUMBER")) _ _ (at_reads d)
    (either_reads (Anything Start) (bytes_eq kind (codes "AFTER_SEQUENCE_NUMBER")) _ _ (after_reads d)
    (either_reads (Anything Start) (bytes_eq kind (codes "AT_TIMESTAMP")) _ _ (time_reads d)
    (plain_text (codes "ShardIteratorType") refl)))))

iterator_reads : (d : Data) → Reads IsRequest (get_shard_iterator d)
unfolding get_shard_iterator
iterator_reads d =
    names d _ (λ name is_named.
    takes _ (codes "ShardId") d _ refl (λ shard.
    takes as_str (codes "ShardIteratorType") d _ refl (λ kind.
    then_reads (Anything Start) IsRequest (start_of kind d) _ (start_reads kind d) (λ is_from _. (is_named, refl)))))

records_reads : (d : Data) → Reads IsRequest (get_records d)
unfolding get_records
records_reads d =
    takes_token _ (codes "ShardIterator") d _ refl (λ iter.
    limits _ (codes "Limit") d _ refl (omega arith, omega arith) (λ limit is_limit. (is_limit, refl)))

split_reads : (d : Data) → Reads IsRequest (split_shard d)
unfolding split_shard
split_reads d =
    names d _ (λ name is_named.
    takes _ (codes "ShardToSplit") d _ refl (λ shard.
    asks IsHash hash_in (codes "NewStartingHashKey") d _ refl hash_is (λ is_at is_hash. ((is_named, is_hash), refl))))

merge_reads : (d : Data) → Reads IsRequest (merge_shards d)
unfolding merge_shards
merge_reads d =
    names d _ (λ name is_named.
    takes _ (codes "ShardToMerge") d _ refl (λ shard.
    takes _ (codes "AdjacentShardToMerge") d _ refl (λ other. (is_named, refl))))

start_listing_reads : (d : Data) → Reads IsRequest (list_from_start d)
unfolding list_from_start
start_listing_reads d =
    names d _ (λ name is_named.
    lacks (codes "ShardFilter") d _ refl (λ nothing.
    may_take _ _ (codes "ExclusiveStartShardId") d _ refl (λ after.
    limits _ (codes "MaxResults") d _ refl (
      omega arith,
      omega arith,
    ) (λ limit is_limit. ((is_named, is_limit), refl)))))

token_listing_reads : (d : Data) → Reads IsRequest (list_from_token d)
unfolding list_from_token
token_listing_reads d =
    lacks (codes "StreamName") d _ refl (λ no_name.
    lacks (codes "ShardFilter") d _ refl (λ no_filter.
    lacks (codes "ExclusiveStartShardId") d _ refl (λ no_start.
    takes_token _ (codes "NextToken") d _ refl (λ page.
    limits _ (codes "MaxResults") d _ refl (omega arith, omega arith) (λ limit is_limit. (is_limit, refl))))))

listing_reads : (d : Data) → Reads IsRequest (list_shards d)
unfolding list_shards
listing_reads d = either_reads IsRequest (is_some (member_of (codes "NextToken") d)) _ _ (token_listing_reads d)
    (start_listing_reads d)

members_read : (operation : Operation) (d : Data) → Reads IsRequest (members_of operation d)
members_read op.CreateStream d = create_reads d
members_read op.DeleteStream d = delete_reads d
members_read op.ListStreams d = names_read d
members_read op.DescribeStream d = describe_reads d
members_read op.DescribeStreamSummary d = summary_reads d
members_read op.ListShards d = listing_reads d
members_read op.GetShardIterator d = iterator_reads d
members_read op.GetRecords d = records_reads d
members_read op.PutRecord d = put_reads d
members_read op.PutRecords d = many_reads d
members_read op.SplitShard d = split_reads d
members_read op.MergeShards d = merge_reads d
members_read op.IncreaseRetention d = keep_reads true d
members_read op.DecreaseRetention d = keep_reads false d
members_read op.UpdateShardCount d = scale_reads d
members_read op.EnforceLimits d = enforce_reads d

-- ---- A whole request

object_reads : (o : Option Data) → Reads (Anything Data) (if_object o)
object_reads (Some (object ms)) = tt
object_reads _ = IsUtf8-nil

asked_reads : (operation body : List ℕ) → Reads IsRequest (asked operation body)
unfolding asked
asked_reads operation body =
    then_reads (Anything Operation) IsRequest (some_or _ _ (operation_named operation)) _
    (some_or_reads (Anything Operation) _ _ (operation_named operation) IsUtf8-nil
    (anything (operation_named operation))) (λ command _.
    then_reads (Anything Data) IsRequest (object_of body) _ (object_reads (read_body body))
    (λ d _. members_read command d))

pub asked_request : (operation body : List ℕ) (command : Command) → asked operation body ≡ Ok command
    → IsRequest command
asked_request operation body command e = let is = rw e at (asked_reads operation body) in is

pub fault_text : (operation body : List ℕ) (f : Fault) → asked operation body ≡ Err f → IsUtf8 f.member
fault_text operation body f e = let text = rw e at (asked_reads operation body) in text
