-- JSON values in the bodies of frequent replies; members are in the byte order of their names.
use Rattle.std.specs.Prelude.{ℕ, ◌/◌, List, map, count_by, codes, decimal, Bool, true, false}
use Rattle.serde_json.specs.Data.{unsigned, Data, number, string, array, object, no_members, member}
use Rattle.serde_json.specs.View.{items_of}
use Rattle.kds_defs.specs.declared.reply.Iter.{Iter}
use Rattle.kds_defs.specs.declared.reply.Outcome.{Outcome}
use Rattle.kds_defs.specs.declared.reply.Outcome.TheVariants.{Stored, Throttled}
use Rattle.kds_defs.specs.declared.reply.Place.{Place}
use Rattle.kds_defs.specs.declared.reply.Refusal.TheVariants as refusal
use Rattle.kds_token.specs.Ids.{shard_id}
use Rattle.kds_token.specs.Tokens.{iter_token}
use Rattle.kds_reply_texts.specs.Errors.{refusal_name, refusal_message}

-- A sequence number or hash key as a decimal JSON string.
abbrev pub number_data : (n : ℕ) → Data
number_data n = string (decimal n)

-- The ID of the shard, as a JSON string.
abbrev pub id_data : (n : ℕ) → Data
id_data n = string (shard_id n)

-- The JSON array of what `f` makes of the elements.
abbrev pub list_data : {A : Type 0} → (f : A → Data) (xs : List A) → Data
list_data f xs = array (items_of (map f xs))

-- The object for a stored record (Kinesis API Reference, PutRecord, Response Elements).
unfoldable pub place_data : (p : Place) → Data
place_data p = object
    (member (codes "SequenceNumber") (number_data p.seq) (member (codes "ShardId") (id_data p.shard) no_members))

-- The object for a record that wasn't stored (Kinesis API Reference, PutRecordsResultEntry).
unfoldable pub failed_data : (name message : List ℕ) → Data
failed_data name message =
    object (member (codes "ErrorCode") (string name) (member (codes "ErrorMessage") (string message) no_members))

-- The object for one record of PutRecords: its place, or the error if it is throttled.
abbrev pub outcome_data : (outcome : Outcome) → Data
outcome_data (Stored p) = place_data p
outcome_data (Throttled sh) = failed_data (refusal_name (refusal.Throttled sh)) (refusal_message (refusal.Throttled sh))

-- Whether a record of PutRecords wasn't stored.
abbrev pub has_failed : (outcome : Outcome) → Bool
has_failed (Stored p) = false
has_failed (Throttled sh) = true

-- How many records of PutRecords weren't stored.
abbrev pub failed_count : (os : List Outcome) → ℕ
failed_count os = count_by has_failed os

-- The reply to PutRecords (Kinesis API Reference, PutRecords, Response Elements).
unfoldable pub outcomes_data : (os : List Outcome) → Data
outcomes_data os =
    object
    (member (codes "FailedRecordCount") (number (unsigned (failed_count os)))
    (member (codes "Records") (list_data outcome_data os) no_members))

-- A time in whole seconds, rounded down (Kinesis API Reference, Record, ApproximateArrivalTimestamp).
abbrev pub seconds_data : (ms : ℕ) → Data
seconds_data ms = number (unsigned (ms / 1000))

-- The iterator's token, as a JSON string.
abbrev pub iterator_string : (i : Iter) → Data
iterator_string i = string (iter_token i)

-- The reply to GetShardIterator (Kinesis API Reference, GetShardIterator, Response Elements).
unfoldable pub iterator_data : (i : Iter) → Data
iterator_data i = object (member (codes "ShardIterator") (iterator_string i) no_members)
