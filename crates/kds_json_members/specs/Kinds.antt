-- What a member's JSON value is read as, by kind; None for another type or form, or out of range.
use Rattle.std.specs.Prelude.{ℕ, ◌+◌, ◌*◌, List, length, codes, Bool, ◌&&◌, nat_le, if◌then◌else◌, Option, Some, None}
use Rattle.std.specs.Prelude.{option_map, option_and_then, Result, chars, ⊤}
use Rattle.std.specs.Str.{bytes_eq, is_utf8}
use Rattle.base64.specs.Engines.{standard}
use Rattle.base64.specs.GeneralPurpose.{decoded_of}
use Rattle.serde_json.specs.Data.{Data}
use Rattle.serde_json.specs.Find.{as_str, as_number, as_u64}
use Rattle.kds_base.specs.Hashes.{key_hash}
use Rattle.kds_base.specs.Names.{name_of}
use Rattle.kds_base.specs.NumberText.{number_of}
use Rattle.kds_defs.specs.declared.limits.TheConstants.{KEY_CHARACTERS, RECORD_BYTES}
use Rattle.kds_defs.specs.declared.limits.TheConstants.{MOST_SECONDS}
use Rattle.kds_json_members.specs.declared.problem.Fault.{Fault}
use Rattle.kds_token.specs.Ids.{id_of}
use Rattle.kds_json_members.specs.Member.{member_of, optional_at}

-- The name of a stream in the JSON value.
abbrev pub name_in : (x : Data) → Option (List ℕ)
name_in x = option_and_then name_of (as_str x)

-- The name of a stream, wrapped in Some, as an optional name is read.
abbrev pub some_name_in : (x : Data) → Option (Option (List ℕ))
some_name_in x = option_map Some (name_in x)

-- The unit for `PROVISIONED`, and otherwise None.
abbrev pub provisioned : (mode : List ℕ) → Option ⊤
provisioned mode = if bytes_eq mode (codes "PROVISIONED") then Some tt else None

-- The unit for the mode PROVISIONED, the only one here (Kinesis API Reference, StreamModeDetails).
abbrev pub mode_in : (x : Data) → Option ⊤
mode_in x = option_and_then provisioned (option_and_then as_str (member_of (codes "StreamMode") x))

-- The unit for `UNIFORM_SCALING`, and otherwise None.
abbrev pub uniform : (kind : List ℕ) → Option ⊤
uniform kind = if bytes_eq kind (codes "UNIFORM_SCALING") then Some tt else None

-- The unit for UNIFORM_SCALING (Kinesis API Reference, UpdateShardCount, ScalingType).
abbrev pub scaling_in : (x : Data) → Option ⊤
scaling_in x = option_and_then uniform (as_str x)

-- The number, if it is from `low` to `high`, both included.
abbrev pub within : (low high n : ℕ) → Option ℕ
within low high n = if nat_le low n && nat_le n high then Some n else None

-- The whole number in the JSON value, if it is from `low` to `high`, both included.
abbrev pub number_in : (low high : ℕ) (x : Data) → Option ℕ
number_in low high x = option_and_then (within low high) (option_and_then as_u64 (as_number x))

-- The milliseconds in `seconds` seconds.
abbrev pub milliseconds : (seconds : ℕ) → ℕ
milliseconds seconds = seconds * 1000

-- The time in milliseconds, given in whole seconds (Kinesis API Reference, GetShardIterator, Timestamp).
abbrev pub moment_in : (x : Data) → Option ℕ
moment_in x = option_map milliseconds (number_in 0 MOST_SECONDS x)

-- Whether the text is UTF-8 of 1 to 256 characters (Kinesis API Reference, PutRecord, PartitionKey).
abbrev pub is_partition_key : (text : List ℕ) → Bool
is_partition_key text = is_utf8 text && nat_le 1 (length (chars text)) && nat_le (length (chars text)) KEY_CHARACTERS

-- The text, if it is a partition key.
abbrev pub key_of : (text : List ℕ) → Option (List ℕ)
key_of text = if is_partition_key text then Some text else None

-- The bytes of the partition key in the JSON value.
abbrev pub key_in : (x : Data) → Option (List ℕ)
key_in x = option_and_then key_of (as_str x)

-- The payload, if it and its key have at most RECORD_BYTES bytes (Kinesis API Reference, PutRecord, Data).
abbrev pub fitting : (key_bytes : ℕ) (bytes : List ℕ) → Option (List ℕ)
fitting key_bytes bytes = if nat_le (length bytes + key_bytes) RECORD_BYTES then Some bytes else None

-- The payload in padded standard base64 (RFC 4648, section 4), or None for other text or if it doesn't fit.
abbrev pub blob_of : (key_bytes : ℕ) (text : List ℕ) → Option (List ℕ)
blob_of key_bytes text = option_and_then (fitting key_bytes) (decoded_of standard text)

-- The payload in the JSON value, for a record whose key has `key_bytes` bytes.
abbrev pub blob_in : (key_bytes : ℕ) (x : Data) → Option (List ℕ)
blob_in key_bytes x = option_and_then (blob_of key_bytes) (as_str x)

-- The number of the shard whose ID the JSON value has.
abbrev pub id_in : (x : Data) → Option ℕ
id_in x = option_and_then id_of (as_str x)

-- The shard's number, wrapped in Some, as an optional ID is read.
abbrev pub some_id_in : (x : Data) → Option (Option ℕ)
some_id_in x = option_map Some (id_in x)

-- The hash key, a decimal string below 2^128 (Kinesis API Reference, PutRecord, ExplicitHashKey).
abbrev pub hash_in : (x : Data) → Option ℕ
hash_in x = option_and_then (number_of 128) (as_str x)

-- The hash key of a record: the one in the member `name`, or else the hash of the partition key.
unfoldable pub hash_at : (key name : List ℕ) (d : Data) → Result ℕ Fault
hash_at key name d = optional_at (key_hash key) hash_in name d

-- A decimal string below 2^64 (Kinesis API Reference, GetShardIterator, StartingSequenceNumber).
abbrev pub sequence_in : (x : Data) → Option ℕ
sequence_in x = option_and_then (number_of 64) (as_str x)
