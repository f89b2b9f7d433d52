-- The bodies of error responses to faulty requests (Kinesis API Reference, Common Errors).
use Rattle.std.specs.Prelude.{ℕ, List, ◌++◌, codes}
use Rattle.serde_json.specs.Written.{compact_text}
use Rattle.kds_json_members.specs.declared.problem.Fault.{Fault}
use Rattle.kds_json_members.specs.declared.problem.FaultKind.{FaultKind}
use Rattle.kds_json_members.specs.declared.problem.FaultKind.TheVariants.{Unknown, Serialization, Missing, Invalid}
use Rattle.kds_json_members.specs.declared.problem.FaultKind.TheVariants.{Token}
use Rattle.kds_reply_texts.specs.Errors.{error_data}

-- The name of the error for a kind of fault.
abbrev pub fault_name : (fault_kind : FaultKind) → List ℕ
fault_name Unknown = codes "UnknownOperationException"
fault_name Serialization = codes "SerializationException"
fault_name Missing = codes "ValidationException"
fault_name Invalid = codes "ValidationException"
fault_name Token = codes "InvalidArgumentException"

-- The message of the error for a kind of fault at the member `name`.
abbrev pub fault_message : (fault_kind : FaultKind) (name : List ℕ) → List ℕ
fault_message Unknown name = codes "unknown operation"
fault_message Serialization name = codes "body is not a JSON object"
fault_message Missing name = name ++ codes " is missing"
fault_message Invalid name = name ++ codes " is not valid"
fault_message Token name = name ++ codes " is not valid"

-- The body of the error response for a fault.
abbrev pub fault_text : (f : Fault) → List ℕ
fault_text f = compact_text (error_data (fault_name f.kind) (fault_message f.kind f.member))
