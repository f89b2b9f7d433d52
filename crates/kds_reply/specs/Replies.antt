-- The HTTP status and the compact JSON body of each response.
use Rattle.std.specs.Prelude.{ℕ, Result, Ok, Err, List, [], Option, Some, None}
use Rattle.serde_json.specs.Data.{Data}
use Rattle.serde_json.specs.Written.{compact_text}
use Rattle.kds_defs.specs.declared.reply.Reply.{Reply}
use Rattle.kds_defs.specs.declared.reply.Reply.TheVariants.{Done, Streams, Described, Summary, Put, PutMany, Scaled}
use Rattle.kds_defs.specs.declared.reply.Reply.TheVariants.{Iterator, Records, Shards}
use Rattle.kds_defs.specs.declared.reply.Refusal.{Refusal}
use Rattle.kds_json_members.specs.declared.problem.Fault.{Fault}
use Rattle.kds_reply_texts.specs.Bodies.{place_data, outcomes_data, iterator_data}
use Rattle.kds_reply_texts.specs.Errors.{refusal_text}
use Rattle.kds_reply.specs.Errors.{fault_text}
use Rattle.kds_reply_texts.specs.Records.{records_data}
use Rattle.kds_reply.specs.Shards.{shards_data}
use Rattle.kds_reply.specs.Streams.{streams_data, described_data, summary_data, scaled_data}

-- The JSON body of the stream service's reply; no other reply is ever sent over HTTP.
abbrev pub reply_data : (reply : Reply) → Option Data
reply_data Done = None
reply_data (Streams names more) = Some (streams_data names more)
reply_data (Described about shards more) = Some (described_data about shards more)
reply_data (Summary about open_shards) = Some (summary_data about open_shards)
reply_data (Put p) = Some (place_data p)
reply_data (PutMany os) = Some (outcomes_data os)
reply_data (Scaled name old target entries) = Some (scaled_data name old target)
reply_data (Iterator i) = Some (iterator_data i)
reply_data (Records batch next behind children) = Some (records_data batch next behind children)
reply_data (Shards shards next) = Some (shards_data shards next)
reply_data _ = None

-- The compact JSON text of a body, or no bytes.
abbrev pub body_text : (d : Option Data) → List ℕ
body_text None = []
body_text (Some d) = compact_text d

-- The bytes of a reply's body.
abbrev pub reply_text : (r : Reply) → List ℕ
reply_text r = body_text (reply_data r)

-- The status and body of an answer: 200, or 400 for a refusal.
abbrev pub reply_of : (result : Result Reply Refusal) → ℕ × List ℕ
reply_of (Ok r) = (200, reply_text r)
reply_of (Err r) = (400, refusal_text r)

-- The status 400 and the body for a fault.
abbrev pub fault_reply : (f : Fault) → ℕ × List ℕ
fault_reply f = (400, fault_text f)
