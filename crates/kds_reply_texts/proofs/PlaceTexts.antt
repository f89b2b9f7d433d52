-- The pieces appended for the results of puts make their texts.
use Rattle.std.proofs.Common.{◌≡◌, ℕ, List, ◌++◌, decimal, codes, append_assoc, ap, ◌∙◌}
use Rattle.json.specs.Print.{escape, escape_byte}
use Rattle.serde_json.specs.Data.{Data, unsigned, number, object, string, no_members, member}
use Rattle.serde_json.specs.Written.{compact_text}
use Rattle.kds_defs.specs.declared.reply.Place.{Place}
use Rattle.kds_token.specs.Ids.{shard_id}
use Rattle.kds_defs.specs.declared.reply.Outcome.{Outcome}
use Rattle.kds_reply_texts.specs.Bodies.{failed_count, failed_data, list_data, outcome_data, outcomes_data, place_data}

two_names : (seq id : List ℕ)
    → codes "{\"SequenceNumber\":\"" ++ (escape seq ++ (codes "\",\"ShardId\":\"" ++ (escape id ++ codes "\"}")))
    ≡ compact_text (object
    (member (codes "SequenceNumber") (string seq) (member (codes "ShardId") (string id) no_members)))
unfolding escape_byte
two_names seq id = simp append_assoc

in_pieces : (a b c d e : List ℕ) → (((a ++ b) ++ c) ++ d) ++ e ≡ a ++ (b ++ (c ++ (d ++ e)))
in_pieces a b c d e = simp append_assoc

pub place_pieces : (p : Place) (id : List ℕ) → id ≡ shard_id p.shard
    → (((codes "{\"SequenceNumber\":\"" ++ escape (decimal p.seq)) ++ codes "\",\"ShardId\":\"") ++ escape id)
    ++ codes "\"}" ≡ compact_text (place_data p)
unfolding place_data
place_pieces p id is =
    in_pieces (codes "{\"SequenceNumber\":\"") (escape (decimal p.seq)) (codes "\",\"ShardId\":\"") (escape id)
    (codes "\"}")
    ∙ two_names (decimal p.seq) id
    ∙ ap (λ (x : List ℕ). compact_text (object (member (codes "SequenceNumber") (string (decimal p.seq))
    (member (codes "ShardId") (string x) no_members)))) is

two_reasons : (name message : List ℕ)
    → codes "{\"ErrorCode\":\"" ++ (escape name ++ (codes "\",\"ErrorMessage\":\"" ++ (escape message ++ codes "\"}")))
    ≡ compact_text (object
    (member (codes "ErrorCode") (string name) (member (codes "ErrorMessage") (string message) no_members)))
unfolding escape_byte
two_reasons name message = simp append_assoc

pub failed_pieces : (name message : List ℕ)
    → (((codes "{\"ErrorCode\":\"" ++ escape name) ++ codes "\",\"ErrorMessage\":\"") ++ escape message) ++ codes "\"}"
    ≡ compact_text (failed_data name message)
unfolding failed_data
failed_pieces name message =
    in_pieces (codes "{\"ErrorCode\":\"") (escape name) (codes "\",\"ErrorMessage\":\"") (escape message) (codes "\"}")
    ∙ two_reasons name message

counted : (n : ℕ) (d : Data)
    → codes "{\"FailedRecordCount\":" ++ (decimal n ++ (codes ",\"Records\":" ++ (compact_text d ++ codes "}")))
    ≡ compact_text (object
    (member (codes "FailedRecordCount") (number (unsigned n)) (member (codes "Records") d no_members)))
unfolding escape_byte
counted n d = simp append_assoc

pub outcomes_pieces : (os : List Outcome) (n : ℕ) → n ≡ failed_count os
    → (((codes "{\"FailedRecordCount\":" ++ decimal n) ++ codes ",\"Records\":")
    ++ compact_text (list_data outcome_data os)) ++ codes "}"
    ≡ compact_text (outcomes_data os)
unfolding outcomes_data
outcomes_pieces os n is =
    in_pieces (codes "{\"FailedRecordCount\":") (decimal n) (codes ",\"Records\":")
    (compact_text (list_data outcome_data os)) (codes "}")
    ∙ rw is (counted (failed_count os) (list_data outcome_data os))
