-- The pieces appended for a reply to GetRecords make its text.
use Rattle.std.proofs.Common.{◌≡◌, ℕ, List, ◌++◌, Some, None, decimal, codes, append_assoc, ◌∙◌}
use Rattle.json.specs.Print.{escape, escape_byte}
use Rattle.serde_json.specs.Data.{Data, unsigned, null, number, object, string, no_members, member}
use Rattle.serde_json.specs.Written.{compact_text}
use Rattle.kds_defs.specs.declared.reply.Iter.{Iter}
use Rattle.kds_defs.specs.declared.reply.Shard.{Shard}
use Rattle.kds_defs.specs.declared.reply.Stored.{Stored}
use Rattle.kds_token.specs.Tokens.{iter_token}
use Rattle.kds_reply_texts.specs.Bodies.{list_data}
use Rattle.kds_reply_texts.specs.Children.{child_data}
use Rattle.kds_reply_texts.specs.Records.{record_data, records_data}

pub in_pieces : (a b c d e f g : List ℕ)
    → (((((a ++ b) ++ c) ++ d) ++ e) ++ f) ++ g ≡ a ++ (b ++ (c ++ (d ++ (e ++ (f ++ g)))))
in_pieces a b c d e f g = simp append_assoc

opened : (behind : ℕ) (token : List ℕ) (records : Data)
    → codes "{\"MillisBehindLatest\":" ++ (decimal behind ++ (codes ",\"NextShardIterator\":\"" ++ (escape token
    ++ (codes "\",\"Records\":" ++ (compact_text records ++ codes "}")))))
    ≡ compact_text (object (member (codes "MillisBehindLatest") (number (unsigned behind))
    (member (codes "NextShardIterator") (string token) (member (codes "Records") records no_members))))
unfolding escape_byte
opened behind token records = simp append_assoc

pub open_pieces : (batch : List Stored) (next : Iter) (behind : ℕ) (children : List Shard) (token : List ℕ)
    → token ≡ escape (iter_token next)
    → (((((codes "{\"MillisBehindLatest\":" ++ decimal behind) ++ codes ",\"NextShardIterator\":\"") ++ token)
    ++ codes "\",\"Records\":")
    ++ compact_text (list_data record_data batch)) ++ codes "}"
    ≡ compact_text (records_data batch (Some next) behind children)
unfolding records_data
open_pieces batch next behind children token is =
    let records = list_data record_data batch in
    rw is (in_pieces (codes "{\"MillisBehindLatest\":") (decimal behind) (codes ",\"NextShardIterator\":\"")
    (escape (iter_token next))
    (codes "\",\"Records\":") (compact_text records) (codes "}")
    ∙ opened behind (iter_token next) records)

ended : (family : Data) (behind : ℕ) (records : Data)
    → codes "{\"ChildShards\":" ++ (compact_text family ++ (codes ",\"MillisBehindLatest\":" ++ (decimal behind
    ++ (codes ",\"NextShardIterator\":null,\"Records\":" ++ (compact_text records ++ codes "}")))))
    ≡ compact_text (object
    (member (codes "ChildShards") family (member (codes "MillisBehindLatest") (number (unsigned behind))
    (member (codes "NextShardIterator") null (member (codes "Records") records no_members)))))
unfolding escape_byte
ended family behind records = simp append_assoc

pub end_pieces : (batch : List Stored) (behind : ℕ) (children : List Shard) (family : List ℕ)
    → family ≡ compact_text (list_data child_data children)
    → (((((codes "{\"ChildShards\":" ++ family) ++ codes ",\"MillisBehindLatest\":") ++ decimal behind)
    ++ codes ",\"NextShardIterator\":null,\"Records\":") ++ compact_text (list_data record_data batch)) ++ codes "}"
    ≡ compact_text (records_data batch None behind children)
unfolding records_data
end_pieces batch behind children family is =
    let shards = list_data child_data children in
    let records = list_data record_data batch in
    rw is (in_pieces (codes "{\"ChildShards\":") (compact_text shards) (codes ",\"MillisBehindLatest\":")
    (decimal behind)
    (codes ",\"NextShardIterator\":null,\"Records\":") (compact_text records) (codes "}")
    ∙ ended shards behind records)
