use Rattle.std.proofs.Common.{◌≡◌, ◌++◌, ◌≤◌, drop, map, take, vec_len}
use Rattle.serde_json.specs.View.{items_of}
use Rattle.serde_json.specs.Written.{compact_text, items_text}
use Rattle.kds_reply_texts.specs.Bodies.{list_data}
use Rattle.kds_reply_texts.specs.Records.{record_data}
use Rattle.kds_reply_texts.specs.Room.{front_text}
use Rattle.kds_reply_texts.proofs.records.fill_records.Given as goal

-- The text up to `at` and the records to come make the array; bytes before stay; `front` begins a record of `second`.
abbrev pub invariant-loop-stored : goal.invariant-loop-stored
invariant-loop-stored l = record {
  within : l.at ≤ vec_len l.out;
  short : l.size ≤ 60;
  front : take l.size l.front ≡ front_text l.second;
  before : take (vec_len l.fn.out) l.out.items ≡ l.fn.out.items;
  longer : vec_len l.fn.out ≤ l.at;
  text : take l.at l.out.items ++ items_text l.later (items_of (map record_data (drop l.stored-index l.batch)))
      ≡ l.fn.out.items ++ compact_text (list_data record_data l.batch);
}
