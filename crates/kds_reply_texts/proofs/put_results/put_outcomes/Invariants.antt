use Rattle.std.proofs.Common.{◌≡◌, ◌++◌, drop, map, take, vec_len}
use Rattle.serde_json.specs.View.{items_of}
use Rattle.serde_json.specs.Written.{compact_text, items_text}
use Rattle.kds_reply_texts.specs.Bodies.{list_data, outcome_data}
use Rattle.kds_reply_texts.proofs.put_results.put_outcomes.Given as goal

-- The text so far and the outcomes to come make the array; the bytes before stay.
abbrev pub invariant-loop-outcome : goal.invariant-loop-outcome
invariant-loop-outcome l = record {
  text : l.out.items ++ items_text l.later (items_of (map outcome_data (drop l.outcome-index l.outcomes)))
      ≡ l.fn.out.items ++ compact_text (list_data outcome_data l.outcomes);
  front : take (vec_len l.fn.out) l.out.items ≡ l.fn.out.items;
}
