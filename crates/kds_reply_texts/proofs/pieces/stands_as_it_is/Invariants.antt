use Rattle.std.proofs.Common.{ℕ, ◌<◌, get_or}
use Rattle.std.specs.Bool.{OnTrue}
use Rattle.json.specs.Written.{PlainBetween}
use Rattle.kds_reply_texts.proofs.pieces.stands_as_it_is.Given as goal

-- Of the bytes so far, none needs escaping if `plain`, and all are ASCII if `ascii`.
abbrev pub invariant-loop-byte : goal.invariant-loop-byte
invariant-loop-byte l = record {
  plain : OnTrue l.plain (PlainBetween l.bytes 0 l.byte-index);
  ascii : OnTrue l.ascii ((k : ℕ) → k < l.byte-index → get_or l.bytes k 0 < 128);
}
