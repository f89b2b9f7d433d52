use Rattle.std.proofs.Common.{◌≡◌, ◌+◌, ◌≤◌, take, vec_len}
use Rattle.kds_reply_texts.proofs.pieces.push_zeros.Given as goal

-- The first bytes stay, and the zero bytes added and those left are as many as asked for.
abbrev pub invariant-loop-left : goal.invariant-loop-left
invariant-loop-left l = record {
  front : take (vec_len l.fn.out) l.out.items ≡ l.fn.out.items;
  longer : vec_len l.fn.out ≤ vec_len l.out;
  made : vec_len l.out + l.left ≡ vec_len l.fn.out + l.size;
}

-- Each round adds some of the zero bytes that are left.
abbrev pub decreases-loop-left : goal.decreases-loop-left
decreases-loop-left l = l.left
