use Rattle.std.proofs.Common.{◌≡◌, ◌++◌, ◌-◌, ◌≤◌, codes, replicate}
use Rattle.kds_token.proofs.ids.before.Given as goal

-- Each round adds one of the zeros that are missing.
abbrev pub decreases-loop-known : goal.decreases-loop-known
decreases-loop-known l = 12 - l.known

-- The id is `shardId-` and the zeros added, which are no more than twelve digits need.
abbrev pub invariant-loop-known : goal.invariant-loop-known
invariant-loop-known l = record {
  zeros : l.id.bytes ≡ codes "shardId-" ++ replicate (l.known - l.digits) 48;
  more : l.digits ≤ l.known;
  most : l.known - l.digits ≤ 12 - l.digits;
}
