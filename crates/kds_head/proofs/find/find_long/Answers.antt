use Rattle.std.proofs.Common.{◌≡◌, ◌≤◌, ◌+◌, ◌*◌, ◌/◌, length, arith, rules}
use Rattle.kds_head.proofs.Heads.{too_many_bytes}
use Rattle.kds_head.proofs.find.find_long.Goals as goal

pub unreachable-requires : goal.unreachable-requires
unreachable-requires c =
    let full = c.in_ok-found.ensures.few_spans c.in-None.is in
    let room : length c.as_mut_slice.result.now ≡ length c.args.front.now / 3 = search rules in
    let short : length c.args.front.now ≤ 3 * length c.as_mut_slice.result.now + 2 = omega arith in
    too_many_bytes (length c.as_mut_slice.result.now) c.args.front.now short full
