use Rattle.std.proofs.Common.{◌≡◌, ◌+◌, ◌-◌, ◌≤◌, ◌++◌, drop, map, take}
use Rattle.std.specs.Vec.{vec_capacity, vec_len}
use Rattle.kcl_worker_lists.specs.Changes.{live_among, retired_among}
use Rattle.kcl_worker_lists.specs.Retirements.{retirement}
use Rattle.kcl_worker_lists.proofs.retired.retire_finished.Given as goal

-- Live consumers before `i`, then the live from `i` on, are all live; likewise the retired, with room for all.
abbrev pub invariant-loop-i : goal.invariant-loop-i
invariant-loop-i g l =
    (take l.i l.consumers.items ++ live_among (drop l.i l.consumers.items) ≡ live_among l.fn.consumers.items)
    × (map retirement l.retired.items ++ retired_among (drop l.i l.consumers.items) ≡ map retirement l.fn.retired.items
    ++ retired_among l.fn.consumers.items)
    × (vec_len l.retired + vec_len l.consumers ≤ vec_capacity l.retired)

abbrev pub decreases-loop-i : goal.decreases-loop-i
decreases-loop-i g l = vec_len l.consumers - l.i
