use Rattle.std.proofs.Common.{◌≡◌, ◌-◌, ◌++◌, drop, take, vec_len}
use Rattle.kcl_defs.specs.Workers.{without_held}
use Rattle.kcl_worker_lists.proofs.leases.drop_held.Given as goal

-- Leases before `i`, then the others without `id`, are all leases without `id`.
abbrev pub invariant-loop-i : goal.invariant-loop-i
invariant-loop-i l =
    take l.i l.held.items ++ without_held l.fn.id (drop l.i l.held.items) ≡ without_held l.fn.id l.fn.held.items

abbrev pub decreases-loop-i : goal.decreases-loop-i
decreases-loop-i l = vec_len l.held - l.i
