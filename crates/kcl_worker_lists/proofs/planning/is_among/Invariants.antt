use Rattle.std.proofs.Common.{◌≡◌, drop}
use Rattle.kcl_worker_lists.specs.Planning.{is_among}
use Rattle.kcl_worker_lists.proofs.planning.is_among.Given as goal

abbrev pub invariant-loop-h : goal.invariant-loop-h
invariant-loop-h l = is_among (drop l.h-index l.held) l.fn.id ≡ is_among l.held l.fn.id
