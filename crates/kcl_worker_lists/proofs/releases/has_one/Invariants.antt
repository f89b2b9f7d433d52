use Rattle.std.proofs.Common.{◌≡◌, drop}
use Rattle.kcl_worker_lists.specs.Changes.{has_one}
use Rattle.kcl_worker_lists.proofs.releases.has_one.Given as goal

abbrev pub invariant-loop-c : goal.invariant-loop-c
invariant-loop-c g l = has_one (drop l.c-index l.consumers) l.fn.h ≡ has_one l.consumers l.fn.h
