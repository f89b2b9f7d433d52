use Rattle.std.proofs.Common.{◌≡◌, drop}
use Rattle.kcl_worker_lists.specs.Changes.{leaving_in}
use Rattle.kcl_worker_lists.proofs.releases.leaving.Given as goal

abbrev pub invariant-loop-h : goal.invariant-loop-h
invariant-loop-h g l =
    leaving_in l.fn.key l.fn.consumers (drop l.h-index l.held) ≡ leaving_in l.fn.key l.fn.consumers l.held
