use Rattle.std.proofs.Common.{◌≡◌, ◌++◌, drop}
use Rattle.kcl_defs.specs.Plans.{candidates, expiry, seen_at}
use Rattle.kcl_take.proofs.taking.candidates.Given as goal

-- Candidates so far, then the candidates still to come, are all candidates.
abbrev pub invariant-loop-r : goal.invariant-loop-r
invariant-loop-r l =
    let expired = expiry (seen_at l.fn.observed) l.fn.now l.fn.failover in
    l.found.items ++ candidates expired (drop l.r-index l.rows) ≡ candidates expired l.rows
