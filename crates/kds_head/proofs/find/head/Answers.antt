use Rattle.std.proofs.Common.{subst, List, ℕ}
use Rattle.std.specs.Prelude.{IfOk}
use Rattle.kds_head.specs.Find.{IsFoundIn}
use Rattle.kds_head.proofs.Heads.{limits, limits_in}
use Rattle.kds_head.proofs.find.head.Goals as goal

pub returns-in-Some-clause-limits : goal.returns-in-Some-clause-limits
returns-in-Some-clause-limits c =
    let found : IsFoundIn c.head_bytes-front.result.now c.in-Some.found =
    rw c.in-Some.is at c.in_ok-found.ensures.found in
    limits_in c.args.bytes.now c.in-Some.found
    (subst (λ (z : List ℕ). IsFoundIn z c.in-Some.found) c.head_bytes-front.ensures found)

pub returns-in-None-clause-limits : goal.returns-in-None-clause-limits
returns-in-None-clause-limits c =
    limits c.args.bytes.now c.find_many.result
    (subst (λ (z : List ℕ). IfOk c.find_many.result (IsFoundIn z)) c.head_bytes-front.ensures c.find_many.ensures)
