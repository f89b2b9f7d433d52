use Rattle.std.proofs.Common.{◌≡◌, Bool, drop}
use Rattle.std.specs.Prelude.{◌&&◌}
use Rattle.std.specs.List.{find}
use Rattle.kcl_defs.specs.declared.plans.Held.{Held}
use Rattle.kcl_defs.specs.Plans.{is_due}
use Rattle.kcl_defs.specs.Workers.{id_of_held, is_past}
use Rattle.kcl_worker_lists.proofs.leases.next_due.Given as goal

abbrev pub invariant-loop-h : goal.invariant-loop-h
invariant-loop-h l =
    let test : Held → Bool = λ h. is_past l.fn.last (id_of_held h) && is_due h l.fn.now l.fn.failover in
    find test (drop l.h-index l.held) ≡ find test l.held
