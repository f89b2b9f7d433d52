use Rattle.std.proofs.Common.{◌-◌, ◌^◌}
use Rattle.kcl_drill_drain.specs.Leased.{KeepsLeased}
use Rattle.kcl_drill_drain.specs.Standing.{IsSpot, ReadsOn, Spot}
use Rattle.kcl_drill_drain.proofs.reading.read_on.Given as goal

-- Only turns on leases were answered (`KeepsLeased`), and the tenure is still ready for a read (`ReadsOn`).
abbrev pub invariant-loop-next : goal.invariant-loop-next
invariant-loop-next g l =
    KeepsLeased (g.M.Machine.stands_for l.fn.machine) (g.M.Machine.stands_for l.machine) l.by l.at
    × ((w : Spot) → IsSpot w l.at → ReadsOn (g.M.Machine.stands_for l.fn.machine) w l.by l.at l.fn.from
    → ReadsOn (g.M.Machine.stands_for l.machine) w l.by l.at l.held)

abbrev pub decreases-loop-next : goal.decreases-loop-next
decreases-loop-next g l = 2 ^ 64 - l.held.position
