use Rattle.std.proofs.Common.{◌≡◌, List}
use Rattle.kds_defs.specs.declared.command.Turn.{Turn as Asked}
use Rattle.kcl_drill_drain.specs.Draining.{CanDrain}
use Rattle.kcl_drill_drain.specs.Keys.{AreMade, listed_keys}
use Rattle.kcl_drill_drain.specs.Leased.{KeepsLeased, Leads}
use Rattle.kcl_drill_drain.proofs.making.make_keys.Given as goal

-- Only turns on leases were answered (`KeepsLeased`), and the keys so far have rows (`AreMade`).
abbrev pub invariant-loop-key : goal.invariant-loop-key
invariant-loop-key g l =
    KeepsLeased (g.M.Machine.stands_for l.fn.machine) (g.M.Machine.stands_for l.machine) l.by l.at
    × ((h : List Asked) → CanDrain h l.at → l.keys ≡ listed_keys h l.at
    → Leads (g.M.Machine.stands_for l.fn.machine) l.by l.at h (AreMade h l.keys l.among 0)
    → Leads (g.M.Machine.stands_for l.machine) l.by l.at h (AreMade h l.keys l.among l.key-index))
