use Rattle.std.proofs.Common.{◌≡◌, ◌++◌, drop}
use Rattle.std.specs.List.{filter}
use Rattle.kcl_defs.specs.Plans.{is_available}
use Rattle.kcl_take.proofs.taking.available.Given as goal

-- Available rows so far, then the available rows still to come, are all available rows.
abbrev pub invariant-loop-r : goal.invariant-loop-r
invariant-loop-r l =
    let test = is_available l.fn.me l.fn.held in
    l.found.items ++ filter test (drop l.r-index l.rows) ≡ filter test l.rows
