use Rattle.std.proofs.Common.{◌≡◌, map, drop}
use Rattle.kcl_journal.specs.declared.line.EntryLine.{EntryLine}
use Rattle.kcl_sim_scribe.specs.Known.{changed_by}
use Rattle.kcl_sim_scribe.proofs.scribe.change_all.Given as goal

-- Changing the streams so far by the remaining lines gives the change by all lines.
abbrev pub invariant-loop-line : goal.invariant-loop-line
invariant-loop-line l = changed_by (map (λ (x : EntryLine). x.what) (drop l.line-index l.lines)) l.streams.items
    ≡ changed_by (map (λ (x : EntryLine). x.what) l.lines) l.initial.streams.items
