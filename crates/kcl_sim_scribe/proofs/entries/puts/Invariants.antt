use Rattle.std.proofs.Common.{◌≡◌, ◌++◌}
use Rattle.kcl_sim_scribe.specs.Telling.{put_entries}
use Rattle.kcl_sim_scribe.proofs.entries.puts.Given as goal

-- The entries so far, then the remaining items' entries, are all entries of the put.
abbrev pub invariant-loop-item : goal.invariant-loop-item
invariant-loop-item l = l.entries ++ put_entries l.stream l.item-iterator.a.rest.now l.item-iterator.b.rest.now
    ≡ put_entries l.stream l.items l.outcomes
