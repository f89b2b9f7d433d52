use Rattle.std.proofs.Common.{◌≡◌, ◌+◌, ◌++◌, ◌≤◌, List, length}
use Rattle.std.specs.Vec.Iter.{into_iter_items}
use Rattle.kds_turn.specs.Passes.{PassValue}
use Rattle.kcl_drill_run.specs.Participants.{AreMembersOf}
use Rattle.kcl_drill_run.proofs.participants.members_of.Given as goal

-- There is one worker for each pass that was taken so far, in order, and the other passes remain.
abbrev pub invariant-loop-pass : goal.invariant-loop-pass
invariant-loop-pass l = record {
  so_far : (used : List PassValue) × AreMembersOf 1 used l.made.items
      × (l.fn.passes.items ≡ used ++ into_iter_items l.pass-iterator);
  named : l.name ≡ length l.made.items;
  few : l.name + length (into_iter_items l.pass-iterator) ≤ 64;
}
