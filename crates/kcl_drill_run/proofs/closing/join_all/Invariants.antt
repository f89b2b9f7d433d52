use Rattle.std.proofs.Common.{◌≡◌, List, ◌++◌, length}
use Rattle.std.specs.Prelude.{flat_map}
use Rattle.std.specs.List.{All, AllByRecursion}
use Rattle.std.specs.Vec.Iter.{into_iter_items, into_iter_len}
use Rattle.kds_defs.specs.declared.command.Turn.{Turn}
use Rattle.kds_turn.specs.Known.{Continues}
use Rattle.kds_turn.specs.Passes.{accounts_of}
use Rattle.kcl_drill_run.specs.Running.{accounts_in}
use Rattle.kcl_drill_run.proofs.closing.join_all.Given as goal

-- The accounts joined so far and the remaining workers' are all; the root's pass has seen what joined passes saw.
abbrev pub invariant-loop-member : goal.invariant-loop-member
invariant-loop-member l =
    let p = l.fn.participants in
    let left = into_iter_items l.member-iterator in
    record {
      hall : l.root.hall ≡ l.hall.id;
      by : l.root.by ≡ p.root.by;
      own : l.root.own ≡ p.root.own;
      joined : l.root.joined ++ flat_map accounts_in left ≡ p.root.joined
          ++ (accounts_of p.feeder ++ flat_map accounts_in p.members.items);
      seen_root : Continues l.root.seen p.root.seen;
      seen : Continues l.root.seen p.feeder.seen;
      seen_members : (s : List Turn) → Continues s l.root.seen → AllByRecursion (λ m. Continues s m.pass.seen) left
          → AllByRecursion (λ m. Continues s m.pass.seen) p.members.items;
      len : into_iter_len l.member-iterator ≡ length left;
      halls : All (λ m. m.pass.hall ≡ l.hall.id) left;
    }
