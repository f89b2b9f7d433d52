use Rattle.std.proofs.Common.{◌≡◌, ◌∙◌, ◌∷◌, ◌++◌, sym, ap, subst, append-nil, arith, length}
use Rattle.std.specs.Prelude.{flat_map}
use Rattle.std.specs.List.{AllByRecursion}
use Rattle.std.specs.Vec.Iter.{into_iter_items}
use Rattle.std.proofs.lemmas.List.{nil_from_length}
use Rattle.kds_turn.specs.Known.{Continues}
use Rattle.kds_turn.proofs.Turns.{continues_same, continues_all}
use Rattle.kcl_drill_run.specs.Running.{accounts_in}
use Rattle.kcl_drill_run.proofs.Joined.{all_rest, joined_more}
use Rattle.kcl_drill_run.proofs.closing.join_all.Goals as goal

pub loop-member-preserved : goal.loop-member-preserved
loop-member-preserved c =
    let inv = c.loop-member.invariant in
    let earlier = into_iter_items c.loop-member.member-iterator in
    let rest = into_iter_items c.next.new.self in
    let step : earlier ≡ c.in-Some.member ∷ rest = c.in-Some.ensures.steps.0 in
    let joined = c.join-in-loop-member.ensures in
    let now = c.join-in-loop-member.new.pass in
    record {
      hall = joined.kept.0 ∙ inv.hall;
      by = joined.kept.1 ∙ inv.by;
      own = joined.kept.2 ∙ inv.own;
      joined = joined_more c.loop-member.root.joined now.joined _ c.in-Some.member rest earlier joined.joined step
          inv.joined;
      seen_root = continues_all now.seen c.loop-member.root.seen c.args.participants.root.seen joined.seen.0
          inv.seen_root;
      seen = continues_all now.seen c.loop-member.root.seen c.args.participants.feeder.seen joined.seen.0 inv.seen;
      seen_members = λ s more left.
          inv.seen_members s (continues_all s now.seen c.loop-member.root.seen more joined.seen.0)
          (subst (λ ms. AllByRecursion (λ m. Continues s m.pass.seen) ms) (sym step)
          (continues_all s now.seen c.in-Some.member.pass.seen more joined.seen.1, left));
      len = omega (arith, inv.len, ap length step, c.in-Some.ensures.steps.1);
      halls = all_rest (λ m. m.pass.hall ≡ c.args.hall.now.id) c.in-Some.member rest earlier step inv.halls;
    }

pub returns-clause-taken : goal.returns-clause-taken
returns-clause-taken c =
    let inv = c.loop-member.invariant in
    let root = c.loop-member.root in
    let none = nil_from_length (into_iter_items c.loop-member.member-iterator) (sym inv.len
    ∙ c.in-None.ensures.steps.0) in
    record {
      by = inv.by;
      own = inv.own;
      joined = sym (append-nil root.joined) ∙ ap (λ ms. root.joined ++ flat_map accounts_in ms) (sym none) ∙ inv.joined;
      seen_root = inv.seen_root;
      seen = inv.seen;
      seen_members = inv.seen_members root.seen (continues_same root.seen)
          (subst (λ ms. AllByRecursion (λ m. Continues root.seen m.pass.seen) ms) (sym none) tt);
    }
