use Rattle.std.proofs.Common.{◌≡◌, ◌∙◌, ◌+◌, ◌∷◌, ◌++◌, [], length, ap, sym, subst, arith, length-append, append_assoc}
use Rattle.std.specs.Vec.Iter.{into_iter_items}
use Rattle.kcl_drill_run.specs.Participants.{AreMembersOf, IsMemberOf}
use Rattle.kcl_drill_run.proofs.Dealt.{one_more}
use Rattle.kcl_drill_run.proofs.participants.members_of.Goals as goal

pub loop-pass-preserved : goal.loop-pass-preserved
loop-pass-preserved c =
    let inv = c.loop-pass.invariant in
    let used = inv.so_far.0 in
    let made = c.loop-pass.made.items in
    let pass = c.in-Some.pass in
    let rest = into_iter_items c.next.new.self in
    let step : into_iter_items c.loop-pass.pass-iterator ≡ pass ∷ rest = c.in-Some.ensures.steps.0 in
    let items : c.push.new.self.items ≡ made ++ c.member.result ∷ [] = c.in_ok-push.ensures.items in
    let longer = ap length items ∙ length-append made (c.member.result ∷ []) in
    let name : c.loop-pass.name + 1 ≡ 1 + length made = omega (arith, inv.named) in
    record {
      so_far = (
        used ++ pass ∷ [],
        subst (AreMembersOf 1 (used ++ pass ∷ [])) (sym items)
            (one_more 1 used made pass c.member.result inv.so_far.1
            (subst (λ n. IsMemberOf n pass c.member.result) name c.member.ensures)),
        inv.so_far.2 ∙ ap (λ xs. used ++ xs) step ∙ sym (append_assoc used (pass ∷ []) rest),
      );
      named = omega (arith, longer, inv.named);
      few = let shorter = ap length step in omega (arith, inv.few, shorter);
    }
