use Rattle.std.proofs.Common.{◌≡◌, Some, sym, subst, ◌∙◌}
use Rattle.kcl_drill_drain.specs.declared.held.DrainTenure.{DrainTenure}
use Rattle.kcl_drill_drain.specs.Leased.{Leads}
use Rattle.kcl_drill_drain.specs.Standing.{IsTaken}
use Rattle.kcl_drill_drain.proofs.rows.drain_taken.Goals as goal

same_held : (a b : DrainTenure) → Some a ≡ Some b → a ≡ b
same_held a b h = cc

pub returns-in_ok-open-in-Some-clause-ok : goal.returns-in_ok-open-in-Some-clause-ok
returns-in_ok-open-in-Some-clause-ok g c = λ w r spot same same_n seen going l.
    let f = c.in_ok-held.ensures.ok w r spot same same_n seen going l in
    let e = same_held f.0 c.in-Some.held (sym f.1 ∙ c.in-Some.is) in
    c.read_on.ensures.ok w spot
    (c.in_ok-open-in-Some.ensures.ok w r spot seen going
    (subst (λ (held : DrainTenure).
    Leads (g.M.Machine.stands_for c.take.new.machine) c.args.by c.args.at w.history
    (IsTaken w c.args.by r held)) e f.2))
