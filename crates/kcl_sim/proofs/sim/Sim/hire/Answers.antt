use Rattle.std.proofs.Common.{◌≡◌, ◌∷◌, ◌++◌, [], length, ◌∙◌, ap, arith}
use Rattle.kcl_sim.specs.Standing.{SimValue}
use Rattle.kcl_sim.proofs.Running.{hired_goes}
use Rattle.kcl_sim.proofs.sim.Sim.hire.Goals as goal

pub returns-clause-goes : goal.returns-clause-goes
returns-clause-goes g c = λ ran s.
    let is_before : c.reserve.new.self.items ≡ c.args.self.now.workers =
    c.in_ok-reserve.ensures.items ∙ ap (λ (v : SimValue). v.workers) c.self.view_is in
    let items : c.push.new.self.items ≡ (c.args.self.now.workers ++ (c.new-worker.result ∷ [])) =
    c.in-Ok.ensures.items ∙ ap (λ ws. ws ++ (c.new-worker.result ∷ [])) is_before in
    hired_goes g.K.Keep.wanted c.args.self.now _ ran c.new-worker.result c.args.at c.args.name _ c.args.kind c.args.from
    c.args.to.now
    c.say_worker.new.to s c.requires.going
    (ap (λ (v : SimValue). record v { workers = c.push.new.self.items }) c.self.view_is
    ∙ ap (λ ws. record c.args.self.now { workers = ws }) items)
    (c.new-worker.ensures.made ∙ ap (λ z. record { name = c.args.name; settings = z }) c.settings.ensures)
    c.new-worker.ensures.maker c.new-worker.ensures.stands
    (omega (arith, c.len.ensures, ap length is_before)) c.in_ok-say_worker.ensures.ok
