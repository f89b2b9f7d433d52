use Rattle.std.proofs.Common.{◌≡◌, List, sym, subst, refl}
use Rattle.std.specs.List.{All, range_with_len}
use Rattle.std.proofs.lemmas.List.Elements.{All-map}
use Rattle.kds_turn.specs.Passes.{PassValue, new_pass}
use Rattle.kds_cli_runs.proofs.runs.serve_door.Goals as goal

pub crew-requires-clause-hall : goal.crew-requires-clause-hall
crew-requires-clause-hall g c = λ lifetimes outlive.
    let id = c.in-Ok.hall.id in
    subst (λ (l : List PassValue). All (λ p. p.hall ≡ id) l) (sym c.in-Ok.ensures.ok.1)
    (All-map (λ (p : PassValue). p.hall ≡ id) (new_pass id) (range_with_len 1 c.args.passes) (λ k d below. refl))
