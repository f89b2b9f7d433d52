use Rattle.std.proofs.Common.{◌≡◌, List, sym, subst, refl, rules}
use Rattle.std.specs.List.{All, range_with_len}
use Rattle.std.proofs.lemmas.List.Elements.{All-map}
use Rattle.kds_turn.specs.Passes.{PassValue, new_pass}
use Rattle.test_load.proofs.running.made.Goals as goal

pub play-requires : goal.play-requires
play-requires g c =
    let id = c.in-Ok.hall.id in
    let all : All (λ (p : PassValue). p.hall ≡ id) c.in-Ok.dealt.items =
    subst (λ (l : List PassValue). All (λ p. p.hall ≡ id) l) (sym c.in-Ok.ensures.ok.1)
    (All-map (λ (p : PassValue). p.hall ≡ id) (new_pass id) (range_with_len 1 c.args.passes) (λ k d below. refl)) in
    (search rules, search rules)
