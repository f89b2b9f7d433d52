use Rattle.std.proofs.Common.{◌≡◌, ◌+◌, ◌++◌, ◌∷◌, [], List, ℕ, refl, subst, sym, ap, ◌∙◌, arith}
use Rattle.kds_defs.specs.Streams.{floor_of}
use Rattle.kds_tree.specs.Front.{AreLeft}
use Rattle.kds_tree.proofs.FrontLemmas.{one_named, one_passed}
use Rattle.kds_tree.proofs.front.skip_one.Goals as goal

pub returns-then-is_expired-clause-ok : goal.returns-then-is_expired-clause-ok
returns-then-is_expired-clause-ok c front =
    one_passed (floor_of c.args.cut.now) 0 c.args.count (c.args.count + 1) c.args.left.now.items c.args.shards.now
    c.index-shards-count.result refl
    c.requires c.index-shards-count.is (sym c.is_expired.ensures ∙ c.if-is_expired.true) front

pub returns-clause-ok : goal.returns-clause-ok
returns-clause-ok c front =
    let names = c.args.left.now.items in
    let e : 0 + c.args.count ≡ c.args.count = omega arith in
    let is = c.in_ok-push.ensures.items ∙ ap (λ (k : ℕ). names ++ k ∷ []) (sym e) in
    subst (λ (us : List ℕ). AreLeft (floor_of c.args.cut.now) 0 (c.args.count + 1) us c.args.shards.now) (sym is)
    (one_named (floor_of c.args.cut.now) 0 c.args.count (c.args.count + 1) names c.args.shards.now refl c.requires
    front)
