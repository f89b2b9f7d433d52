use Rattle.std.proofs.Common.{Bool, List, ℕ, rules}
use Rattle.std.proofs.Common.{subst, sym}
use Rattle.std.specs.Prelude.{not, slice_get}
use Rattle.std.proofs.lemmas.Fn.{filter_same}
use Rattle.kds_defs.specs.Streams.{floor_of}
use Rattle.kds_tree.specs.Front.{AreLeft}
use Rattle.kds_tree.specs.Tree.{is_expired_at}
use Rattle.kds_tree.proofs.FrontLemmas.{drops_expired, kept_left}
use Rattle.kds_tree.proofs.front.remove_expired.Goals as goal

pub returns : goal.returns
returns c = λ count front.
    let xs = c.args.shards.now in
    let floor = floor_of c.args.cut.now in
    let keep : ℕ → Bool = λ (no : ℕ). not (is_expired_at floor (slice_get xs no)) in
    subst (λ (names : List ℕ). AreLeft floor 0 count names xs)
    (sym (filter_same _ keep _ (λ x b f' k. search rules) _ _ c.retain.ensures.filtered))
    (kept_left floor 0 count keep c.args.left.now.items xs (drops_expired floor xs) front)
