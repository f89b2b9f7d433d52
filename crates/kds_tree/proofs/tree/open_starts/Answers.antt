use Rattle.std.proofs.Common.{◌≡◌, ◌++◌, refl, sym, ap, subst, ◌∙◌}
use Rattle.std.specs.List.Sorted.{IsPermutation}
use Rattle.std.proofs.lemmas.List.{append-nil, drop_all}
use Rattle.kds_tree.proofs.OpenStarts.{made_starts, in_order}
use Rattle.kds_tree.specs.Starts.{open_starts}
use Rattle.kds_tree.proofs.tree.open_starts.Goals as goal

pub returns : goal.returns
returns c = λ numbers.
    let xs = c.args.shards.now in
    let ss = c.loop-kept.starts.items in
    let all : ss ≡ open_starts xs =
    sym (append-nil ss) ∙ ap (λ ys. ss ++ open_starts ys)
    (sym (drop_all c.loop-kept.kept-index xs c.loop-kept-test.false)) ∙ c.loop-kept.invariant in
    in_order xs (open_starts xs) c.sort_starts.new.starts.items (made_starts xs numbers) (λ p. refl)
    (subst (λ us. IsPermutation us c.sort_starts.new.starts.items) all c.sort_starts.ensures.same)
    c.sort_starts.ensures.order
