use Rattle.std.proofs.Common.{rules, ◌≡◌, ◌≤◌, List, ℕ, Bor, length, map, ap, ◌∙◌, arith}
use Rattle.std.proofs.lemmas.List.{length-map}
use Rattle.std.proofs.lemmas.List.Sorted.{answers_always}
use Rattle.indexmap.specs.IndexMap.{values}
use Rattle.kds_defs.specs.Listings.{names_in_order}
use Rattle.kds_service.proofs.NameOrder.{before_orders, names_done, names_step, shown_before, sorted_names}
use Rattle.kds_service.specs.Shown.{names_of}
use Rattle.kds_service.proofs.listing.names_in_order.Goals as goal

pub loop-i-preserved : goal.loop-i-preserved
loop-i-preserved c = names_step (values c.args.streams.now) c.loop-i.i c.index.result.now c.name.result
    c.loop-i.names.items _ c.index.ensures c.name.ensures c.in_ok-push.ensures.items ∙ c.loop-i.invariant

pub returns : goal.returns
returns c =
    let vs = values c.args.streams.now in
    let past : length vs ≤ c.loop-i.i =
    omega (arith, length-map c.args.streams.now.entries (λ e. e.1), c.len-i-end.ensures.len, c.loop-i-test.false) in
    let all : map (λ n. n.now) c.loop-i.names.items ≡ names_of vs =
    names_done vs c.loop-i.i c.loop-i.names.items past c.loop-i.invariant in
    let sorts = c.sort_unstable_by in
    sorted_names c.loop-i.names.items sorts.new.self.items sorts.ensures.permutation
    (sorts.ensures.sorted shown_before (before_orders (λ (n : Bor (List ℕ)). n.now))
    (answers_always _ _ _ (λ f a r g k. search rules)))
    ∙ ap names_in_order all
