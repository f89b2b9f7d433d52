use Rattle.std.proofs.Common.{◌≡◌, ◌≢◌, ◌+◌, ◌∷◌, ◌++◌, [], None, List, refl, sym, subst, ap, ◌∙◌, map}
use Rattle.std.specs.List.{AllByRecursion}
use Rattle.kds_defs.specs.Shards.{merged_shards}
use Rattle.kds_defs.specs.StreamCommands.{last_number}
use Rattle.kds_stream.proofs.Insides.{shown_inside}
use Rattle.kds_stream.proofs.LogLemmas.{one_more_log}
use Rattle.kds_stream.proofs.Rates.{one_window}
use Rattle.kds_stream.proofs.Resharded.{merge_done, shows_merged, stream_merged}
use Rattle.kds_stream_logs.specs.Rating.{IsUnused}
use Rattle.kds_stream.specs.Showing.{Shows}
use Rattle.kds_stream_logs.specs.Logs.{empty_log}
use Rattle.kds_stream.specs.Value.{StreamValue}
use Rattle.kds_stream.specs.contracts.stream.Stream.{the_view}
use Rattle.kds_tree.specs.Tree.{merge_refusal, value_by}
use Rattle.kds_rate.specs.Windows.{WindowValue}
use Rattle.kds_log.specs.Log.{log_of}
use Rattle.kds_stream.proofs.stream.Stream.merge.Goals as goal

pub invariant_of-self-2 : goal.invariant_of-self-2
invariant_of-self-2 c =
    let v : StreamValue = the_view c.self.inside in
    let free : v.next ≢ last_number =
    subst (λ (u : StreamValue). u.next ≢ last_number) (sym c.self.view_is) c.in_default.ensures.unspent in
    let passes = subst (λ (u : StreamValue). merge_refusal u.tree c.args.shard c.args.other ≡ None) (sym c.self.view_is)
    c.in_default.ensures.merges in
    let tree = c.in_ok-_child.ensures.value
    ∙ ap (λ o. value_by o v.tree
    (merged_shards c.args.shard c.args.other (record { number = v.next; clock = v.clock }) (v.next + 1) v.tree))
    passes in
    let logs : map log_of c.push_reserved.new.self.items ≡ v.logs ++ (empty_log ∷ []) =
    one_more_log _ _ _ _ c.push_reserved.ensures.items (ap (map log_of) c.in_ok-reserve.ensures.items)
    c.new.ensures in
    let ws : List WindowValue = c.new-2.result ∷ [] in
    let windows : c.push_reserved-2.new.self.items ≡ v.windows ++ ws =
    one_window _ _ v.windows _ c.push_reserved-2.ensures.items c.in_ok-reserve-2.ensures.items in
    let unused : AllByRecursion IsUnused ws =
    (record { none = c.new-2.ensures.puts; never = c.new-2.ensures.latest }, tt) in
    stream_merged v c.args.shard c.args.other _ _ _ _ ws (ap (λ n. n + 1) c.seq.view_is) free passes tree logs windows
    unused refl c.self.invariant

pub returns-clause-answered : goal.returns-clause-answered
returns-clause-answered c log actor show =
    let v : StreamValue = the_view c.self.inside in
    let free : v.next ≢ last_number =
    subst (λ (u : StreamValue). u.next ≢ last_number) (sym c.self.view_is) c.in_default.ensures.unspent in
    let passes = subst (λ (u : StreamValue). merge_refusal u.tree c.args.shard c.args.other ≡ None) (sym c.self.view_is)
    c.in_default.ensures.merges in
    let tree = c.in_ok-_child.ensures.value
    ∙ ap (λ o. value_by o v.tree
    (merged_shards c.args.shard c.args.other (record { number = v.next; clock = v.clock }) (v.next + 1) v.tree))
    passes in
    let logs : map log_of c.push_reserved.new.self.items ≡ v.logs ++ (empty_log ∷ []) =
    one_more_log _ _ _ _ c.push_reserved.ensures.items (ap (map log_of) c.in_ok-reserve.ensures.items)
    c.new.ensures in
    let show' : Shows v log = shown_inside log c.self.view_is show in
    let ws : List WindowValue = c.new-2.result ∷ [] in
    let windows : c.push_reserved-2.new.self.items ≡ v.windows ++ ws =
    one_window _ _ v.windows _ c.push_reserved-2.ensures.items c.in_ok-reserve-2.ensures.items in
    let unused : AllByRecursion IsUnused ws =
    (record { none = c.new-2.ensures.puts; never = c.new-2.ensures.latest }, tt) in
    merge_done c.args.self.now v _ log actor c.args.shard c.args.other c.self.view_is
    (c.in_default.ensures.decided log actor show)
    (shows_merged v log actor show' c.self.invariant.as_many c.self.invariant.rated.as_many c.args.shard c.args.other _
    _ _
    _ ws (ap (λ n. n + 1) c.seq.view_is) tree logs windows unused)
