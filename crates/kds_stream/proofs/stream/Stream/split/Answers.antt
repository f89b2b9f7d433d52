use Rattle.std.proofs.Common.{◌≡◌, ◌≢◌, ◌+◌, ◌<◌, ◌∷◌, ◌++◌, [], None, List, length, refl, sym, subst, ap, ◌∙◌, map}
use Rattle.std.specs.List.{AllByRecursion, filter}
use Rattle.kds_defs.specs.declared.limits.TheConstants.{OPEN_SHARDS}
use Rattle.kds_defs.specs.Shards.{is_open, split_shards}
use Rattle.kds_defs.specs.StreamCommands.{last_number}
use Rattle.kds_stream.proofs.Insides.{shown_inside}
use Rattle.kds_stream.proofs.LogLemmas.{two_more}
use Rattle.kds_stream.proofs.Rates.{two_windows}
use Rattle.kds_stream.proofs.Resharded.{split_done, shows_split, stream_split}
use Rattle.kds_stream_logs.specs.Rating.{IsUnused}
use Rattle.kds_stream.specs.Showing.{Shows, is_full}
use Rattle.kds_stream_logs.specs.Logs.{empty_log}
use Rattle.kds_stream.specs.Value.{StreamValue}
use Rattle.kds_stream.specs.contracts.stream.Stream.{the_view}
use Rattle.kds_tree.specs.Tree.{split_refusal, value_by}
use Rattle.kds_rate.specs.Windows.{WindowValue}
use Rattle.kds_log.specs.Log.{log_of}
use Rattle.kds_stream.proofs.stream.Stream.split.Goals as goal

pub invariant_of-self-2 : goal.invariant_of-self-2
invariant_of-self-2 c =
    let v : StreamValue = the_view c.self.inside in
    let free : v.next ≢ last_number =
    subst (λ (u : StreamValue). u.next ≢ last_number) (sym c.self.view_is) c.in_default.ensures.unspent in
    let passes = subst (λ (u : StreamValue). split_refusal u.tree c.args.shard c.args.at ≡ None) (sym c.self.view_is)
    c.in_default.ensures.splits in
    let few : length (filter is_open v.tree) < OPEN_SHARDS =
    subst (λ (u : StreamValue). length (filter is_open u.tree) < OPEN_SHARDS) (sym c.self.view_is)
    c.in_default.ensures.few in
    let tree = c.in_ok-_children.ensures.value
    ∙ ap (λ o. value_by o v.tree
    (split_shards c.args.shard c.args.at (record { number = v.next; clock = v.clock }) (v.next + 1) v.tree))
    passes in
    let logs : map log_of c.push_reserved-2.new.self.items ≡ v.logs ++ (empty_log ∷ empty_log ∷ []) =
    two_more _ _ _ _ _ _ c.push_reserved-2.ensures.items c.push_reserved.ensures.items
    (ap (map log_of) c.in_ok-reserve.ensures.items) c.new.ensures c.new-2.ensures in
    let ws : List WindowValue = c.new-3.result ∷ c.new-4.result ∷ [] in
    let windows : c.push_reserved-4.new.self.items ≡ v.windows ++ ws =
    two_windows _ _ _ v.windows _ _ c.push_reserved-4.ensures.items c.push_reserved-3.ensures.items
    c.in_ok-reserve-2.ensures.items in
    let unused : AllByRecursion IsUnused ws = (
      record { none = c.new-3.ensures.puts; never = c.new-3.ensures.latest },
      (record { none = c.new-4.ensures.puts; never = c.new-4.ensures.latest }, tt),
    ) in
    stream_split v c.args.shard c.args.at _ _ _ _ ws (ap (λ n. n + 1) c.seq.view_is) free few passes tree logs windows
    unused refl c.self.invariant

pub returns-clause-answered : goal.returns-clause-answered
returns-clause-answered c log actor show =
    let v : StreamValue = the_view c.self.inside in
    let free : v.next ≢ last_number =
    subst (λ (u : StreamValue). u.next ≢ last_number) (sym c.self.view_is) c.in_default.ensures.unspent in
    let passes = subst (λ (u : StreamValue). split_refusal u.tree c.args.shard c.args.at ≡ None) (sym c.self.view_is)
    c.in_default.ensures.splits in
    let tree = c.in_ok-_children.ensures.value
    ∙ ap (λ o. value_by o v.tree
    (split_shards c.args.shard c.args.at (record { number = v.next; clock = v.clock }) (v.next + 1) v.tree))
    passes in
    let logs : map log_of c.push_reserved-2.new.self.items ≡ v.logs ++ (empty_log ∷ empty_log ∷ []) =
    two_more _ _ _ _ _ _ c.push_reserved-2.ensures.items c.push_reserved.ensures.items
    (ap (map log_of) c.in_ok-reserve.ensures.items) c.new.ensures c.new-2.ensures in
    let show' : Shows v log = shown_inside log c.self.view_is show in
    let ws : List WindowValue = c.new-3.result ∷ c.new-4.result ∷ [] in
    let windows : c.push_reserved-4.new.self.items ≡ v.windows ++ ws =
    two_windows _ _ _ v.windows _ _ c.push_reserved-4.ensures.items c.push_reserved-3.ensures.items
    c.in_ok-reserve-2.ensures.items in
    let unused : AllByRecursion IsUnused ws = (
      record { none = c.new-3.ensures.puts; never = c.new-3.ensures.latest },
      (record { none = c.new-4.ensures.puts; never = c.new-4.ensures.latest }, tt),
    ) in
    split_done c.args.self.now v _ (is_full c.args.self.now c.args.open_limit) log actor c.args.shard c.args.at
    c.self.view_is
    (c.in_default.ensures.decided log actor show)
    (shows_split v log actor show' c.self.invariant.as_many c.self.invariant.rated.as_many c.args.shard c.args.at _ _ _
    _
    ws (ap (λ n. n + 1) c.seq.view_is) tree logs windows unused)
