use Rattle.std.proofs.Common.{◌≡◌, ◌++◌, List, length, map, take, drop, sym, subst, ap, ◌∙◌, arith}
use Rattle.kds_defs.specs.Shards.{ShardState}
use Rattle.kds_defs.specs.Streams.{floor_of}
use Rattle.kds_log.specs.Log.{LogValue, LogWithReserve, log_of}
use Rattle.kds_stream.proofs.Clocks.{settled_stream, shows_settled}
use Rattle.kds_stream.proofs.LogLemmas.{written_back}
use Rattle.kds_stream.specs.Showing.{Shows}
use Rattle.kds_tree.specs.Tree.{TreeValue}
use Rattle.kds_stream_logs.specs.Logs.{settled_at}
use Rattle.kds_stream.specs.Value.{IsStream, StreamValue}
use Rattle.kds_stream.specs.contracts.stream.Stream.{the_view}
use Rattle.kds_stream.proofs.stream.Stream.settle.Goals as goal

pub invariant_of-self : goal.invariant_of-self
invariant_of-self c =
    let v : StreamValue = the_view c.self.inside in
    let kept = map log_of
    (take c.self.inside.logs.len (c.settle_at.new.logs
    ++ drop (length c.settle_at.new.logs) c.self.inside.logs.items)) in
    let back : kept ≡ settled_at (floor_of v.cut) v.next_to_settle v.logs =
    ap (map log_of) (written_back _ c.settle_at.new.logs c.self.inside.logs.items (omega arith))
    ∙ c.settle_at.ensures
    ∙ ap (λ (ls : List LogWithReserve). settled_at (floor_of v.cut) v.next_to_settle (map log_of ls))
    c.deref_mut.ensures.value in
    let next = c.next_of-self-inside.result in
    let after : List ShardState → List LogValue → StreamValue =
    λ xs ls. record v { tree = xs; logs = ls; clock_before = v.clock; cut_before = v.cut; next_to_settle = next } in
    subst (λ (xs : List ShardState). IsStream (after xs kept))
    (sym (ap (λ (t : TreeValue). t.shards) c.note_expired.ensures))
    (subst (λ (ls : List LogValue). IsStream (after v.tree ls)) (sym back)
    (settled_stream v v.next_to_settle next c.self.invariant))

pub returns-clause-shows : goal.returns-clause-shows
returns-clause-shows c log shown =
    let v : StreamValue = the_view c.self.inside in
    let kept = map log_of
    (take c.self.inside.logs.len (c.settle_at.new.logs
    ++ drop (length c.settle_at.new.logs) c.self.inside.logs.items)) in
    let back : kept ≡ settled_at (floor_of v.cut) v.next_to_settle v.logs =
    ap (map log_of) (written_back _ c.settle_at.new.logs c.self.inside.logs.items (omega arith))
    ∙ c.settle_at.ensures
    ∙ ap (λ (ls : List LogWithReserve). settled_at (floor_of v.cut) v.next_to_settle (map log_of ls))
    c.deref_mut.ensures.value in
    let next = c.next_of-self-inside.result in
    let after : List ShardState → List LogValue → StreamValue =
    λ xs ls. record v { tree = xs; logs = ls; clock_before = v.clock; cut_before = v.cut; next_to_settle = next } in
    let shown' : Shows v log = subst (λ (w : StreamValue). Shows w log) (sym c.self.view_is) shown in
    subst (λ (xs : List ShardState). Shows (after xs kept) log)
    (sym (ap (λ (t : TreeValue). t.shards) c.note_expired.ensures))
    (subst (λ (ls : List LogValue). Shows (after v.tree ls) log) (sym back)
    (shows_settled v v.next_to_settle v.clock v.cut next log shown'))
