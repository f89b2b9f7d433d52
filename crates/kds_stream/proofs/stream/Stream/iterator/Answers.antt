use Rattle.std.proofs.Common.{◌≡◌, Some, get_or, sym, subst, ◌∙◌, arith}
use Rattle.std.specs.Prelude.{slice_get}
use Rattle.std.specs.Option.{option_map}
use Rattle.kds_defs.specs.Listings.{get_iterator}
use Rattle.kds_defs.specs.Shards.{shown}
use Rattle.kds_defs.specs.Streams.{floor_of}
use Rattle.kds_stream.proofs.Insides.{shown_inside}
use Rattle.kds_stream.proofs.Listed.{answer_along, iterator_bad, iterator_done, iterator_unlisted, listed_within}
use Rattle.kds_stream.specs.Value.{StreamValue, listed_at}
use Rattle.kds_stream.specs.contracts.stream.Stream.{the_view}
use Rattle.kds_log.specs.Log.{log_of}
use Rattle.kds_stream_logs.proofs.LogLemmas.{as_many_logs}
use Rattle.kds_stream.proofs.LogLemmas.{log_at}
use Rattle.kds_stream.proofs.stream.Stream.iterator.Goals as goal

pub returns-in_default : goal.returns-in_default
returns-in_default c log show =
    iterator_unlisted c.args.self.now log show c.args.shard c.args.from (sym c.in_default.is ∙ c.listed.ensures.value)

pub index-log-requires : goal.index-log-requires
index-log-requires c =
    let v : StreamValue = the_view c.self.inside in
    let listed = subst (λ (u : StreamValue). Some c.in-Some.state
    ≡ option_map shown (listed_at (floor_of u.cut) (slice_get u.tree c.args.shard))) (sym c.self.view_is)
    (sym c.in-Some.is ∙ c.listed.ensures.value) in
    omega (
      arith,
      listed_within v c.args.shard c.in-Some.state c.self.invariant listed,
      c.shard.view_is,
      c.self.inside.logs.ok.0,
      as_many_logs c.self.inside.logs.items,
    )

pub returns-in-Some-position : goal.returns-in-Some-position
returns-in-Some-position c log show =
    let v : StreamValue = the_view c.self.inside in
    let listed = subst (λ (u : StreamValue). Some c.in-Some.state
    ≡ option_map shown (listed_at (floor_of u.cut) (slice_get u.tree c.args.shard))) (sym c.self.view_is)
    (sym c.in-Some.is ∙ c.listed.ensures.value) in
    let is_at = subst (λ n. log_of c.index-log.result.now ≡ get_or v.logs n (log_of c.index-log.result.now))
    c.shard.view_is (log_at c.self.inside.logs.items c.shard.inside.0 c.index-log.result.now c.index-log.ensures) in
    answer_along (λ (u : StreamValue). get_iterator log u.clock u.no c.args.shard c.args.from) v c.args.self.now _
    c.self.view_is
    (iterator_done v log (shown_inside log c.self.view_is show) c.args.shard c.args.from
    c.in-Some.state (log_of c.index-log.result.now) c.in-Some-position.position
    (listed_within v c.args.shard c.in-Some.state c.self.invariant listed) is_at listed c.in-Some-position.ensures)

pub returns-in-None : goal.returns-in-None
returns-in-None c log show =
    let v : StreamValue = the_view c.self.inside in
    let listed = subst (λ (u : StreamValue). Some c.in-Some.state
    ≡ option_map shown (listed_at (floor_of u.cut) (slice_get u.tree c.args.shard))) (sym c.self.view_is)
    (sym c.in-Some.is ∙ c.listed.ensures.value) in
    let is_at = subst (λ n. log_of c.index-log.result.now ≡ get_or v.logs n (log_of c.index-log.result.now))
    c.shard.view_is (log_at c.self.inside.logs.items c.shard.inside.0 c.index-log.result.now c.index-log.ensures) in
    answer_along (λ (u : StreamValue). get_iterator log u.clock u.no c.args.shard c.args.from) v c.args.self.now _
    c.self.view_is
    (iterator_bad v log (shown_inside log c.self.view_is show) c.args.shard c.args.from
    c.in-Some.state (log_of c.index-log.result.now)
    (listed_within v c.args.shard c.in-Some.state c.self.invariant listed) is_at listed c.in-None.ensures)
