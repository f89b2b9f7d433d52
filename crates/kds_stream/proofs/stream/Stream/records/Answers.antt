use Rattle.std.proofs.Common.{◌≡◌, Some, None, get_or, sym, subst, ap, ◌∙◌, arith}
use Rattle.std.specs.Prelude.{is_some, slice_get, ◌&&◌}
use Rattle.std.specs.Option.{option_map}
use Rattle.kds_defs.specs.Listings.{get_records}
use Rattle.kds_defs.specs.Shards.{shown}
use Rattle.kds_defs.specs.Streams.{floor_of}
use Rattle.kds_stream.proofs.Insides.{shown_inside}
use Rattle.kds_stream.proofs.Listed.{answer_along, listed_within, none_of, records_end, records_expired, records_more}
use Rattle.kds_stream.proofs.Listed.{records_unlisted}
use Rattle.kds_stream.proofs.ReadLemmas.{below_last}
use Rattle.kds_stream.specs.Value.{StreamValue, listed_at}
use Rattle.kds_stream.specs.contracts.stream.Stream.{the_view}
use Rattle.kds_log.specs.Log.{log_of}
use Rattle.kds_stream_logs.proofs.LogLemmas.{as_many_logs}
use Rattle.kds_stream.proofs.LogLemmas.{log_at}
use Rattle.kds_stream.proofs.stream.Stream.records.Goals as goal

pub returns-then-iter_expired : goal.returns-then-iter_expired
returns-then-iter_expired c log show =
    let v : StreamValue = the_view c.self.inside in
    answer_along (λ (u : StreamValue). get_records log u.clock c.args.iter.now c.args.limit) v c.args.self.now _
    c.self.view_is
    (records_expired v log (shown_inside log c.self.view_is show)
    c.args.iter.now c.args.limit c.if-iter_expired.ensures)

pub returns-in_default : goal.returns-in_default
returns-in_default c log show =
    let v : StreamValue = the_view c.self.inside in
    answer_along (λ (u : StreamValue). get_records log u.clock c.args.iter.now c.args.limit) v c.args.self.now _
    c.self.view_is
    (records_unlisted v log (shown_inside log c.self.view_is show)
    c.args.iter.now c.args.limit
    (subst (λ (u : StreamValue). c.args.iter.now.stream ≡ u.no) (sym c.self.view_is) c.requires.stream)
    c.if-iter_expired.ensures
    (subst (λ (u : StreamValue). None
    ≡ option_map shown (listed_at (floor_of u.cut) (slice_get u.tree c.args.iter.now.shard)))
    (sym c.self.view_is) (sym c.in_default.is ∙ c.listed.ensures.value)))

pub index-log-requires : goal.index-log-requires
index-log-requires c =
    let v : StreamValue = the_view c.self.inside in
    let listed = subst (λ (u : StreamValue). Some c.in-Some.shard
    ≡ option_map shown (listed_at (floor_of u.cut) (slice_get u.tree c.args.iter.now.shard))) (sym c.self.view_is)
    (sym c.in-Some.is ∙ c.listed.ensures.value) in
    omega (
      arith,
      listed_within v c.args.iter.now.shard c.in-Some.shard c.self.invariant listed,
      c.no.view_is,
      c.self.inside.logs.ok.0,
      as_many_logs c.self.inside.logs.items,
    )

pub batch_at-requires : goal.batch_at-requires
batch_at-requires c =
    let v : StreamValue = the_view c.self.inside in
    let listed = subst (λ (u : StreamValue). Some c.in-Some.shard
    ≡ option_map shown (listed_at (floor_of u.cut) (slice_get u.tree c.args.iter.now.shard))) (sym c.self.view_is)
    (sym c.in-Some.is ∙ c.listed.ensures.value) in
    below_last v c.no.inside.0 (log_of c.index-log.result.now) c.self.invariant
    (omega (arith, listed_within v c.args.iter.now.shard c.in-Some.shard c.self.invariant listed, c.no.view_is))
    (log_at c.self.inside.logs.items c.no.inside.0 c.index-log.result.now c.index-log.ensures)

pub returns-then-end : goal.returns-then-end
returns-then-end c log show =
    let v : StreamValue = the_view c.self.inside in
    let show' = shown_inside log c.self.view_is show in
    let listed = subst (λ (u : StreamValue). Some c.in-Some.shard
    ≡ option_map shown (listed_at (floor_of u.cut) (slice_get u.tree c.args.iter.now.shard))) (sym c.self.view_is)
    (sym c.in-Some.is ∙ c.listed.ensures.value) in
    let own = subst (λ (u : StreamValue). c.args.iter.now.stream ≡ u.no) (sym c.self.view_is) c.requires.stream in
    let is_at = subst (λ n. log_of c.index-log.result.now ≡ get_or v.logs n (log_of c.index-log.result.now))
    c.no.view_is
    (log_at c.self.inside.logs.items c.no.inside.0 c.index-log.result.now c.index-log.ensures) in
    let end = c.if-end.ensures
    ∙ ap (λ b. is_some c.in-Some.shard.end && b)
    (none_of c.first_left-left.result c.is_none.result c.is_none.ensures) in
    answer_along (λ (u : StreamValue). get_records log u.clock c.args.iter.now c.args.limit) v c.args.self.now _
    c.self.view_is
    (records_end v log show' c.args.iter.now c.args.limit c.in_ok-batch.reach c.in-Some.shard
    (log_of c.index-log.result.now) c.first_left-left.result c.in_ok-batch.batch c.millis_behind-behind.result own
    c.if-iter_expired.ensures listed
    (listed_within v c.args.iter.now.shard c.in-Some.shard c.self.invariant listed) is_at c.in_ok-batch.ensures.batch
    c.in_ok-batch.ensures.reach c.first_left-left.ensures.value c.millis_behind-behind.ensures
    c.in_ok-children.children end c.in_ok-children.ensures)

pub returns : goal.returns
returns c log show =
    let v : StreamValue = the_view c.self.inside in
    let show' = shown_inside log c.self.view_is show in
    let listed = subst (λ (u : StreamValue). Some c.in-Some.shard
    ≡ option_map shown (listed_at (floor_of u.cut) (slice_get u.tree c.args.iter.now.shard))) (sym c.self.view_is)
    (sym c.in-Some.is ∙ c.listed.ensures.value) in
    let own = subst (λ (u : StreamValue). c.args.iter.now.stream ≡ u.no) (sym c.self.view_is) c.requires.stream in
    let is_at = subst (λ n. log_of c.index-log.result.now ≡ get_or v.logs n (log_of c.index-log.result.now))
    c.no.view_is
    (log_at c.self.inside.logs.items c.no.inside.0 c.index-log.result.now c.index-log.ensures) in
    let end = c.if-end.ensures
    ∙ ap (λ b. is_some c.in-Some.shard.end && b)
    (none_of c.first_left-left.result c.is_none.result c.is_none.ensures) in
    answer_along (λ (u : StreamValue). get_records log u.clock c.args.iter.now c.args.limit) v c.args.self.now _
    c.self.view_is
    (records_more v log show' c.args.iter.now c.args.limit c.in_ok-batch.reach c.in-Some.shard
    (log_of c.index-log.result.now) c.first_left-left.result c.in_ok-batch.batch c.millis_behind-behind.result own
    c.if-iter_expired.ensures listed
    (listed_within v c.args.iter.now.shard c.in-Some.shard c.self.invariant listed) is_at c.in_ok-batch.ensures.batch
    c.in_ok-batch.ensures.reach c.first_left-left.ensures.value c.millis_behind-behind.ensures c.new.result end
    c.new.ensures)
