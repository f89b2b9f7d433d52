use Rattle.std.proofs.Common.{◌≡◌, ◌<◌, map, true, get_or, length, sym, subst, ap, ◌∙◌}
use Rattle.std.specs.Prelude.{is_some, slice_get, ◌&&◌}
use Rattle.kds_defs.specs.Listings.{ends_at}
use Rattle.kds_defs.specs.Records.{batch, numbers_of, position_after, stored}
use Rattle.kds_defs.specs.Streams.{floor_of}
use Rattle.kds_stream.proofs.Insides.{shown_inside}
use Rattle.kds_stream.proofs.Listed.{made_within, none_of, read_end, read_no_end}
use Rattle.kds_stream.proofs.ReadLemmas.{batch_is, below_last}
use Rattle.kds_stream.specs.Value.{StreamValue, is_listed_at}
use Rattle.kds_stream.specs.contracts.stream.Stream.{the_view}
use Rattle.kds_stream.proofs.stream.Stream.read.Goals as goal
use Rattle.kds_log.specs.Log.{log_of}
use Rattle.kds_stream.proofs.LogLemmas.{log_at}
use Rattle.kds_stream.proofs.stream.Stream.read.Goals.{in-Some, in-None}

pub batch_at-requires : goal.batch_at-requires
batch_at-requires c =
    let v : StreamValue = the_view c.self.inside in
    let inside = made_within v c.args.shard c.self.invariant
    (subst (λ (u : StreamValue). is_listed_at (floor_of u.cut) (slice_get u.tree c.args.shard) ≡ true)
    (sym c.self.view_is) c.requires) in
    below_last v c.shard.inside.0 (log_of c.index-log.result.now) c.self.invariant
    (subst (λ n. n < length v.logs) (sym c.shard.view_is) inside)
    (log_at c.self.inside.logs.items c.shard.inside.0 c.index-log.result.now c.index-log.ensures)

pub returns-clause-batch : goal.returns-clause-batch
returns-clause-batch c log show =
    let v : StreamValue = the_view c.self.inside in
    let inside = made_within v c.args.shard c.self.invariant
    (subst (λ (u : StreamValue). is_listed_at (floor_of u.cut) (slice_get u.tree c.args.shard) ≡ true)
    (sym c.self.view_is) c.requires) in
    let is_at = subst (λ n. log_of c.index-log.result.now ≡ get_or v.logs n (log_of c.index-log.result.now))
    c.shard.view_is (log_at c.self.inside.logs.items c.shard.inside.0 c.index-log.result.now c.index-log.ensures) in
    let show' = shown_inside log c.self.view_is show in
    c.in_ok-batch.ensures.batch
    ∙ ap (map stored) (sym
    (batch_is v log show' c.args.shard (log_of c.index-log.result.now) inside is_at c.args.position c.args.limit))
    ∙ ap (λ (u : StreamValue). map stored (batch log u.clock u.no c.args.shard c.args.position c.args.limit))
    c.self.view_is

pub returns-clause-end : goal.returns-clause-end
returns-clause-end c log show =
    let v : StreamValue = the_view c.self.inside in
    let inside = made_within v c.args.shard c.self.invariant
    (subst (λ (u : StreamValue). is_listed_at (floor_of u.cut) (slice_get u.tree c.args.shard) ≡ true)
    (sym c.self.view_is) c.requires) in
    let is_at = subst (λ n. log_of c.index-log.result.now ≡ get_or v.logs n (log_of c.index-log.result.now))
    c.shard.view_is (log_at c.self.inside.logs.items c.shard.inside.0 c.index-log.result.now c.index-log.ensures) in
    let show' = shown_inside log c.self.view_is show in
    let left = c.first_left-left.result in
    let along : _ = ap (λ (u : StreamValue).
    ends_at log u.clock u.no c.args.shard
    (position_after c.args.position (numbers_of (batch log u.clock u.no c.args.shard c.args.position c.args.limit))))
    c.self.view_is in
    elim c.match-shard.branch [
      | in-Some w ↦
          read_end v log show' c.args.shard c.args.position c.args.limit c.in_ok-batch.reach
          (log_of c.index-log.result.now) left inside is_at c.in_ok-batch.ensures.reach c.first_left-left.ensures.value
          w.in-Some.state.now c.match-shard.end
          w.in-Some.ensures.value (w.end-is ∙ w.is_end-end.ensures
          ∙ ap (λ b. is_some w.in-Some.state.now.end && b) (none_of left w.is_none.result w.is_none.ensures))
          ∙ along
      | in-None w ↦
          read_no_end v log show' c.args.shard c.args.position c.args.limit c.in_ok-batch.reach
          (log_of c.index-log.result.now) left inside is_at c.in_ok-batch.ensures.reach c.first_left-left.ensures.value
          c.match-shard.end w.in-None.ensures.value w.end-is ∙ along
    ]
