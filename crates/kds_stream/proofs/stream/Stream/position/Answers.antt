use Rattle.std.proofs.Common.{◌≡◌, get_or, true, sym, subst, ap, ◌∙◌}
use Rattle.std.specs.Prelude.{slice_get}
use Rattle.kds_defs.specs.Keys.{ref}
use Rattle.kds_defs.specs.Origins.{iterator_start, origin_position}
use Rattle.kds_defs.specs.Streams.{floor_of}
use Rattle.kds_log.specs.Log.{log_of}
use Rattle.kds_stream.proofs.Insides.{shown_inside}
use Rattle.kds_stream.proofs.Listed.{made_within, position_is}
use Rattle.kds_stream.proofs.LogLemmas.{log_at}
use Rattle.kds_stream.specs.Value.{StreamValue, is_listed_at}
use Rattle.kds_stream.specs.contracts.stream.Stream.{the_view}
use Rattle.kds_stream.proofs.stream.Stream.position.Goals as goal

pub returns : goal.returns
returns c log show =
    let v : StreamValue = the_view c.self.inside in
    let inside = made_within v c.args.shard c.self.invariant
    (subst (λ (u : StreamValue). is_listed_at (floor_of u.cut) (slice_get u.tree c.args.shard) ≡ true)
    (sym c.self.view_is) c.requires) in
    let is_at = subst (λ n. log_of c.index-log.result.now ≡ get_or v.logs n (log_of c.index-log.result.now))
    c.shard.view_is (log_at c.self.inside.logs.items c.shard.inside.0 c.index-log.result.now c.index-log.ensures) in
    let show' = shown_inside log c.self.view_is show in
    c.origin_position.ensures
    ∙ sym (position_is v log show' c.args.shard (iterator_start c.args.from) (log_of c.index-log.result.now)
    inside is_at)
    ∙ ap (λ (u : StreamValue). origin_position log u.clock (ref u.no c.args.shard) c.args.from) c.self.view_is
