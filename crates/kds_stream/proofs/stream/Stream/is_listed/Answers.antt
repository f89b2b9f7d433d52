use Rattle.std.proofs.Common.{ap, ◌∙◌}
use Rattle.std.specs.Prelude.{is_some, slice_get}
use Rattle.kds_defs.specs.Streams.{floor_of}
use Rattle.kds_stream.proofs.Listed.{is_listed_some}
use Rattle.kds_stream.proofs.stream.Stream.is_listed.Goals as goal

pub returns : goal.returns
returns c = c.is_some.ensures ∙ ap is_some c.listed.ensures.value
    ∙ is_listed_some (floor_of c.args.self.now.cut) (slice_get c.args.self.now.tree c.args.no)
