use Rattle.std.proofs.Common.{ap, ◌∙◌}
use Rattle.std.specs.List.{position_from}
use Rattle.std.proofs.lemmas.Iterator.Adapters.{position_from-zero}
use Rattle.indexmap.specs.IndexMap.{keys}
use Rattle.kds_defs.specs.Streams.{same_name}
use Rattle.kds_service.proofs.streams_by_name.index_by_name.Goals as goal

pub returns-clause-value : goal.returns-clause-value
returns-clause-value c =
    let test = same_name c.args.name.now in
    c.get_index_of.ensures.index ∙ position_from-zero test (keys c.args.streams.now)
    ∙ ap (position_from test 0) c.requires
