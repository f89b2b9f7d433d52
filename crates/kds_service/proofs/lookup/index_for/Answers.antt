-- A command with a token has the index of the stream in its token.
use Rattle.std.proofs.Common.{sym, ◌∙◌}
use Rattle.indexmap.specs.IndexMap.{values}
use Rattle.kds_service.proofs.Lookups.{token_index}
use Rattle.kds_service.proofs.lookup.index_for.Goals as goal

pub returns-in-Some-clause-value : goal.returns-in-Some-clause-value
returns-in-Some-clause-value c =
    c.index_by_number.ensures.value
    ∙ sym (token_index (values c.args.streams.now) c.args.what.now c.in-Some.no (sym c.in-Some.ensures))
