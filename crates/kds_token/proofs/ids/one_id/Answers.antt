use Rattle.kds_token.proofs.IdLemmas.{id_reads, id_spells}
use Rattle.kds_token.proofs.ids.one_id.Goals as goal

pub returns : goal.returns
returns c = record { reads = id_reads; spells = id_spells }
