use Rattle.kcl_laws.proofs.Numbering.{numbered}
use Rattle.kcl_laws.proofs.RecordLemmas.{all_drawn, all_sized, next_fits}
use Rattle.kcl_laws.proofs.shard_records.Goals as goal

pub returns : goal.returns
returns c =
    record {
      shards = numbered;
      numbers = all_drawn;
      next = next_fits;
      sizes = all_sized;
    }
