use Rattle.kds_defs.proofs.Numbers as numbers
use Rattle.kds_defs.proofs.Tiles.{other-closed}
use Rattle.kds_defs.proofs.shard_laws.numbered_shards.Goals as goal

pub returns : goal.returns
returns c =
    record {
      first = numbers.numbered-first;
      closed = numbers.numbered-closed;
      added = numbers.numbered-append;
      as_many = numbers.length-closed;
      others = λ xs shard other closing differ. other-closed xs shard other closing differ;
    }
