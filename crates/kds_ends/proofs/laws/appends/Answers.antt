use Rattle.std.proofs.KnownBytes.{Appends-nil, Appends-trans}
use Rattle.kds_ends.proofs.Writing as writing
use Rattle.kds_ends.proofs.laws.appends.Goals as goal

pub returns : goal.returns
returns c =
    record {
      nothing = Appends-nil;
      more = Appends-trans;
      front_later = writing.front_later;
      front_longer = writing.front_longer;
      part_front = writing.part_front;
      part_later = writing.part_later;
      part_longer = writing.part_longer;
      front_part = writing.front_part;
    }
