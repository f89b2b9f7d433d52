use Rattle.kcl_laws.proofs.RowLemmas.{removed_row, made_row}
use Rattle.kcl_laws.proofs.rows.Goals as goal

pub returns : goal.returns
returns c =
    record {
      removed = removed_row;
      made = made_row;
    }
