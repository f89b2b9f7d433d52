use Rattle.kds_base.proofs.NumberLemmas as numbers
use Rattle.kds_base.proofs.laws.one_number_text.Goals as goal

pub returns : goal.returns
returns c =
    record {
      reads = numbers.reads;
      spells = λ bits n text few h. numbers.spells bits n text few h;
      fits = λ bits n text h. numbers.fits bits n text h;
    }
