use Rattle.std.proofs.Common.{arith}
use Rattle.kds_defs.specs.Histories.{clock, journal}
use Rattle.kds_defs.specs.Records.{records}
use Rattle.kcl_drill_laws.proofs.AfterClose.{none_below}
use Rattle.kcl_drill_laws.proofs.histories.summed.Goals as goal

pub returns : goal.returns
returns c h number count is =
    record {
      lawful = is.lawful;
      stream = 1;
      named = c.one_text.ensures.live h number count is;
      whole = λ sh. none_below _ (records (journal h) 1 sh)
          (c.untrimmed.ensures h (clock h) 1 is.lawful (omega arith) is.below);
    }
