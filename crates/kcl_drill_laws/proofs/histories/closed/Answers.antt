use Rattle.kcl_drill_laws.proofs.Drills.{are_drill_turns, is_below, is_fed, is_short}
use Rattle.kcl_drill_laws.proofs.Origins.{from_horizon}
use Rattle.kcl_drill_laws.proofs.histories.closed.Goals as goal

pub returns : goal.returns
returns c =
    record {
      fed = λ number records root feeder members h is. is_fed number records root feeder members h is;
      drill = λ number records root feeder members h is. record {
        lawful = is.history;
        below = is_below number records root feeder members h is;
        asks = c.one_order.ensures number records root.by feeder.by h is.apart
            (is_fed number records root feeder members h is);
      };
      horizon = λ number records root feeder members h is. from_horizon c.rows.ensures.removed c.rows.ensures.made h
          (are_drill_turns number records root feeder members h is);
      short = λ number records root feeder members h is. is_short number records root feeder members h is;
    }
