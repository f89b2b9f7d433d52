use Rattle.kcl_sim.proofs.Judging.{judge_more, outputs-append, with_schedule-append}
use Rattle.kcl_sim.proofs.one_after_another.Goals as goal

pub returns : goal.returns
returns c = record { judged = judge_more; states = with_schedule-append; outputs = outputs-append }
