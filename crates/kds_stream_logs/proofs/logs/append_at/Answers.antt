use Rattle.std.proofs.lemmas.Result.{on_err_weaker, on_ok_weaker}
use Rattle.kds_defs.specs.Records.{logged}
use Rattle.kds_stream_logs.proofs.LogLemmas.{all_logs_at, appended_at, same_at, under_some}
use Rattle.kds_stream_logs.specs.Logs.{HasArrived, IsBelow}
use Rattle.kds_stream_logs.proofs.logs.append_at.Goals as goal

pub append-requires-clause-number : goal.append-requires-clause-number
append-requires-clause-number c =
    under_some _ _ (all_logs_at (IsBelow c.args.item.seq) c.args.logs.now c.args.i c.index-logs-i.result
    c.requires.within c.requires.number)

pub append-requires-clause-arrival : goal.append-requires-clause-arrival
append-requires-clause-arrival c =
    all_logs_at (HasArrived c.args.item.arrival) c.args.logs.now c.args.i c.index-logs-i.result c.requires.within
    c.requires.arrival

pub returns-clause-ok : goal.returns-clause-ok
returns-clause-ok c =
    on_ok_weaker c.append.result
    (λ is. appended_at c.args.logs.now c.args.i c.index-logs-i.result _ (logged c.args.item) c.requires.within is)
    c.append.ensures.ok

pub returns-clause-err : goal.returns-clause-err
returns-clause-err c =
    on_err_weaker c.append.result (λ is. same_at c.args.logs.now c.args.i c.index-logs-i.result _ c.requires.within is)
    c.append.ensures.err
