use Rattle.std.proofs.Common.{sym}
use Rattle.kcl_defs.specs.Workers.{is_past}
use Rattle.kcl_worker_lists.specs.Lists.{id_in}
use Rattle.kcl_worker.specs.Outlook.{IsReady}
use Rattle.kcl_worker.proofs.Outlooks.{all_found, consumer_as, survey_given}
use Rattle.kcl_worker.proofs.next_command.from_consumers.Goals as goal

pub next-requires-clause-none_due : goal.next-requires-clause-none_due
next-requires-clause-none_due g c =
    (all_found IsReady (λ x. is_past c.args.last (id_in x)) c.in-Some.c.now c.args.consumers.now
    (sym c.in-Some.ensures) c.requires).0

pub next-requires-clause-not_over : goal.next-requires-clause-not_over
next-requires-clause-not_over g c =
    (all_found IsReady (λ x. is_past c.args.last (id_in x)) c.in-Some.c.now c.args.consumers.now
    (sym c.in-Some.ensures) c.requires).1

pub returns-in-Some-clause-next : goal.returns-in-Some-clause-next
returns-in-Some-clause-next g c = λ made syncs takes s stand same.
    consumer_as g.P.Processor.stands_for made s syncs takes c.args.last c.args.consumers.now c.args.held.now
    c.in-Some.c.now
    c.id_of-id.result c.counter_of.result c.next.result c.id_of-id.ensures c.counter_of.ensures stand same
    (sym c.in-Some.ensures) c.next.ensures.next

pub returns-in-None-clause-next : goal.returns-in-None-clause-next
returns-in-None-clause-next g c = λ made syncs takes s stand same.
    survey_given g.P.Processor.stands_for made s syncs takes c.args.last c.args.consumers.now stand
    (sym c.in-None.ensures)
