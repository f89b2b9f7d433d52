use Rattle.std.proofs.Common.{sym}
use Rattle.kcl_world.proofs.ServiceLines.{service_leads}
use Rattle.kcl_world.proofs.answer.answer.Goals as goal

pub returns-then-is_service-clause-leads : goal.returns-then-is_service-clause-leads
returns-then-is_service-clause-leads c =
    let a = c.args in
    service_leads c.serve.result a.service.now c.serve.new.self a.table.now a.book.now.tenures a.by a.what
    (sym c.if-is_service.ensures) c.serve.ensures.leads
