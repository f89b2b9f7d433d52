use Rattle.kds_json.proofs.Requests.{asked_request, fault_text}
use Rattle.kds_json.proofs.request.ask.Goals as goal

pub returns-in-Ok-clause-lawful : goal.returns-in-Ok-clause-lawful
returns-in-Ok-clause-lawful c = asked_request c.args.operation.now c.args.body.now _ c.in-Ok.ensures

pub returns-in-Err-Fault-clause-text : goal.returns-in-Err-Fault-clause-text
returns-in-Err-Fault-clause-text c =
    fault_text c.args.operation.now c.args.body.now _ (rw c.in-Err-Fault.field-0-is at c.in-Err-Fault.ensures)
