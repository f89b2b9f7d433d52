use Rattle.kds_json.proofs.Requests.{asked_request}
use Rattle.kds_json.proofs.request.asks_lawfully.Goals as goal

pub returns : goal.returns
returns c = asked_request
