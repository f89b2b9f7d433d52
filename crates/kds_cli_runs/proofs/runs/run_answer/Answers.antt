use Rattle.std.proofs.Common.{[]}
use Rattle.kds_cli_runs.proofs.runs.run_answer.Goals as goal

pub returns-clause-served : goal.returns-clause-served
returns-clause-served g c = (c.serve_lone.ensures.served [] c.new-machine.ensures).0
