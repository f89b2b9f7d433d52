use Rattle.std.proofs.Common.{rules}
use Rattle.kds_cli_runs.proofs.Serving.{crew_tells}
use Rattle.kds_cli_runs.proofs.runs.run_serve.Goals as goal

pub returns-in-Ok-clause-told : goal.returns-in-Ok-clause-told
returns-in-Ok-clause-told g c =
    crew_tells c.serve_door.result _ _ c.as_slice.result.now _ (search rules) c.serve_door.ensures.kinds
    c.in-Ok.ensures.ok (c.serve_door.ensures.listens _ (search rules))
