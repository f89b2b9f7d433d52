use Rattle.std.proofs.lemmas.Result.{IfOk-weaker}
use Rattle.kds_cli_words.specs.Apps.{audit_kds, serve_app}
use Rattle.kds_cli_words.proofs.Built.{added}
use Rattle.kds_cli_words.proofs.command.with_serve.Goals as goal

pub returns : goal.returns
returns c = IfOk-weaker c.subcommand.result _ _
    (λ m h. added _ _ m audit_kds serve_app h c.in_ok-three.ensures c.in_ok-serve.ensures) c.subcommand.ensures
