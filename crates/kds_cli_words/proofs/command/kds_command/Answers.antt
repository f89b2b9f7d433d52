use Rattle.std.proofs.lemmas.Result.{IfOk-weaker}
use Rattle.kds_cli_words.specs.Apps.{serve_kds, drill_app}
use Rattle.kds_cli_words.proofs.Built.{added}
use Rattle.kds_cli_words.proofs.command.kds_command.Goals as goal

pub returns : goal.returns
returns c = IfOk-weaker c.subcommand.result _ _
    (λ m h. added _ _ m serve_kds drill_app h c.in_ok-four.ensures c.in_ok-drill.ensures) c.subcommand.ensures
