use Rattle.std.proofs.lemmas.Result.{IfOk-weaker}
use Rattle.kds_cli_words.specs.Apps.{bare_app, replay_app}
use Rattle.kds_cli_words.proofs.Built.{added}
use Rattle.kds_cli_words.proofs.command.with_replay.Goals as goal

pub returns : goal.returns
returns c = IfOk-weaker c.subcommand.result _ _
    (λ m h. added _ _ m bare_app replay_app h c.bare_command.ensures c.in_ok-replay.ensures) c.subcommand.ensures
