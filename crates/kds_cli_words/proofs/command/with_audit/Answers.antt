use Rattle.std.proofs.lemmas.Result.{IfOk-weaker}
use Rattle.kds_cli_words.specs.Apps.{HasApp, answer_kds, audit_app}
use Rattle.kds_cli_words.proofs.Built.{added}
use Rattle.kds_cli_words.proofs.command.with_audit.Goals as goal

pub returns : goal.returns
returns c =
    let sub : HasApp c.new.result audit_app = record { app = c.new.ensures.app; local = c.new.ensures.local } in
    IfOk-weaker c.subcommand.result _ _ (λ m h. added _ _ m answer_kds audit_app h c.in_ok-two.ensures sub)
    c.subcommand.ensures
