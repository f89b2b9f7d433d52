use Rattle.std.proofs.Common.{rules, ◌≡◌, subst}
use Rattle.std.specs.Prelude.{IfErr}
use Rattle.kds_turn.specs.declared.pass.TurnErr.TheVariants as failed
use Rattle.kcl_drill_run.specs.Running.{AreFull}
use Rattle.kcl_drill_run.proofs.Full.{not_full}
use Rattle.kcl_drill_run.proofs.run.drill.Goals as goal

pub unreachable-requires : goal.unreachable-requires
unreachable-requires g c =
    let p = c.run_threads-ran.new.participants in
    let spent : c.in-Err-Spent.field-0 ≡ failed.Spent = search rules in
    not_full p c.close-world.ensures.short
    (subst (λ r. IfErr r (λ e. e ≡ failed.Spent → AreFull p)) c.in-Err-Spent.is c.run_threads-ran.ensures.full
    spent)
