use Rattle.std.proofs.Common.{◌≡◌, length, ap, ◌∙◌, rules}
use Rattle.kcl_audit_streams.specs.Judging.{live_count}
use Rattle.kcl_audit_streams.proofs.LivingLemmas.{count_live}
use Rattle.kcl_audit_streams.proofs.streams.StreamList.live_count.Goals as goal

pub returns : goal.returns
returns c =
    let me = c.self.inside in
    let many : c.len.result ≡ length me.live.items = search rules in
    many ∙ ap length c.self.invariant ∙ count_live 1 me.all.items ∙ ap live_count c.self.view_is
