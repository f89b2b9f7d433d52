use Rattle.std.proofs.Common.{◌≡◌, ap, ◌∙◌, rules}
use Rattle.kcl_audit_streams.specs.Judging.{is_named}
use Rattle.kcl_audit_streams.specs.Living.{is_named_among}
use Rattle.kcl_audit_streams.proofs.LivingLemmas.{named_live}
use Rattle.kcl_audit_streams.proofs.streams.StreamList.is_named.Goals as goal

pub returns : goal.returns
returns c =
    let me = c.self.inside in
    let name = c.args.name.now in
    let among : c.is_named.result ≡ is_named_among me.all.items name me.live.items = search rules in
    among ∙ ap (is_named_among me.all.items name) c.self.invariant ∙ named_live me.all.items name
    ∙ ap (λ vs. is_named vs name) c.self.view_is
