use Rattle.std.proofs.Common.{◌≡◌, ◌+◌, ap, ◌∙◌, rules}
use Rattle.std.specs.Prelude.{nat_lt}
use Rattle.kds_defs.specs.declared.limits.TheConstants.{OPEN_SHARDS}
use Rattle.kcl_audit_streams.specs.Judging.{exceeds_open_limit}
use Rattle.kcl_audit_streams.specs.Living.{open_among}
use Rattle.kcl_audit_streams.proofs.LivingLemmas.{open_live}
use Rattle.kcl_audit_streams.proofs.streams.StreamList.exceeds_open_limit.Goals as goal

pub returns : goal.returns
returns c =
    let me = c.self.inside in
    let more = c.args.more in
    let among : c.exceeds_open_limit.result ≡ nat_lt OPEN_SHARDS (open_among me.all.items me.live.items + more) =
    search rules in
    among ∙ ap (λ ns. nat_lt OPEN_SHARDS (open_among me.all.items ns + more)) c.self.invariant
    ∙ ap (λ n. nat_lt OPEN_SHARDS (n + more)) (open_live me.all.items)
    ∙ ap (λ vs. exceeds_open_limit vs more) c.self.view_is
