use Rattle.std.proofs.Common.{◌≡◌, Some, ap, ◌∙◌, rules}
use Rattle.kcl_audit_streams.specs.Standing.{StreamsValue, live_at, stream_at}
use Rattle.kcl_audit_streams.specs.Judging.{position_in}
use Rattle.kcl_audit_streams.proofs.BatchTold.{position_is}
use Rattle.kcl_audit_streams.proofs.Keys.{live_found, stream_found}
use Rattle.kcl_audit_streams.proofs.streams.ToldStreamsShards.position.Goals as goal

pub returns : goal.returns
returns c =
    let a = c.args in
    let w = a.self.now in
    let v = c.in-Some.stream.now in
    let some : live_at w.streams a.key.stream ≡ Some v = search rules in
    let found = live_found (stream_at w.streams a.key.stream) v some in
    λ log sh. c.position.ensures ∙ ap (λ (x : StreamsValue). position_in v x.clock a.key.shard a.from) c.self.view_is
    ∙ position_is log w.clock a.key a.from v (stream_found w log a.key.stream v sh found.0) found.1 sh.order
