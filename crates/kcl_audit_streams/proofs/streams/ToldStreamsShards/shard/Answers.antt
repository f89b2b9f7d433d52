use Rattle.std.proofs.Common.{◌≡◌, None, Some, sym, ap, ◌∙◌, rules}
use Rattle.std.specs.Option.{option_map}
use Rattle.kds_defs.specs.Shards.{shown}
use Rattle.kcl_audit_streams.specs.Standing.{live_at, stream_at}
use Rattle.kcl_audit_streams.proofs.Keys.{live_found, shard_key, shard_of, shown_live}
use Rattle.kcl_audit_streams.proofs.streams.ToldStreamsShards.shard.Goals as goal

pub returns-in-None : goal.returns-in-None
returns-in-None c =
    let a = c.args in
    let none : None ≡ live_at a.self.now.streams a.key.stream = search rules in
    λ log sh. ap (option_map shown) (ap (λ o. shard_of o a.key.shard) none ∙ shard_key a.self.now log a.key sh)

pub returns-in-Some : goal.returns-in-Some
returns-in-Some c =
    let a = c.args in
    let v = c.in-Some.stream.now in
    let some : Some v ≡ live_at a.self.now.streams a.key.stream = search rules in
    λ log sh. c.shard.ensures
    ∙ shown_live v a.key.shard (live_found (stream_at a.self.now.streams a.key.stream) v (sym some)).1
    ∙ ap (option_map shown) (ap (λ o. shard_of o a.key.shard) some ∙ shard_key a.self.now log a.key sh)
