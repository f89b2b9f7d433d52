use Rattle.std.proofs.Common.{◌≡◌, ◌∙◌, rules}
use Rattle.kcl_audit_streams.specs.Standing.{lists}
use Rattle.kcl_audit_streams.proofs.Keys.{listed_key}
use Rattle.kcl_audit_streams.proofs.streams.ToldStreamsShards.is_listed.Goals as goal

pub returns-clause-shown : goal.returns-clause-shown
returns-clause-shown c =
    let value : c.is_listed.result ≡ lists c.args.self.now c.args.key = search rules in
    λ log sh. value ∙ listed_key c.args.self.now log c.args.key sh
