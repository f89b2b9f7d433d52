use Rattle.std.proofs.Common.{◌≡◌, List, [], sym, ap, ◌∙◌}
use Rattle.std.specs.List.{filter}
use Rattle.kds_defs.specs.Rates.{SizedPut, is_throttled}
use Rattle.kcl_audit_streams.specs.declared.records.Sized.{Sized}
use Rattle.kcl_audit_streams.specs.Apart.{records_at, records_or_none}
use Rattle.kcl_audit_streams.specs.Standing.{is_in}
use Rattle.kcl_audit_streams.proofs.ApartSteps.{puts_own}
use Rattle.kcl_audit_streams.proofs.stream_records.Records.is_throttled.Goals as goal

pub returns-in-Some : goal.returns-in-Some
returns-in-Some c =
    let sh = c.args.shard in
    let own : c.in-Some.records.now ≡ filter (is_in sh) c.args.self.now =
    ap records_or_none c.in-Some.ensures ∙ ap (λ (rs : List (List Sized)). records_at rs sh) c.deref.ensures.value
    ∙ c.self.invariant sh ∙ ap (filter (is_in sh)) c.self.view_is in
    c.is_throttled.ensures
    ∙ ap (λ (ps : List SizedPut). is_throttled ps c.args.clock c.args.bytes)
    (puts_own sh c.args.self.now c.in-Some.records.now own)

pub returns-in-None : goal.returns-in-None
returns-in-None c =
    let sh = c.args.shard in
    let own : [] ≡ filter (is_in sh) c.args.self.now =
    ap records_or_none c.in-None.ensures ∙ ap (λ (rs : List (List Sized)). records_at rs sh) c.deref.ensures.value
    ∙ c.self.invariant sh ∙ ap (filter (is_in sh)) c.self.view_is in
    ap (λ (ps : List SizedPut). is_throttled ps c.args.clock c.args.bytes) (puts_own sh c.args.self.now [] own)
