use Rattle.std.proofs.Common.{◌≡◌, List, [], sym, ap, ◌∙◌}
use Rattle.std.specs.List.{filter}
use Rattle.kds_defs.specs.Records.{Logged, first_at, left_among}
use Rattle.kcl_audit_streams.specs.declared.records.Sized.{Sized}
use Rattle.kcl_audit_streams.specs.Apart.{records_at, records_or_none}
use Rattle.kcl_audit_streams.specs.Standing.{is_in}
use Rattle.kcl_audit_streams.proofs.ApartSteps.{records_own}
use Rattle.kcl_audit_streams.proofs.stream_records.Records.since.Goals as goal

pub returns-in-Some : goal.returns-in-Some
returns-in-Some c = λ otherwise.
    let sh = c.args.shard in
    let own : c.in-Some.records.now ≡ filter (is_in sh) c.args.self.now =
    ap records_or_none c.in-Some.ensures ∙ ap (λ (rs : List (List Sized)). records_at rs sh) c.deref.ensures.value
    ∙ c.self.invariant sh ∙ ap (filter (is_in sh)) c.self.view_is in
    c.since.ensures sh otherwise
    ∙ ap (λ (rs : List Logged). first_at (left_among c.args.floor 0 rs) c.args.moment otherwise)
    (records_own sh c.args.self.now c.in-Some.records.now own)

pub returns-in-None : goal.returns-in-None
returns-in-None c = λ otherwise.
    let sh = c.args.shard in
    let own : [] ≡ filter (is_in sh) c.args.self.now =
    ap records_or_none c.in-None.ensures ∙ ap (λ (rs : List (List Sized)). records_at rs sh) c.deref.ensures.value
    ∙ c.self.invariant sh ∙ ap (filter (is_in sh)) c.self.view_is in
    ap (λ (rs : List Logged). first_at (left_among c.args.floor 0 rs) c.args.moment otherwise)
    (records_own sh c.args.self.now [] own)
