use Rattle.std.proofs.Common.{◌≡◌, List, [], subst, sym, ap, ◌∙◌}
use Rattle.std.specs.List.{filter}
use Rattle.std.specs.List.Sorted.{IsNonDecreasingBy}
use Rattle.std.proofs.lemmas.List.Kept.{IsNonDecreasingBy-filter}
use Rattle.kds_defs.specs.Records.{Logged, left_among}
use Rattle.kcl_audit_streams.specs.declared.records.Sized.{Sized}
use Rattle.kcl_audit_streams.specs.Apart.{records_at, records_or_none}
use Rattle.kcl_audit_streams.specs.Standing.{is_in}
use Rattle.kcl_audit_streams.proofs.ApartSteps.{records_own}
use Rattle.kcl_audit_streams.proofs.stream_records.Records.ahead.Goals as goal

pub ahead-requires : goal.ahead-requires
ahead-requires c =
    let sh = c.args.shard in
    let own : c.in-Some.records.now ≡ filter (is_in sh) c.args.self.now =
    ap records_or_none c.in-Some.ensures ∙ ap (λ (rs : List (List Sized)). records_at rs sh) c.deref.ensures.value
    ∙ c.self.invariant sh ∙ ap (filter (is_in sh)) c.self.view_is in
    subst (λ (xs : List Sized). IsNonDecreasingBy (λ (r : Sized). r.seq) xs) (sym own)
    (IsNonDecreasingBy-filter (λ (r : Sized). r.seq) (is_in sh) c.args.self.now c.requires)

pub returns-in-Some : goal.returns-in-Some
returns-in-Some c =
    let sh = c.args.shard in
    let own : c.in-Some.records.now ≡ filter (is_in sh) c.args.self.now =
    ap records_or_none c.in-Some.ensures ∙ ap (λ (rs : List (List Sized)). records_at rs sh) c.deref.ensures.value
    ∙ c.self.invariant sh ∙ ap (filter (is_in sh)) c.self.view_is in
    c.ahead.ensures sh
    ∙ ap (λ (rs : List Logged). left_among c.args.floor c.args.position rs)
    (records_own sh c.args.self.now c.in-Some.records.now own)

pub returns-in-None : goal.returns-in-None
returns-in-None c =
    let sh = c.args.shard in
    let own : [] ≡ filter (is_in sh) c.args.self.now =
    ap records_or_none c.in-None.ensures ∙ ap (λ (rs : List (List Sized)). records_at rs sh) c.deref.ensures.value
    ∙ c.self.invariant sh ∙ ap (filter (is_in sh)) c.self.view_is in
    ap (λ (rs : List Logged). left_among c.args.floor c.args.position rs)
    (records_own sh c.args.self.now [] own)
