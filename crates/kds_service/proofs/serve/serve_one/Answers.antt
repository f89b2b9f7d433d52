-- The stream at the index decides the command; an old token or a missing stream is refused as by the machine.
use Rattle.std.proofs.Common.{◌≡◌, sym, ap, ◌∙◌}
use Rattle.std.specs.Prelude.{◌-◌}
use Rattle.std.proofs.lemmas.Option.{same_Some}
use Rattle.kds_defs.specs.declared.limits.TheConstants.{OPEN_SHARDS}
use Rattle.kds_defs.specs.declared.reply.Refusal.TheVariants as refusal
use Rattle.indexmap.specs.IndexMap.{values}
use Rattle.kds_service.proofs.Entries.{kept_set, named_set, values_set}
use Rattle.kds_service.proofs.Leading.{refused_leads, stream_leads}
use Rattle.kds_service.proofs.Lists.{all_get}
use Rattle.kds_service.proofs.Lookups.{expired_so, gone_so, numbered, token_index}
use Rattle.kds_service.specs.Indexes.{open_beside}
use Rattle.kds_service.specs.Shown.{service}
use Rattle.kds_service.proofs.serve.serve_one.Goals as goal

pub returns-in-Some-clause-leads : goal.returns-in-Some-clause-leads
returns-in-Some-clause-leads c b n =
    let a = c.args in
    refused_leads (service a.clock b n (values a.streams.now)) a.what c.in-Some.refusal
    (λ log actor all. expired_so log a.clock actor a.what c.in-Some.refusal (sym c.token_refusal.ensures
    ∙ c.in-Some.is))

pub returns-in-None-clause-leads : goal.returns-in-None-clause-leads
returns-in-None-clause-leads c b n =
    let a = c.args in
    let w = service a.clock b n (values a.streams.now) in
    refused_leads w a.what refusal.NoStream
    (λ log actor all. gone_so w log actor a.what all c.requires.own (sym c.token_refusal.ensures ∙ c.in_default.is)
    (sym c.in-None.ensures.value))

pub serve-requires-clause-token : goal.serve-requires-clause-token
serve-requires-clause-token c = λ s is.
    let vs = values c.args.streams.now in
    numbered c.in-Some-index_for.i s vs c.index_mut.result.now (sym (token_index vs c.args.what s is)
    ∙ sym c.in-Some-index_for.ensures.value) c.index_mut.ensures.value

pub returns-in-Some-index_for-clause-leads : goal.returns-in-Some-index_for-clause-leads
returns-in-Some-index_for-clause-leads c =
    let a = c.args in
    let vs = values a.streams.now in
    let x = c.index_mut.result.now in
    let same = same_Some c.index.result.now x (sym c.index.ensures ∙ c.index_mut.ensures.value) in
    stream_leads a.clock c.in-Some-index_for.i vs _ x c.serve.new.self a.what c.open_limit_for-limit.result
    c.serve.result c.others.ensures.changed c.requires.named.at
    c.index_mut.ensures.value (sym c.in-Some-index_for.ensures.value)
    (values_set a.streams.now.entries c.in-Some-index_for.i c.serve.new.self) c.requires.own
    (λ asks. c.open_limit_for-limit.ensures asks
    ∙ ap (λ s. OPEN_SHARDS - open_beside vs s) (c.no-no.ensures ∙ ap (λ u. u.no) same))
    c.serve.ensures.fields.0 c.serve.ensures.fields.2 c.serve.ensures.answered

pub returns-in-Some-index_for-clause-named : goal.returns-in-Some-index_for-clause-named
returns-in-Some-index_for-clause-named c =
    let a = c.args in
    let x = c.index_mut.result.now in
    let here = c.index_mut.ensures.value in
    named_set a.clock c.in-Some-index_for.i a.streams.now.entries x c.serve.new.self c.requires.named here
    c.serve.ensures.fields.1
    (c.serve.ensures.fields.2
    ∙ all_get (λ v. v.clock ≡ a.clock) c.in-Some-index_for.i (values a.streams.now) x c.requires.named.at here)

pub returns-in-Some-index_for-clause-kept : goal.returns-in-Some-index_for-clause-kept
returns-in-Some-index_for-clause-kept c =
    kept_set c.serve.result c.in-Some-index_for.i c.args.streams.now.entries c.index_mut.result.now c.serve.new.self
    c.index_mut.ensures.value c.serve.ensures.kept
