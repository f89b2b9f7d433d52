use Rattle.std.proofs.Common.{◌∷◌, [], eq-eqb, refl, sym, ap, ◌∙◌}
use Rattle.std.specs.Prelude.{is_some}
use Rattle.std.specs.List.{position_from}
use Rattle.std.specs.Map.{keys_of, values_of}
use Rattle.std.proofs.lemmas.List.{map-append}
use Rattle.kds_base.proofs.Facts.{is_other}
use Rattle.kds_defs.proofs.Elsewhere.{of_none}
use Rattle.kds_defs.specs.Streams.{same_name}
use Rattle.kds_defs.specs.StreamCommands.{last_number}
use Rattle.indexmap.specs.IndexMap.{values}
use Rattle.kds_service.proofs.Creating.{create_done, create_full, create_spent, create_there}
use Rattle.kds_service.proofs.Entries.{insert_last, named_push}
use Rattle.kds_service.proofs.creation.create.Goals as goal

pub returns-then-is_some-clause-leads : goal.returns-then-is_some-clause-leads
returns-then-is_some-clause-leads c is_before =
    let a = c.args in
    create_there a.clock is_before a.made_count.now (values a.streams.now) a.name a.shards
    (ap is_some (sym c.index_by_name.ensures.value) ∙ sym c.is_some.ensures ∙ c.if-is_some.true)

pub returns-then-is_full-clause-leads : goal.returns-then-is_full-clause-leads
returns-then-is_full-clause-leads c is_before =
    let a = c.args in
    create_full a.clock is_before a.made_count.now (values a.streams.now) a.name a.shards
    (ap is_some (sym c.index_by_name.ensures.value) ∙ sym c.is_some.ensures ∙ c.if-is_some.false)
    (sym c.is_full.ensures ∙ c.if-is_full.true)

pub returns-then-last-clause-leads : goal.returns-then-last-clause-leads
returns-then-last-clause-leads c is_before =
    let a = c.args in
    create_spent a.clock is_before a.made_count.now (values a.streams.now) a.name a.shards
    (ap is_some (sym c.index_by_name.ensures.value) ∙ sym c.is_some.ensures ∙ c.if-is_some.false)
    (sym c.is_full.ensures ∙ c.if-is_full.false)
    (eq-eqb a.made_count.now last_number c.if-last.true)

pub returns-clause-leads : goal.returns-clause-leads
returns-clause-leads c is_before =
    let a = c.args in
    let es = a.streams.now.entries in
    let absent = ap is_some (sym c.index_by_name.ensures.value) ∙ sym c.is_some.ensures ∙ c.if-is_some.false in
    let none =
    ap (λ k. position_from (same_name k) 0 (keys_of es)) c.in_ok-key.ensures
    ∙ ap (position_from (same_name a.name) 0) c.requires.named.named
    ∙ of_none _ absent in
    let pushed = c.in_ok-insert.ensures.entries
    ∙ insert_last same_name 0 es c.in_ok-key.key c.in_ok-stream.stream none in
    let is_of = c.in_ok-stream.ensures in
    create_done a.clock is_before a.made_count.now (values a.streams.now) a.name a.shards _ _ c.in_ok-stream.stream
    c.others.ensures.added absent (sym c.is_full.ensures ∙ c.if-is_full.false)
    (is_other a.made_count.now last_number c.if-last.false) refl
    (ap values_of pushed ∙ map-append (λ e. e.1) es ((c.in_ok-key.key, c.in_ok-stream.stream) ∷ []))
    is_of.fields.0 is_of.fields.2 is_of.shows

pub returns-clause-named : goal.returns-clause-named
returns-clause-named c =
    let a = c.args in
    let es = a.streams.now.entries in
    let absent = ap is_some (sym c.index_by_name.ensures.value) ∙ sym c.is_some.ensures ∙ c.if-is_some.false in
    let none =
    ap (λ k. position_from (same_name k) 0 (keys_of es)) c.in_ok-key.ensures
    ∙ ap (position_from (same_name a.name) 0) c.requires.named.named
    ∙ of_none _ absent in
    let pushed = c.in_ok-insert.ensures.entries
    ∙ insert_last same_name 0 es c.in_ok-key.key c.in_ok-stream.stream none in
    named_push a.clock es _ c.in_ok-key.key c.in_ok-stream.stream c.requires.named pushed (c.in_ok-key.ensures
    ∙ sym c.in_ok-stream.ensures.fields.1) c.in_ok-stream.ensures.fields.2
