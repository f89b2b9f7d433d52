use Rattle.std.proofs.Common.{◌≡◌, ◌+◌, ◌-◌, sym, ap, ◌∙◌, arith}
use Rattle.std.specs.Prelude.{◌==◌, not, Ok}
use Rattle.std.specs.List.{filter}
use Rattle.kcl_audit_streams.specs.Judging.{changed_at, entry_verdict, in_live, with_entry}
use Rattle.kcl_audit_streams.specs.Living.{live_numbers}
use Rattle.kcl_audit_streams.specs.Standing.{live_at}
use Rattle.kcl_audit_streams.proofs.Changed.{changed_there, is_of}
use Rattle.kcl_audit_streams.proofs.LivingLemmas.{deleted_live, later_live}
use Rattle.kcl_audit_streams.proofs.streams.StreamList.add_later.Goals as goal

pub returns-then-is_deletion-clause-ok : goal.returns-then-is_deletion-clause-ok
returns-then-is_deletion-clause-ok c =
    let a = c.args in
    let g = c.requires.good in
    let f = entry_verdict g.0 a.clock a.what.now in
    let vs = c.self.inside.all.items in
    let good : in_live (live_at vs a.no) f ≡ Ok tt = ap (λ us. in_live (live_at us a.no) f) c.self.view_is ∙ g.1 in
    let is_at = c.index_mut in
    let set = changed_there vs a.no f good c.no.inside.0 c.no.view_is is_at.result.now is_at.ensures.value
    (with_entry a.clock a.what.now) c.add.new.self c.in_ok-add.ensures.ok in
    set ∙ ap (changed_at (a.no - 1) (with_entry a.clock a.what.now)) c.self.view_is

pub returns-else-is_deletion-clause-ok : goal.returns-else-is_deletion-clause-ok
returns-else-is_deletion-clause-ok c =
    let a = c.args in
    let g = c.requires.good in
    let f = entry_verdict g.0 a.clock a.what.now in
    let vs = c.self.inside.all.items in
    let good : in_live (live_at vs a.no) f ≡ Ok tt = ap (λ us. in_live (live_at us a.no) f) c.self.view_is ∙ g.1 in
    let is_at = c.index_mut in
    let set = changed_there vs a.no f good c.no.inside.0 c.no.view_is is_at.result.now is_at.ensures.value
    (with_entry a.clock a.what.now) c.add.new.self c.in_ok-add.ensures.ok in
    set ∙ ap (changed_at (a.no - 1) (with_entry a.clock a.what.now)) c.self.view_is

pub invariant_of-self-then-is_deletion : goal.invariant_of-self-then-is_deletion
invariant_of-self-then-is_deletion c =
    let a = c.args in
    let g = c.requires.good in
    let f = entry_verdict g.0 a.clock a.what.now in
    let vs = c.self.inside.all.items in
    let good : in_live (live_at vs a.no) f ≡ Ok tt = ap (λ us. in_live (live_at us a.no) f) c.self.view_is ∙ g.1 in
    let is_at = c.index_mut in
    let set = changed_there vs a.no f good c.no.inside.0 c.no.view_is is_at.result.now is_at.ensures.value
    (with_entry a.clock a.what.now) c.add.new.self c.in_ok-add.ensures.ok in
    let some = (is_of vs a.no f good).some in
    let first : a.no ≡ 1 + (a.no - 1) = omega arith in
    c.take_out.ensures
    ∙ ap (filter (λ n. not (n == a.no))) c.self.invariant
    ∙ sym (deleted_live a.clock (a.no - 1) a.no a.what.now vs (sym c.is_deletion.ensures ∙ c.if-is_deletion.true) first)
    ∙ ap (live_numbers 1) (sym set)

pub invariant_of-self-else-is_deletion : goal.invariant_of-self-else-is_deletion
invariant_of-self-else-is_deletion c =
    let a = c.args in
    let g = c.requires.good in
    let f = entry_verdict g.0 a.clock a.what.now in
    let vs = c.self.inside.all.items in
    let good : in_live (live_at vs a.no) f ≡ Ok tt = ap (λ us. in_live (live_at us a.no) f) c.self.view_is ∙ g.1 in
    let is_at = c.index_mut in
    let set = changed_there vs a.no f good c.no.inside.0 c.no.view_is is_at.result.now is_at.ensures.value
    (with_entry a.clock a.what.now) c.add.new.self c.in_ok-add.ensures.ok in
    c.self.invariant
    ∙ sym (later_live a.clock (a.no - 1) a.what.now vs (sym c.is_deletion.ensures ∙ c.if-is_deletion.false))
    ∙ ap (live_numbers 1) (sym set)
