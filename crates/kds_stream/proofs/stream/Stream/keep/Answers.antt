use Rattle.std.proofs.Common.{◌≡◌, true, subst, ap, ◌∙◌}
use Rattle.std.specs.Prelude.{nat_lt, if◌then◌else◌}
use Rattle.kds_defs.specs.StreamCommands.{keep}
use Rattle.kds_stream.proofs.Insides.{shown_inside}
use Rattle.kds_stream.proofs.Puts.{led_along}
use Rattle.kds_stream.proofs.Retention.{keep_done, keep_refused, stream_kept}
use Rattle.kds_stream.specs.Value.{StreamValue, later_cut}
use Rattle.kds_stream.specs.contracts.stream.Stream.{the_view}
use Rattle.kds_stream.proofs.stream.Stream.keep.Goals as goal

pub returns-then-is_wrong_way-clause-answered : goal.returns-then-is_wrong_way-clause-answered
returns-then-is_wrong_way-clause-answered c log actor shown =
    let wrong = subst (λ (u : StreamValue). true
    ≡ (if c.args.raise then nat_lt c.args.hours u.hours else nat_lt u.hours c.args.hours))
    c.self.view_is c.if-is_wrong_way.ensures in
    keep_refused c.args.self.now log actor c.args.hours c.args.raise shown wrong

pub invariant_of-self : goal.invariant_of-self
invariant_of-self c =
    let is_cut = c.later_cut-self-inside.ensures ∙ ap (later_cut c.self.inside.cut) c.cut_at.ensures in
    stream_kept (the_view c.self.inside) c.args.hours _ is_cut c.requires c.self.invariant

pub returns-clause-answered : goal.returns-clause-answered
returns-clause-answered c log actor shown =
    let v : StreamValue = the_view c.self.inside in
    let is_cut = c.later_cut-self-inside.ensures ∙ ap (later_cut c.self.inside.cut) c.cut_at.ensures in
    led_along (λ (u : StreamValue). keep log u.clock actor u.no c.args.hours c.args.raise) v c.args.self.now _ log _
    c.self.view_is
    (keep_done v log actor c.args.hours c.args.raise (shown_inside log c.self.view_is shown)
    _ is_cut c.if-is_wrong_way.ensures)
