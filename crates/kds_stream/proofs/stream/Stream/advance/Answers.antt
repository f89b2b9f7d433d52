use Rattle.std.proofs.Common.{◌≤◌, sym, subst, ap, ◌∙◌}
use Rattle.kds_stream.proofs.Clocks.{shows_advanced, stream_advanced}
use Rattle.kds_stream.specs.Showing.{Shows}
use Rattle.kds_stream.specs.Value.{StreamValue, later_cut}
use Rattle.kds_stream.specs.contracts.stream.Stream.{the_view}
use Rattle.kds_stream.proofs.stream.Stream.advance.Goals as goal

pub invariant_of-self : goal.invariant_of-self
invariant_of-self c =
    let is_cut = c.later_cut-self-inside.ensures ∙ ap (later_cut c.self.inside.cut) c.cut_at.ensures in
    stream_advanced (the_view c.self.inside) c.args.clock _ is_cut
    (subst (λ (v : StreamValue). v.clock ≤ c.args.clock) (sym c.self.view_is) c.requires) c.self.invariant

pub returns-clause-shows : goal.returns-clause-shows
returns-clause-shows c log shown =
    let is_cut = c.later_cut-self-inside.ensures ∙ ap (later_cut c.self.inside.cut) c.cut_at.ensures in
    shows_advanced _ log c.args.clock _ is_cut
    (subst (λ (v : StreamValue). v.clock ≤ c.args.clock) (sym c.self.view_is) c.requires)
    (subst (λ v. Shows v log) (sym c.self.view_is) shown)
