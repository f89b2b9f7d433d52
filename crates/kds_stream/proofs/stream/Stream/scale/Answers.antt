use Rattle.std.proofs.Common.{◌≡◌, ◌^◌, ◌<◌, ◌≤◌, List, ℕ, length, refl, sym, ap, subst, ◌∙◌, arith}
use Rattle.std.specs.Prelude.{Ok}
use Rattle.kds_defs.specs.declared.scale.ScaleStep.{ScaleStep}
use Rattle.kds_defs.specs.Histories.{answer_of, lines_of}
use Rattle.kds_defs.specs.Journal.{with_lines}
use Rattle.kds_defs.specs.Scaling.{scale}
use Rattle.kds_stream.proofs.Scalings.{few_steps, is_less, is_not_less, scale_full, scale_spent, spent_so}
use Rattle.kds_stream.specs.Showing.{Shows}
use Rattle.kds_stream_logs.specs.Steps.{starts_in}
use Rattle.kds_stream.specs.Steps.{is_over, scale_where}
use Rattle.kds_stream.specs.Value.{StreamValue}
use Rattle.kds_stream.proofs.stream.Stream.scale.Goals as goal

pub returns-then-from-open_limit-clause-answered : goal.returns-then-from-open_limit-clause-answered
returns-then-from-open_limit-clause-answered c log actor shown =
    let more : c.args.open_limit < c.args.target = omega arith in
    scale_full c.args.self.now log actor c.args.target shown (is_over c.args.target c.args.open_limit)
    (is_less _ _ more)

pub made_by-made-requires : goal.made_by-made-requires
made_by-made-requires c =
    subst (λ (ts : List ScaleStep). length ts ≤ 2 ^ 30) (sym c.as_slice-steps.ensures)
    (few_steps c.self.inside.tree.shards c.args.target c.as_slice.result.now c.in_ok-steps.steps (c.as_slice.ensures
    ∙ c.in_ok-starts.ensures.value) c.self.invariant.few c.requires.1 c.in_ok-steps.ensures.count)

pub returns-then-is_spent-clause-answered : goal.returns-then-is_spent-clause-answered
returns-then-is_spent-clause-answered c log actor shown =
    let v : StreamValue = c.args.self.now in
    let steps : List ScaleStep = c.as_slice-steps.result.now in
    let starts : c.as_slice.result.now ≡ starts_in v.tree = c.as_slice.ensures ∙ c.in_ok-starts.ensures.value
    ∙ ap (λ (u : StreamValue). starts_in u.tree) c.self.view_is in
    let are : steps ≡ scale (starts_in v.tree) c.args.target = c.as_slice-steps.ensures ∙ c.in_ok-steps.ensures.value
    ∙ ap (λ (ss : List ℕ). scale ss c.args.target) starts in
    let most : c.args.target ≤ c.args.open_limit = omega arith in
    let spent =
    sym (spent_so v.next c.first.inside.0 (length steps) c.len.result c.from-2.result v.tree steps
    (c.first.view_is ∙ ap (λ (u : StreamValue). u.next) c.self.view_is) refl (c.len.ensures.value
    ∙ ap (λ (u : StreamValue). length u.tree) c.self.view_is)
    (c.from-2.ensures ∙ c.made_by-made.ensures))
    ∙ sym c.is_spent.ensures ∙ c.if-is_spent.true in
    scale_spent v log actor c.args.target shown (is_over c.args.target c.args.open_limit) steps (is_not_less _ _ most)
    are spent

pub returns-clause-answered : goal.returns-clause-answered
returns-clause-answered c log actor shown =
    let v : StreamValue = c.args.self.now in
    let most : c.args.target ≤ c.args.open_limit = omega arith in
    subst (λ full. (Ok c.in_ok-reply.reply ≡ answer_of (scale_where full log v.clock actor v.name v.no c.args.target))
    × Shows c.carry_out.new.self
    (with_lines (lines_of (scale_where full log v.clock actor v.name v.no c.args.target)) log))
    (sym (is_not_less _ _ most)) (c.in_ok-reply.ensures.answered log actor shown)
