use Rattle.std.proofs.Common.{rules, ◌≡◌, ◌+◌, ◌∷◌, inl, inr, drop, sym, subst, ap, ◌∙◌}
use Rattle.std.specs.Prelude.{IsOk}
use Rattle.std.proofs.lemmas.List.{drop_more}
use Rattle.kcl_drill_run.specs.Ends.{AllEnded, SomeFailed}
use Rattle.kcl_drill_run.proofs.threads.first_error.Goals as goal

pub returns-in-Err-clause-err : goal.returns-in-Err-clause-err
returns-in-Err-clause-err c =
    let i = c.loop-member.member-index in
    let ms = c.args.members.now in
    let step : drop i ms ≡ c.member-item.result ∷ drop (i + 1) ms =
    drop_more ms i c.member-item.result c.loop-member-test.true
    ∙ ap (λ m. m ∷ drop (i + 1) ms) (sym c.member-item.is) in
    c.loop-member.invariant.err c.in-Err.error (subst (SomeFailed c.in-Err.error) (sym step) (inl c.in-Err.is))

pub loop-member-preserved : goal.loop-member-preserved
loop-member-preserved c =
    let i = c.loop-member.member-index in
    let ms = c.args.members.now in
    let step : drop i ms ≡ c.member-item.result ∷ drop (i + 1) ms =
    drop_more ms i c.member-item.result c.loop-member-test.true
    ∙ ap (λ m. m ∷ drop (i + 1) ms) (sym c.member-item.is) in
    let ended : IsOk c.member-item.result.outcome = search rules in
    record {
      ok = λ rest. c.loop-member.invariant.ok (subst AllEnded (sym step) (ended, rest));
      err = λ e some. c.loop-member.invariant.err e (subst (SomeFailed e) (sym step) (inr some));
    }
