use Rattle.std.proofs.Common.{rules, ℕ, List, ◌≡◌, ◌++◌, ◌∷◌, [], ap, subst, append_assoc, ◌∙◌}
use Rattle.std.proofs.lemmas.Result.{on_err_weaker}
use Rattle.kcl_script_fields.specs.Fields.{AddsFront, key_text}
use Rattle.kcl_script_fields.proofs.Fronts.{adds_later}
use Rattle.kcl_script_fields.proofs.words.with_key.Goals as goal

pub returns-clause-err : goal.returns-clause-err
returns-clause-err c =
    let front = c.args.word.now ++ 32 ∷ [] in
    let text = key_text c.args.key in
    let one : c.extend.new.self ≡ c.args.to.now ++ c.args.word.now = search rules in
    let two : c.extend-2.new.self ≡ c.extend.new.self ++ 32 ∷ [] = search rules in
    let added : c.extend-2.new.self ≡ c.args.to.now ++ front =
    two ∙ ap (λ (t : List ℕ). t ++ 32 ∷ []) one ∙ append_assoc c.args.to.now c.args.word.now (32 ∷ []) in
    let whole = append_assoc c.args.word.now (32 ∷ []) text in
    on_err_weaker c.write_key.result
    (λ h. subst (AddsFront c.args.to.now c.write_key.new.to) whole
    (adds_later c.args.to.now c.extend-2.new.self c.write_key.new.to front text added h)) c.write_key.ensures.err
