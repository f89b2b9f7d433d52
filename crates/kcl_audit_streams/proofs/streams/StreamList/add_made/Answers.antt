use Rattle.std.proofs.Common.{◌≡◌, ◌+◌, [], ◌∷◌, ◌++◌, length, refl, sym, ap, ◌∙◌, arith, rules}
use Rattle.std.proofs.lemmas.List.{length-append}
use Rattle.kcl_audit_streams.specs.Judging.{new_stream}
use Rattle.kcl_audit_streams.specs.Living.{live_numbers}
use Rattle.kcl_audit_streams.specs.Standing.{StreamValue}
use Rattle.kcl_audit_streams.proofs.LivingLemmas.{made_live}
use Rattle.kcl_audit_streams.proofs.streams.StreamList.add_made.Goals as goal

pub invariant_of-self-2 : goal.invariant_of-self-2
invariant_of-self-2 c =
    let me = c.self.inside in
    let v = new_stream c.args.name c.args.shards in
    let more : c.push.new.self.items ≡ me.all.items ++ v ∷ [] = search rules in
    let count : c.len.result ≡ 1 + length me.all.items = omega (
      arith,
      c.len.ensures,
      ap (length {A = StreamValue}) more,
      length-append me.all.items (v ∷ []),
    ) in
    let number : c.push-2.new.self.items ≡ me.live.items ++ (1 + length me.all.items) ∷ [] =
    c.in-Ok.ensures.items ∙ ap (λ ns. ns ++ c.len.result ∷ []) c.reserve.ensures.items
    ∙ ap (λ n. me.live.items ++ n ∷ []) count in
    number ∙ ap (λ ns. ns ++ (1 + length me.all.items) ∷ []) c.self.invariant ∙ sym (made_live 1 me.all.items v refl)
    ∙ ap (live_numbers 1) (sym more)
