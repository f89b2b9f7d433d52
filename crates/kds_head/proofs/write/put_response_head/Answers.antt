use Rattle.std.proofs.Common.{◌≡◌, ◌-◌, ◌∙◌, ap, drop, length, arith, rules}
use Rattle.std.specs.Prelude.{decimal}
use Rattle.std.proofs.lemmas.List.{length-drop}
use Rattle.kds_head.proofs.Responses.{in_front, parts}
use Rattle.kds_head.proofs.write.put_response_head.Goals as goal

pub returns-clause-text : goal.returns-clause-text
returns-clause-text c =
    let body = drop c.args.body_at c.args.text.now in
    let digits : c.as_bytes.result.now ≡ decimal (length c.args.text.now - c.args.body_at) = search rules in
    let size : length c.args.text.now - c.args.body_at ≡ length body =
    omega (arith, length-drop c.args.body_at c.args.text.now) in
    in_front c.status_line.result.now c.content_type_line.result.now c.as_slice-3.result.now c.as_bytes.result.now
    c.as_slice-2.result.now
    c.connection_line.result.now c.as_slice.result.now body _ _ _ _ _ _ _
    c.write_before-at.ensures.text c.write_before-at-2.ensures.text c.write_before-at-3.ensures.text
    c.write_before-at-4.ensures.text
    c.write_before-at-5.ensures.text c.write_before-at-6.ensures.text c.write_before.ensures.text
    ∙ parts c.args.status body c.args.json c.args.close c.status_line.result.now c.content_type_line.result.now
    c.as_slice-3.result.now
    c.as_bytes.result.now c.as_slice-2.result.now c.connection_line.result.now c.as_slice.result.now
    c.status_line.ensures.line c.content_type_line.ensures.line c.as_slice-3.ensures (digits ∙ ap decimal size)
    c.as_slice-2.ensures
    c.connection_line.ensures.line c.as_slice.ensures
