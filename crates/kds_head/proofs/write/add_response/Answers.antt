use Rattle.std.proofs.Common.{◌≡◌, ◌∙◌, ap, List, ℕ, ◌++◌, length, rules}
use Rattle.std.specs.Prelude.{decimal}
use Rattle.kds_head.proofs.Responses.{eight, parts}
use Rattle.kds_head.proofs.write.add_response.Goals as goal

pub returns-clause-ok : goal.returns-clause-ok
returns-clause-ok c =
    let t = c.args.to.now.items in
    let one = c.add.ensures.items ∙ ap (λ (z : List ℕ). z ++ c.status_line.result.now) c.in_ok-reserve.ensures.items in
    let digits : c.as_bytes.result.now ≡ decimal (length c.args.body.now) = search rules in
    eight t c.status_line.result.now c.content_type_line.result.now c.as_slice.result.now c.as_bytes.result.now
    c.as_slice-2.result.now c.connection_line.result.now c.as_slice-3.result.now c.args.body.now
    c.add.new.to.items c.add-2.new.to.items c.add-3.new.to.items c.add-4.new.to.items c.add-5.new.to.items
    c.add-6.new.to.items c.add-7.new.to.items c.add-8.new.to.items
    one c.add-2.ensures.items c.add-3.ensures.items c.add-4.ensures.items c.add-5.ensures.items c.add-6.ensures.items
    c.add-7.ensures.items c.add-8.ensures.items
    ∙ ap (λ (z : List ℕ). t ++ z)
    (parts c.args.status c.args.body.now c.args.json c.args.close c.status_line.result.now
    c.content_type_line.result.now c.as_slice.result.now c.as_bytes.result.now c.as_slice-2.result.now
    c.connection_line.result.now c.as_slice-3.result.now
    c.status_line.ensures.line c.content_type_line.ensures.line c.as_slice.ensures digits c.as_slice-2.ensures
    c.connection_line.ensures.line c.as_slice-3.ensures)
