use Rattle.std.proofs.Common.{◌∙◌, sym, ap, map, Some, None}
use Rattle.std.specs.Prelude.{is_none, unwrap_or, not}
use Rattle.httparse.specs.Spans.{header_bytes}
use Rattle.kds_head.specs.Findings.{value_in}
use Rattle.kds_head.proofs.Passes.{none_is, some_is, body_is, operation_is, json_is, close_is}
use Rattle.kds_head.proofs.Tables.{stops, passes, above, not_above, whole_same}
use Rattle.kds_head.proofs.judge.judge.Goals as goal

pub returns-then-too_many : goal.returns-then-too_many
returns-then-too_many c = stops _ _ _ (sym c.too_many.ensures ∙ c.if-too_many.true)

pub returns-then-is_somewhere : goal.returns-then-is_somewhere
returns-then-is_somewhere c =
    let f = c.read_headers-found.ensures in
    passes _ _ _ _ (sym c.too_many.ensures ∙ c.if-too_many.false)
    (stops _ _ _ (sym f.encoding.some ∙ sym c.is_somewhere.ensures ∙ c.if-is_somewhere.true))

pub returns-then-not-is_somewhere : goal.returns-then-not-is_somewhere
returns-then-not-is_somewhere c =
    let f = c.read_headers-found.ensures in
    passes _ _ _ _ (sym c.too_many.ensures ∙ c.if-too_many.false)
    (passes _ _ _ _ (sym f.encoding.some ∙ sym c.is_somewhere.ensures ∙ c.if-is_somewhere.false)
    (stops _ _ _ (none_is _ (sym f.content_length.some ∙ sym c.is_somewhere-2.ensures ∙ c.if-not-is_somewhere.true))))

pub returns-in-None : goal.returns-in-None
returns-in-None c =
    let f = c.read_headers-found.ensures in
    let hs = map (header_bytes c.args.front.now) c.args.headers.now in
    let v = value_in c.args.front.now c.read_headers-found.result.content_length in
    passes _ _ _ _ (sym c.too_many.ensures ∙ c.if-too_many.false)
    (passes _ _ _ _ (sym f.encoding.some ∙ sym c.is_somewhere.ensures ∙ c.if-is_somewhere.false)
    (passes _ _ _ _ (some_is _ (sym f.content_length.some ∙ sym c.is_somewhere-2.ensures ∙ c.if-not-is_somewhere.false))
    (stops _ _ _ (ap is_none (sym (body_is v None hs c.in-None.ensures f.content_length.value))))))

pub returns-then-body-gt-BODY_BYTES : goal.returns-then-body-gt-BODY_BYTES
returns-then-body-gt-BODY_BYTES c =
    let f = c.read_headers-found.ensures in
    let hs = map (header_bytes c.args.front.now) c.args.headers.now in
    let v = value_in c.args.front.now c.read_headers-found.result.content_length in
    let some = body_is v (Some c.in-Some.body) hs c.in-Some.ensures f.content_length.value in
    passes _ _ _ _ (sym c.too_many.ensures ∙ c.if-too_many.false)
    (passes _ _ _ _ (sym f.encoding.some ∙ sym c.is_somewhere.ensures ∙ c.if-is_somewhere.false)
    (passes _ _ _ _ (some_is _ (sym f.content_length.some ∙ sym c.is_somewhere-2.ensures ∙ c.if-not-is_somewhere.false))
    (passes _ _ _ _ (ap is_none (sym some))
    (stops _ _ _ (above _ _ 16777216 (ap (λ o. unwrap_or o 0) some) c.if-body-gt-BODY_BYTES.true)))))

pub returns-then-not-is_post : goal.returns-then-not-is_post
returns-then-not-is_post c =
    let f = c.read_headers-found.ensures in
    let hs = map (header_bytes c.args.front.now) c.args.headers.now in
    let v = value_in c.args.front.now c.read_headers-found.result.content_length in
    let some = body_is v (Some c.in-Some.body) hs c.in-Some.ensures f.content_length.value in
    passes _ _ _ _ (sym c.too_many.ensures ∙ c.if-too_many.false)
    (passes _ _ _ _ (sym f.encoding.some ∙ sym c.is_somewhere.ensures ∙ c.if-is_somewhere.false)
    (passes _ _ _ _ (some_is _ (sym f.content_length.some ∙ sym c.is_somewhere-2.ensures ∙ c.if-not-is_somewhere.false))
    (passes _ _ _ _ (ap is_none (sym some))
    (passes _ _ _ _ (not_above _ _ 16777216 (ap (λ o. unwrap_or o 0) some) c.if-body-gt-BODY_BYTES.false)
    (stops _ _ _ (ap not (sym c.is_post.ensures ∙ c.if-not-is_post.true)))))))

pub returns-then-not-is_root : goal.returns-then-not-is_root
returns-then-not-is_root c =
    let f = c.read_headers-found.ensures in
    let hs = map (header_bytes c.args.front.now) c.args.headers.now in
    let v = value_in c.args.front.now c.read_headers-found.result.content_length in
    let some = body_is v (Some c.in-Some.body) hs c.in-Some.ensures f.content_length.value in
    passes _ _ _ _ (sym c.too_many.ensures ∙ c.if-too_many.false)
    (passes _ _ _ _ (sym f.encoding.some ∙ sym c.is_somewhere.ensures ∙ c.if-is_somewhere.false)
    (passes _ _ _ _ (some_is _ (sym f.content_length.some ∙ sym c.is_somewhere-2.ensures ∙ c.if-not-is_somewhere.false))
    (passes _ _ _ _ (ap is_none (sym some))
    (passes _ _ _ _ (not_above _ _ 16777216 (ap (λ o. unwrap_or o 0) some) c.if-body-gt-BODY_BYTES.false)
    (passes _ _ _ _ (ap not (sym c.is_post.ensures ∙ c.if-not-is_post.false))
    (stops _ _ _ (ap not (sym c.is_root.ensures ∙ c.if-not-is_root.true))))))))

pub returns : goal.returns
returns c =
    let f = c.read_headers-found.ensures in
    let hs = map (header_bytes c.args.front.now) c.args.headers.now in
    let v = value_in c.args.front.now c.read_headers-found.result.content_length in
    let some = body_is v (Some c.in-Some.body) hs c.in-Some.ensures f.content_length.value in
    let target = value_in c.args.front.now c.read_headers-found.result.target in
    let named = operation_is target _ hs (c.in_ok-operation.ensures ∙ c.operation.ensures) f.target.value in
    let json = json_is (value_in c.args.front.now c.read_headers-found.result.media_type) _ hs c.says_json.ensures
    f.media_type.value in
    let close = close_is c.args.spans.now.version c.read_headers-found.result.close _ hs c.closes.ensures f.close in
    passes _ _ _ _ (sym c.too_many.ensures ∙ c.if-too_many.false)
    (passes _ _ _ _ (sym f.encoding.some ∙ sym c.is_somewhere.ensures ∙ c.if-is_somewhere.false)
    (passes _ _ _ _ (some_is _ (sym f.content_length.some ∙ sym c.is_somewhere-2.ensures ∙ c.if-not-is_somewhere.false))
    (passes _ _ _ _ (ap is_none (sym some))
    (passes _ _ _ _ (not_above _ _ 16777216 (ap (λ o. unwrap_or o 0) some) c.if-body-gt-BODY_BYTES.false)
    (passes _ _ _ _ (ap not (sym c.is_post.ensures ∙ c.if-not-is_post.false))
    (passes _ _ _ _ (ap not (sym c.is_root.ensures ∙ c.if-not-is_root.false))
    (whole_same _ _ _ _ _ _ _ _ _ (ap (λ o. unwrap_or o 0) some) named json close)))))))
