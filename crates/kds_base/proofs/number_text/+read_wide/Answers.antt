use Rattle.std.proofs.Common.{◌≡◌, ◌<◌, ◌∙◌, None, Some, length, sym, ap, arith, rules}
use Rattle.kds_base.specs.NumberText.{digits_of}
use Rattle.kds_base.proofs.WideLemmas.{block_not_read, both_as_made, front_not_read, short_as_wide}
use Rattle.kds_base.proofs.number_text.+read_wide.Goals as goal

pub returns-in-None : goal.returns-in-None
returns-in-None t c =
    let text = c.args.text.now in
    let none : digits_of 64 text ≡ None = search rules in
    sym none ∙ short_as_wide text (search rules)

pub returns-in_err-number : goal.returns-in_err-number
returns-in_err-number t c =
    let front = c.split_at.result.0.now in
    let block = c.split_at.result.1.now in
    let none : digits_of 128 front ≡ None = search rules in
    let some : 0 < length front = omega (arith, c.split_at.ensures.front_len, c.if-text-le-BLOCK_DIGITS.false) in
    let is_given : c.from_residual.result ≡ None = search rules in
    is_given ∙ front_not_read front block some none ∙ ap (digits_of 128) (sym c.split_at.ensures.by_index.0)

pub returns-in_err-block : goal.returns-in_err-block
returns-in_err-block t c =
    let front = c.split_at.result.0.now in
    let block = c.split_at.result.1.now in
    let none : digits_of 64 block ≡ None = search rules in
    let long : length block ≡ 19 = omega (arith, c.split_at.ensures.back_len, c.if-text-le-BLOCK_DIGITS.false) in
    let is_given : c.from_residual-in_err-block.result ≡ None = search rules in
    is_given ∙ block_not_read front block long none ∙ ap (digits_of 128) (sym c.split_at.ensures.by_index.0)

pub returns : goal.returns
returns t c =
    let front = c.split_at.result.0.now in
    let block = c.split_at.result.1.now in
    let number : digits_of 128 front ≡ Some c.in_ok-number.number = search rules in
    let digits : digits_of 64 block ≡ Some c.in_ok-block.block = search rules in
    let long : length block ≡ 19 = omega (arith, c.split_at.ensures.back_len, c.if-text-le-BLOCK_DIGITS.false) in
    let made = both_as_made front block _ _ long number digits c.with_block.result c.with_block.ensures.some
    c.with_block.ensures.small c.with_block.ensures.none in
    made ∙ ap (digits_of 128) (sym c.split_at.ensures.by_index.0)
