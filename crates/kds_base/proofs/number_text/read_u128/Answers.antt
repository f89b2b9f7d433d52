use Rattle.std.proofs.Common.{sym, ◌∙◌}
use Rattle.kds_base.proofs.NumberLemmas.{none_of_needless, plain_as_digits}
use Rattle.kds_base.proofs.WideLemmas.{none_of_long}
use Rattle.kds_base.proofs.number_text.read_u128.Goals as goal

pub returns-then-text-gt-MOST_DIGITS : goal.returns-then-text-gt-MOST_DIGITS
returns-then-text-gt-MOST_DIGITS c = none_of_long c.args.text.now c.if-text-gt-MOST_DIGITS.true

pub returns-then-has_needless_zero : goal.returns-then-has_needless_zero
returns-then-has_needless_zero c =
    none_of_needless 128 c.args.text.now (sym c.has_needless_zero.ensures ∙ c.if-has_needless_zero.true)

pub returns-else-has_needless_zero : goal.returns-else-has_needless_zero
returns-else-has_needless_zero c =
    c.read_wide.ensures ∙ plain_as_digits 128 c.args.text.now (sym c.has_needless_zero.ensures
    ∙ c.if-has_needless_zero.false)
