use Rattle.std.proofs.Common.{sym, ◌∙◌}
use Rattle.kds_base.proofs.NumberLemmas.{none_of_needless, plain_as_digits}
use Rattle.kds_base.proofs.number_text.read_u64.Goals as goal

pub returns-then-has_needless_zero : goal.returns-then-has_needless_zero
returns-then-has_needless_zero c =
    none_of_needless 64 c.args.text.now (sym c.has_needless_zero.ensures ∙ c.if-has_needless_zero.true)

pub returns-else-has_needless_zero : goal.returns-else-has_needless_zero
returns-else-has_needless_zero c =
    c.read_digits.ensures
    ∙ plain_as_digits 64 c.args.text.now (sym c.has_needless_zero.ensures ∙ c.if-has_needless_zero.false)
