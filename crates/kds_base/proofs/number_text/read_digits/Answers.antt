use Rattle.std.proofs.Common.{◌≡◌, ◌+◌, ◌^◌, ◌≤◌, true, None, take, take_all, subst, arith, rules, ◌∙◌, ap}
use Rattle.std.specs.Char.{is_ascii_digit}
use Rattle.std.specs.List.{list_all}
use Rattle.std.specs.Str.Parse.{digits_value}
use Rattle.kds_base.proofs.NumberLemmas.{next_digit, more_digits, none_of_nothing, none_of_others, none_of_large}
use Rattle.kds_base.proofs.NumberLemmas.{all_read}
use Rattle.kds_base.proofs.number_text.read_digits.Goals as goal

pub returns-then-is_empty : goal.returns-then-is_empty
returns-then-is_empty c = none_of_nothing 64 c.args.text.now (search rules)

pub returns-then-not-is_ascii_digit : goal.returns-then-not-is_ascii_digit
returns-then-not-is_ascii_digit c =
    none_of_others 64 c.loop-byte.byte-index c.args.text.now c.loop-byte-test.true (search rules)

pub returns-in_err-number : goal.returns-in_err-number
returns-in_err-number c =
    let text = c.args.text.now in
    let next = next_digit text _ _ c.loop-byte-test.true (search rules) c.loop-byte.invariant.value in
    let large : 2 ^ 64 ≤ digits_value 10 (take (c.loop-byte.byte-index + 1) text) = grind arith in
    let none : c.from_residual.result ≡ None = search rules in
    none ∙ none_of_large 64 _ text large

pub loop-byte-preserved : goal.loop-byte-preserved
loop-byte-preserved c =
    let text = c.args.text.now in
    let next = next_digit text _ _ c.loop-byte-test.true (search rules) c.loop-byte.invariant.value in
    record {
      digits = more_digits text _ c.loop-byte-test.true c.loop-byte.invariant.digits (search rules);
      value = grind arith;
      small = search rules;
    }

pub returns : goal.returns
returns c =
    let text = c.args.text.now in
    let whole = take_all c.loop-byte.byte-index text (omega arith) in
    all_read 64 c.loop-byte.number text (search rules)
    (subst (λ xs. list_all is_ascii_digit xs ≡ true) whole c.loop-byte.invariant.digits)
    (c.loop-byte.invariant.value ∙ ap (digits_value 10) whole) c.loop-byte.invariant.small
