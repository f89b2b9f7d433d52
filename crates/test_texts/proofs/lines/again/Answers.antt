use Rattle.std.proofs.Common.{sym, ◌∙◌}
use Rattle.test_texts.proofs.lines.again.Goals as goal

pub print_line-requires : goal.print_line-requires
print_line-requires c =
    (c.one_spelling.ensures.reads c.args.text.now c.in-Some.line (sym c.in_ok-line.ensures ∙ c.in-Some.is)).0
