use Rattle.std.proofs.Common.{is_some, ap, sym, ◌∙◌}
use Rattle.kcl_take.proofs.Places.{mine_anywhere, mine_at}
use Rattle.kcl_take.proofs.taking.mine_index.Goals as goal

pub returns-then-is_mine_at : goal.returns-then-is_mine_at
returns-then-is_mine_at c =
    sym (mine_at c.args.r.now c.args.held.now c.args.hint (sym c.is_mine_at.ensures ∙ c.if-is_mine_at.true))

pub returns-else-rising : goal.returns-else-rising
returns-else-rising c = ap is_some c.first_mine.ensures ∙ mine_anywhere c.args.r.now c.args.held.now
