use Rattle.std.proofs.Common.{rules}
use Rattle.kds_turn.proofs.Moves.{appends}
use Rattle.kds_turn.proofs.steps.count_turn.Goals as goal

pub fetch_add-requires : goal.fetch_add-requires
fetch_add-requires g c = let seat = c.args.seat.now in (
  c.requires.board.0,
  search rules,
  appends g.M.Machine.stands_for c.args.board.now.key c.args.board.now.table_id.slots seat.id seat.me.0 seat.me.1
      g.N.Next.turn c.requires.seat.0 c.requires.unspent c.requires.turn.1 c.requires.turn.2 c.requires.turn.3,
)
