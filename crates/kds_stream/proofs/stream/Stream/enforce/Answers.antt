use Rattle.kds_stream.proofs.Insides.{shown_inside}
use Rattle.kds_stream.proofs.Limits.{enforce_done}
use Rattle.kds_stream.proofs.stream.Stream.enforce.Goals as goal
use Rattle.kds_defs.specs.PutCommands.{enforce}
use Rattle.kds_stream.proofs.Puts.{led_along}
use Rattle.kds_stream.specs.Value.{StreamValue}
use Rattle.kds_stream.specs.contracts.stream.Stream.{the_view}

pub returns-clause-answered : goal.returns-clause-answered
returns-clause-answered c log actor shown =
    let v : StreamValue = the_view c.self.inside in
    led_along (λ (u : StreamValue). enforce log u.clock actor u.no c.args.on) v c.args.self.now _ log _ c.self.view_is
    (enforce_done v log actor c.args.on (shown_inside log c.self.view_is shown))
