use Rattle.std.proofs.Common.{ap, sym}
use Rattle.kcl_drill_drain.specs.declared.reading.Fetch.{Fetch}
use Rattle.kcl_drill_drain.specs.Standing.{read_at, read_then}
use Rattle.kcl_drill_drain.proofs.ReadLemmas.{held_then, waits_for}
use Rattle.kcl_drill_drain.proofs.reading.deliver.Goals as goal

pub returns-clause-ok : goal.returns-clause-ok
returns-clause-ok g c = λ w x spot ready is fetch l.
    let laws = c.drain_laws.ensures w.history c.args.at spot.can in
    let is_given = c.in_ok-give.ensures.ok w (read_then w c.args.at x) (read_at w c.args.at x)
    (waits_for w c.args.at spot laws x ready) is.tenure l in
    let marked = c.in_ok-counter.ensures.ok w x spot ready is (ap (λ (f : Fetch). f.last) fetch) is_given in
    c.finish_or_continue.ensures.ok w x spot ready is.position (sym (ap (λ (f : Fetch). f.ended) fetch))
    (held_then w c.args.at spot laws x c.args.held.now c.args.fetch.now.reach c.in_ok-counter.counter is
    (ap (λ (f : Fetch). f.reach) fetch) marked.0) marked.1
