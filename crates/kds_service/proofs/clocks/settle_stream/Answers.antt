use Rattle.std.proofs.Common.{sym, subst, ◌∙◌, arith}
use Rattle.std.proofs.lemmas.Map.Entries.{length-values_of}
use Rattle.indexmap.specs.IndexMap.{values}
use Rattle.kds_stream.specs.Showing.{Shows}
use Rattle.kds_service.proofs.Clocked.{settled_beyond, settled_here}
use Rattle.kds_service.proofs.Entries.{keys_set, values_set}
use Rattle.kds_service.proofs.Lists.{all_get, all_set}
use Rattle.kds_service.specs.Shown.{AreShown}
use Rattle.kds_service.proofs.clocks.settle_stream.Goals as goal

pub returns-then-i-len-clause-value : goal.returns-then-i-len-clause-value
returns-then-i-len-clause-value c =
    let vs = values c.args.streams.now in
    values_set c.args.streams.now.entries c.args.i c.settle.new.self
    ∙ settled_here c.args.i vs _ c.settle.new.self c.index_mut.ensures.value c.settle.ensures.dropped

pub returns-then-i-len-clause-keys : goal.returns-then-i-len-clause-keys
returns-then-i-len-clause-keys c = keys_set c.args.streams.now.entries c.args.i c.settle.new.self

pub returns-then-i-len-clause-shows : goal.returns-then-i-len-clause-shows
returns-then-i-len-clause-shows c log shown =
    let vs = values c.args.streams.now in
    subst (AreShown log) (sym (values_set c.args.streams.now.entries c.args.i c.settle.new.self))
    (all_set (λ v. Shows v log) c.args.i vs c.settle.new.self shown
    (c.settle.ensures.shows log (all_get (λ v. Shows v log) c.args.i vs _ shown c.index_mut.ensures.value)))

pub returns-else-i-len-clause-value : goal.returns-else-i-len-clause-value
returns-else-i-len-clause-value c =
    settled_beyond c.args.i (values c.args.streams.now)
    (omega (arith, length-values_of c.args.streams.now.entries, c.if-i-len.false))
