-- The contract of the function that serves each kind of command gives what `serve` promises.
use Rattle.std.proofs.Common.{refl}
use Rattle.std.specs.Prelude.{Ok}
use Rattle.indexmap.specs.IndexMap.{values}
use Rattle.kds_defs.specs.declared.command.Command.TheVariants as command
use Rattle.kds_service.proofs.Leading.{serve_leads}
use Rattle.kds_service.proofs.Lookups.{rest_of}
use Rattle.kds_service.proofs.serve.serve.Goals as goal

pub returns-in-Delete-clause-leads : goal.returns-in-Delete-clause-leads
returns-in-Delete-clause-leads c is_before =
    let a = c.args in
    let w = c.in-Delete in
    serve_leads {E = Unit {0}} (Ok c.delete.result) a.clock is_before a.made_count.now (values a.streams.now)
    (values c.delete.new.streams) a.what
    (command.Delete w.name) c.delete.ensures.leads w.is

pub returns-in-Streams-clause-leads : goal.returns-in-Streams-clause-leads
returns-in-Streams-clause-leads c is_before =
    let a = c.args in
    let w = c.in-Streams in
    serve_leads c.streams.result a.clock is_before a.made_count.now (values a.streams.now) (values a.streams.now)
    a.what (command.Streams w.after w.limit) c.streams.ensures w.is

pub serve_one-requires-clause-own : goal.serve_one-requires-clause-own
serve_one-requires-clause-own c =
    let w = c.in_default in
    rest_of c.args.what c.requires.own (λ name count is. w.not-Create name count is) (λ name is. w.not-Delete name is)
    (λ after limit is. w.not-Streams after limit is)

pub returns-in_default-clause-leads : goal.returns-in_default-clause-leads
returns-in_default-clause-leads c is_before =
    let a = c.args in
    serve_leads c.serve_one.result a.clock is_before a.made_count.now (values a.streams.now)
    (values c.serve_one.new.streams) a.what a.what c.serve_one.ensures.leads refl
