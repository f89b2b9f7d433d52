-- The contract of the function that serves a command gives the machine's decision on it.
use Rattle.std.proofs.Common.{refl, ap, sym, subst, ◌∙◌}
use Rattle.std.specs.Prelude.{Ok}
use Rattle.kds_defs.proofs.Decisions.{with_some}
use Rattle.kds_defs.specs.Lawful.{IsLawfulCommand}
use Rattle.kds_defs.specs.Listings.{describe, get_iterator, get_records, list_shards, more, summary}
use Rattle.kds_defs.specs.PutCommands.{enforce, put, put_many}
use Rattle.kds_defs.specs.ScaleCommands.{scale_stream}
use Rattle.kds_defs.specs.StreamCommands.{keep, merge, split_where}
use Rattle.kds_stream.proofs.Serving.{full_so, over_so, serves, tells}
use Rattle.kds_stream.specs.Serving.{token_stream}
use Rattle.kds_stream.specs.Showing.{is_full}
use Rattle.kds_stream.specs.Steps.{is_over, scale_where}
use Rattle.kds_stream.proofs.stream.Stream.serve.Goals as goal

pub returns-in-Describe-clause-answered : goal.returns-in-Describe-clause-answered
returns-in-Describe-clause-answered c =
    let v = c.args.self.now in
    let w = c.in-Describe in
    tells c.describe.result v c.args.open_limit _ _ (λ log. describe log v.clock v.no w.after w.limit) w.is refl
    (λ log actor is_told. with_some _ _ _ v.no (is_told.named _ refl).1) c.describe.ensures

pub returns-in-Summary-clause-answered : goal.returns-in-Summary-clause-answered
returns-in-Summary-clause-answered c =
    let v = c.args.self.now in
    tells c.summary.result v c.args.open_limit _ _ (λ log. summary log v.no) c.in-Summary.is refl
    (λ log actor is_told. with_some _ _ _ v.no (is_told.named _ refl).1) c.summary.ensures

pub returns-in-Put-clause-answered : goal.returns-in-Put-clause-answered
returns-in-Put-clause-answered c =
    let v = c.args.self.now in
    let w = c.in-Put in
    serves c.put.result v c.put.new.self c.args.open_limit _ _ (λ log actor. put log v.clock actor v.no w.item) w.is
    (λ log actor is_told. with_some _ _ _ v.no (is_told.named _ refl).1) c.put.ensures.answered

pub returns-in-PutMany-clause-answered : goal.returns-in-PutMany-clause-answered
returns-in-PutMany-clause-answered c =
    let v = c.args.self.now in
    let w = c.in-PutMany in
    serves c.put_many.result v c.put_many.new.self c.args.open_limit _ _
    (λ log actor. put_many log v.clock actor v.no w.items) w.is
    (λ log actor is_told. with_some _ _ _ v.no (is_told.named _ refl).1) c.put_many.ensures.answered

pub returns-in-GetIterator-clause-answered : goal.returns-in-GetIterator-clause-answered
returns-in-GetIterator-clause-answered c =
    let v = c.args.self.now in
    let w = c.in-GetIterator in
    tells {E = Unit {0}} (Ok c.iterator.result) v c.args.open_limit _ _
    (λ log. get_iterator log v.clock v.no w.shard w.from)
    w.is refl
    (λ log actor is_told. with_some _ _ _ v.no (is_told.named _ refl).1) c.iterator.ensures

pub records-requires-clause-stream : goal.records-requires-clause-stream
records-requires-clause-stream c = c.requires.token _ (ap token_stream c.in-Records.is)

pub returns-in-Records-clause-answered : goal.returns-in-Records-clause-answered
returns-in-Records-clause-answered c =
    let v = c.args.self.now in
    let w = c.in-Records in
    tells c.records.result v c.args.open_limit _ _ (λ log. get_records log v.clock w.iter w.limit) w.is refl
    (λ log actor is_told. refl) c.records.ensures

pub returns-in-Split-clause-answered : goal.returns-in-Split-clause-answered
returns-in-Split-clause-answered c =
    let v = c.args.self.now in
    let w = c.in-Split in
    serves c.split.result v c.split.new.self c.args.open_limit _ _
    (λ log actor. split_where (is_full v c.args.open_limit) log v.clock actor v.no w.shard w.at) w.is
    (λ log actor is_told.
    with_some _ _ _ v.no (is_told.named _ refl).1
    ∙ ap (λ f. split_where f log v.clock actor v.no w.shard w.at) (sym (full_so _ _ _ _ is_told refl)))
    c.split.ensures.answered

pub returns-in-Merge-clause-answered : goal.returns-in-Merge-clause-answered
returns-in-Merge-clause-answered c =
    let v = c.args.self.now in
    let w = c.in-Merge in
    serves c.merge.result v c.merge.new.self c.args.open_limit _ _
    (λ log actor. merge log v.clock actor v.no w.shard w.other)
    w.is
    (λ log actor is_told. with_some _ _ _ v.no (is_told.named _ refl).1) c.merge.ensures.answered

pub returns-in-Keep-clause-answered : goal.returns-in-Keep-clause-answered
returns-in-Keep-clause-answered c =
    let v = c.args.self.now in
    let w = c.in-Keep in
    serves {E = Unit {0}} (Ok c.keep.result) v c.keep.new.self c.args.open_limit _ _
    (λ log actor. keep log v.clock actor v.no w.hours w.raise) w.is
    (λ log actor is_told. with_some _ _ _ v.no (is_told.named _ refl).1) c.keep.ensures.answered

pub returns-in-Scale-clause-answered : goal.returns-in-Scale-clause-answered
returns-in-Scale-clause-answered c =
    let v = c.args.self.now in
    let w = c.in-Scale in
    let some = (subst IsLawfulCommand w.is c.requires.lawful).1.0 in
    serves c.scale.result v c.scale.new.self c.args.open_limit _ _
    (λ log actor. scale_where (is_over w.target c.args.open_limit) log v.clock actor v.name v.no w.target) w.is
    (λ log actor is_told.
    with_some _ _ _ v.no (is_told.named _ refl).1
    ∙ ap (λ n. scale_stream log v.clock actor n v.no w.target) (is_told.named _ refl).0
    ∙ ap (λ f. scale_where f log v.clock actor v.name v.no w.target) (sym (over_so _ _ _ _ is_told refl w.target some)))
    c.scale.ensures.answered

pub returns-in-Enforce-clause-answered : goal.returns-in-Enforce-clause-answered
returns-in-Enforce-clause-answered c =
    let v = c.args.self.now in
    let w = c.in-Enforce in
    serves {E = Unit {0}} (Ok c.enforce.result) v c.enforce.new.self c.args.open_limit _ _
    (λ log actor. enforce log v.clock actor v.no w.on) w.is
    (λ log actor is_told. with_some _ _ _ v.no (is_told.named _ refl).1) c.enforce.ensures.answered

pub returns-in-Shards-clause-answered : goal.returns-in-Shards-clause-answered
returns-in-Shards-clause-answered c =
    let v = c.args.self.now in
    let w = c.in-Shards in
    tells c.shards.result v c.args.open_limit _ _ (λ log. list_shards log v.clock v.no w.after w.limit) w.is refl
    (λ log actor is_told. with_some _ _ _ v.no (is_told.named _ refl).1) c.shards.ensures

pub more-requires-clause-stream : goal.more-requires-clause-stream
more-requires-clause-stream c = c.requires.token _ (ap token_stream c.in-More.is)

pub returns-in-More-clause-answered : goal.returns-in-More-clause-answered
returns-in-More-clause-answered c =
    let v = c.args.self.now in
    let w = c.in-More in
    tells c.more.result v c.args.open_limit _ _ (λ log. more log v.clock w.page w.limit) w.is refl (λ log actor is_told.
    refl)
    c.more.ensures
