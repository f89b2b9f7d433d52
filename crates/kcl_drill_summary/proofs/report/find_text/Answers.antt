use Rattle.std.proofs.Common.{max, refl, ◌∙◌}
use Rattle.kds_defs.specs.Histories.{clock, journal}
use Rattle.kcl_drill_summary.proofs.Surveyed.{Facts, countable, told_text}
use Rattle.kcl_drill_summary.proofs.report.find_text.Goals as goal

pub returns-clause-text : goal.returns-clause-text
returns-clause-text g c = λ h has can.
    let log = journal h in
    let is_at = max (clock h) c.args.at in
    let legal = (c.step.ensures.history h can.lawful).legal in
    let facts : Facts log = record {
      numbered = c.shard_records.ensures.shards log;
      drawn = c.shard_records.ensures.numbers log legal;
      fits = c.shard_records.ensures.next log legal;
      sized = c.shard_records.ensures.sizes h can.lawful;
    } in
    told_text log is_at can.stream c.as_slice.result.now c.text_of.result facts can.named
    (c.as_slice.ensures.value
    ∙ c.in_ok-sums.ensures.ok h can.stream _ _ (c.in_ok-answer.ensures.ok h has)
    (record {
      read = c.ask.ensures.read h has;
      rows = refl;
      named = can.named;
      countable = countable log facts is_at can.stream can.whole;
    }))
    c.text_of.ensures
