use Rattle.std.proofs.Common.{rules, ◌<◌, ◌^◌}
use Rattle.kds_defs.specs.Lawful.{IsItem}
use Rattle.kcl_drill.specs.Generated.{record_of}
use Rattle.kcl_drill.proofs.LawfulLemmas.{record_lawful}
use Rattle.kcl_drill.proofs.records.record.Goals as goal

pub returns-clause-lawful : goal.returns-clause-lawful
returns-clause-lawful c =
    let fits : c.args.x < 2 ^ 64 = search rules in
    let hash : (record_of c.args.i c.args.x).hash < 2 ^ 128 = search rules in
    let lawful : IsItem (record_of c.args.i c.args.x) = record_lawful c.args.i c.args.x fits hash in
    search (rules, lawful)
