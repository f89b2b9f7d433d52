use Rattle.std.specs.Prelude.{slice_get}
use Rattle.kds_tree.proofs.Pages.{none_more, none_there}
use Rattle.kds_tree.proofs.tree.list_number.Goals as goal

pub returns-in-None : goal.returns-in-None
returns-in-None c =
    let none = none_there c.args.shards.now c.no.inside.0 c.args.no c.no.view_is c.in-None.ensures.lookup.0 in
    none_more c.args.limit c.args.cut.now c.args.listed.now (slice_get c.args.shards.now c.args.no) none c.requires
