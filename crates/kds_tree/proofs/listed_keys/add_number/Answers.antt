use Rattle.std.specs.Prelude.{slice_get}
use Rattle.kds_defs.specs.Streams.{floor_of}
use Rattle.kds_tree.proofs.Pages.{no_key, none_there}
use Rattle.kds_tree.proofs.listed_keys.add_number.Goals as goal

pub returns-in-None : goal.returns-in-None
returns-in-None c =
    let none = none_there c.args.shards.now c.no.inside.0 c.args.no c.no.view_is c.in-None.ensures.lookup.0 in
    no_key c.args.stream (floor_of c.args.cut.now) c.args.keys.now (slice_get c.args.shards.now c.args.no) none
