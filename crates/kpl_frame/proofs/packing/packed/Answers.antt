use Rattle.std.proofs.Common.{◌≡◌, ◌<◌, ◌^◌, subst, rules}
use Rattle.std.specs.List.{AllByRecursion}
use Rattle.kpl_frame.specs.Packing.{hash_table}
use Rattle.kpl_frame.proofs.PackLemmas.{on_ok}
use Rattle.kpl_frame.proofs.packing.packed.Goals as goal

pub returns-clause-in_range : goal.returns-clause-in_range
returns-clause-in_range c =
    let table : c.as_slice.result.now ≡ hash_table c.args.records.now = search rules in
    on_ok c.framed.result _ (subst (AllByRecursion (λ n. n < 2 ^ 128)) table c.in_range.ensures)
