use Rattle.std.proofs.Common.{sym, subst, arith, List, ℕ, length, ◌≡◌}
use Rattle.std.proofs.lemmas.List.{nil_from_length}
use Rattle.kds_head.specs.declared.found.Found.TheVariants.{Need}
use Rattle.kds_head.specs.Find.{IsFound}
use Rattle.kds_session.proofs.front.find_head.Goals as goal

pub returns-in-empty : goal.returns-in-empty
returns-in-empty c =
    let none : length c.args.unread.now ≡ 0 = omega (arith, c.in-empty.len_below) in
    subst (λ (b : List ℕ). IsFound b Need) (sym (nil_from_length c.args.unread.now none)) c.no_bytes_need_more.ensures
