use Rattle.std.proofs.Common.{◌≡◌, ◌+◌, ◌∙◌, sym, rules}
use Rattle.test_load.proofs.Joined.{has_more, all_front}
use Rattle.test_load.proofs.joining.join_all.Goals as goal

pub loop-pass-preserved : goal.loop-pass-preserved
loop-pass-preserved g c =
    let was = c.loop-pass.invariant in
    let next : c.by-by.result + 1 ≡ c.loop-pass.least = search rules in
    let is_of : c.in-Some.pass.by ≡ c.by-by.result = sym c.by-by.ensures in record {
      hall = c.join.ensures.kept.0 ∙ was.hall;
      halls = all_front c.args.hall.now.id c.loop-pass.others.items c.pop-in-loop-pass.new.self.items c.in-Some.pass
          c.in-Some.ensures.items was.halls;
      from = has_more c.loop-pass.least c.by-by.result c.args.last c.loop-pass.joined c.in-Some.pass c.join.new.pass
          next is_of c.join.ensures.kept.1 c.join.ensures.joined was.from;
    }
