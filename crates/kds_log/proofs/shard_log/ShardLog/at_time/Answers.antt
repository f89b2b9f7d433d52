use Rattle.std.proofs.Common.{◌≡◌, sym, ap, ◌∙◌, subst, List, map, rules}
use Rattle.std.specs.Prelude.{max}
use Rattle.kds_defs.specs.Records.{Logged, left_among, logged, numbers_of}
use Rattle.kds_defs.specs.Streams.{floor_of}
use Rattle.kds_log.specs.Log.{LogWithReserve, first_number, log_of, since, IsLeast, IsOrderly}
use Rattle.kds_log.proofs.OrderLemmas.{first_since}
use Rattle.kds_log.proofs.PlaceLemmas.{since_left}
use Rattle.kds_log.proofs.shard_log.ShardLog.at_time.Goals as goal

pub returns-clause-value : goal.returns-clause-value
returns-clause-value c =
    let kept : map logged c.self.inside.records.items ≡ c.args.self.now.kept =
    ap (λ (l : LogWithReserve). l.kept) c.self.view_is in
    let floor : c.max.result ≡ max (floor_of c.args.cut) c.args.moment = search rules in
    c.first_since.ensures
    ∙ ap (λ n. first_number (left_among n 0 (map logged c.self.inside.records.items))) floor
    ∙ ap (λ (rs : List Logged). first_number (left_among (max (floor_of c.args.cut) c.args.moment) 0 rs)) kept
    ∙ sym (ap first_number (since_left (floor_of c.args.cut) c.args.moment c.args.self.now.kept))

pub returns-clause-least : goal.returns-clause-least
returns-clause-least c =
    let rs = since c.args.moment (left_among (floor_of c.args.cut) 0 c.args.self.now.kept) in
    let orderly = subst (λ (v : LogWithReserve). IsOrderly (log_of v)) c.self.view_is c.self.invariant.0 in
    subst (IsLeast (numbers_of rs)) (sym (returns-clause-value c))
    (first_since c.args.moment (floor_of c.args.cut) 0 (log_of c.args.self.now) orderly)
