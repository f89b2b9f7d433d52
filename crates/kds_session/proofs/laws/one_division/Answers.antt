use Rattle.kds_session.proofs.Readings.{one_way}
use Rattle.kds_session.proofs.laws.one_division.Goals as goal

pub returns : goal.returns
returns c = one_way (record {
  one = c.one_finding.ensures;
  stays = c.decided_stays.ensures;
  limits = c.found_within_limits.ensures;
  none = c.no_bytes_need_more.ensures;
})
