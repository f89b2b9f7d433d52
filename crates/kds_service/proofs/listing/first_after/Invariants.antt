use Rattle.std.proofs.Common.{◌≡◌, ◌≤◌, ◌++◌, length, drop, filter, map}
use Rattle.kds_defs.specs.Listings.{is_after_name}
use Rattle.kds_service.proofs.listing.first_after.Given as goal

-- The names so far and those to come after `after` are all names after `after`, and `limit` isn't passed.
abbrev pub invariant-loop-name : goal.invariant-loop-name
invariant-loop-name l = record {
  all : l.first ++ filter (is_after_name l.after) (map (λ n. n.now) (drop l.name-index l.names))
      ≡ filter (is_after_name l.after) (map (λ n. n.now) l.names);
  few : length l.first ≤ l.limit;
}
