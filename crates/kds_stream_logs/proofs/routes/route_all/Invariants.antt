use Rattle.std.proofs.Common.{◌≡◌, ℕ, List, length}
use Rattle.std.specs.List.{AllByRecursion}
use Rattle.kds_defs.specs.Rates.{SizedPut}
use Rattle.kds_stream_logs.specs.Rating.{IsCounted, StandFor}
use Rattle.kds_stream_logs.specs.Routes.{AreOfRecords, GoesOn}
use Rattle.kds_stream_logs.specs.Saved.{restored}
use Rattle.kds_stream_logs.proofs.routes.route_all.Given as goal

-- The routes have the items so far, and with the items left they become the routes of all items;
-- each shard has a window that counts no later put, and putting back the saved ones restores the windows.
abbrev pub invariant-loop-item : goal.invariant-loop-item
invariant-loop-item l =
    record {
      goes_on : (f : ℕ → List SizedPut) → StandFor f 0 l.initial.windows
          → GoesOn l.tree.shards l.clock l.enforced f l.first l.initial.items.items l.items.items l.routes l.windows;
      placed : AreOfRecords l.tree.shards l.clock l.first l.routes;
      counted : AllByRecursion (IsCounted l.clock) l.windows;
      many : length l.windows ≡ length l.tree.shards;
      saved : restored l.routes.saved.items l.windows ≡ l.initial.windows;
    }

-- Each round routes one of the items that are left.
abbrev pub decreases-loop-item : goal.decreases-loop-item
decreases-loop-item l = length l.items.items
