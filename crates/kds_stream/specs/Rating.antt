-- How the windows of a stream's shards represent the puts in a journal.
use Rattle.std.specs.Prelude.{ℕ, ◌≡◌, ◌≤◌, Bool, List, [], length}
use Rattle.std.specs.List.{AllByRecursion}
use Rattle.kds_defs.specs.Journal.{Journal}
use Rattle.kds_defs.specs.PutCommands.{is_enforced}
use Rattle.kds_defs.specs.Rates.{puts}
use Rattle.kds_rate.specs.Windows.{WindowValue}
use Rattle.kds_stream_logs.specs.Rating.{IsCounted, StandFor}

-- There are `count` windows, none of which counted a put after `moment`.
pub record AreRated (moment count : ℕ) (ws : List WindowValue) : Type 0 where
  pub as_many : length ws ≡ count
  pub counted : AllByRecursion (IsCounted moment) ws

-- The setting and the windows are what the journal says of stream `s`, and only the first `count` shards have puts.
pub record ShowsRates (log : Journal) (s : ℕ) (is_on : Bool) (count : ℕ) (ws : List WindowValue) : Type 0 where
  pub enforced_is : is_enforced log s ≡ is_on
  pub stand : StandFor (puts log s) 0 ws
  pub none_beyond : (sh : ℕ) → count ≤ sh → puts log s sh ≡ []
