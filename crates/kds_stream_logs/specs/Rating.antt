-- For which puts the windows of shards stand (Kinesis Data Streams Developer Guide, Quotas and Limits).
use Rattle.std.specs.Prelude.{ℕ, ◌≡◌, ◌+◌, ◌≤◌, ◌==◌, if◌then◌else◌, List, [], ◌∷◌}
use Rattle.kds_defs.specs.Rates.{SizedPut}
use Rattle.kds_rate.specs.Windows.{StandsFor, WindowValue}

-- The latest put that the window counted is no later than `moment`.
abbrev pub IsCounted : (moment : ℕ) (w : WindowValue) → Type 0
IsCounted moment w = w.latest ≤ moment

-- A window that never counted a put.
pub record IsUnused (w : WindowValue) : Type 0 where
  pub none : StandsFor w []
  pub never : w.latest ≡ 0

-- The windows stand for the puts of successive shards, from shard `n` on.
abbrev pub StandFor : (f : ℕ → List SizedPut) (n : ℕ) (ws : List WindowValue) → Type 0
StandFor f n [] = Unit {0}
StandFor f n (w ∷ ws) = StandsFor w (f n) × StandFor f (n + 1) ws

-- The statement is true of any puts of the shards, from shard 0 on, for which the windows stand.
abbrev pub ForPutsOf : (ws : List WindowValue) (holds : (ℕ → List SizedPut) → Type 0) → Type 0
ForPutsOf ws holds = (f : ℕ → List SizedPut) → StandFor f 0 ws → holds f

-- The puts of each shard, newest first, after `p` in shard `sh`.
abbrev pub with_put : (sh : ℕ) (p : SizedPut) (f : ℕ → List SizedPut) (n : ℕ) → List SizedPut
with_put sh p f n = if sh == n then p ∷ f n else f n
