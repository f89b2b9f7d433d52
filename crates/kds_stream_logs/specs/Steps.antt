-- The steps of a scaling: merges at a hash key, and splits (Kinesis API Reference, UpdateShardCount).
use Rattle.std.specs.Prelude.{ℕ, ◌≡◌, ◌+◌, ◌-◌, List, [], ◌∷◌, ◌++◌, length}
use Rattle.std.specs.List.{AllByRecursion, filter}
use Rattle.kds_defs.specs.declared.entry.Entry.{Entry}
use Rattle.kds_defs.specs.declared.entry.Entry.TheVariants as entry
use Rattle.kds_defs.specs.declared.scale.ScaleStep.{ScaleStep}
use Rattle.kds_defs.specs.declared.scale.ScaleStep.TheVariants.{Join, Cut}
use Rattle.kds_defs.specs.Scaling.{LeadTo}
use Rattle.kds_defs.specs.ScaleCommands.{starts_among}
use Rattle.kds_defs.specs.Shards.{ShardState, home_among, is_open, merged_shards, split_shards}
use Rattle.kds_rate.specs.Windows.{WindowValue}
use Rattle.kds_stream_logs.specs.Rating.{IsUnused}

-- The number of the first open shard whose range contains the hash key `k`, or 0 if there is none.
abbrev pub home_in : (xs : List ShardState) (k : ℕ) → ℕ
home_in xs k = home_among (filter is_open xs) k

-- The hash keys at which the ranges of open shards start, in rising order.
abbrev pub starts_in : (xs : List ShardState) → List ℕ
starts_in xs = starts_among (filter is_open xs)

-- The shards after a step that draws the number `n`; the new shards begin at `n + 1`.
abbrev pub stepped : (scale_step : ScaleStep) (n c : ℕ) (xs : List ShardState) → List ShardState
stepped (Join b) n c xs =
    merged_shards (home_in xs (b - 1)) (home_in xs b) (record { number = n; clock = c }) (n + 1) xs
stepped (Cut b) n c xs = split_shards (home_in xs b) b (record { number = n; clock = c }) (n + 1) xs

-- The journal entry of a step in stream `s` that draws the sequence number `n`.
abbrev pub entry_in : (s : ℕ) (scale_step : ScaleStep) (n : ℕ) (xs : List ShardState) → Entry
entry_in s (Join b) n xs = entry.Merged s (home_in xs (b - 1)) (home_in xs b) n (length xs)
entry_in s (Cut b) n xs = entry.Split s (home_in xs b) b n (length xs) (length xs + 1)

-- The shards after the steps in order; the steps draw the numbers from `n` on.
abbrev pub scaled : (steps : List ScaleStep) (n c : ℕ) (xs : List ShardState) → List ShardState
scaled [] n c xs = xs
scaled (step ∷ steps) n c xs = scaled steps (n + 1) c (stepped step n c xs)

-- The journal entries of the steps in order; the steps draw the numbers from `n` on.
abbrev pub entries_in : (s : ℕ) (steps : List ScaleStep) (n c : ℕ) (xs : List ShardState) → List Entry
entries_in s [] n c xs = []
entries_in s (step ∷ steps) n c xs = entry_in s step n xs ∷ entries_in s steps (n + 1) c (stepped step n c xs)

-- Each step is possible: a merge where a range starts above 0, a split where no range starts.
abbrev pub MayScale : (steps : List ScaleStep) (xs : List ShardState) → Type 0
MayScale steps xs = (wanted : List ℕ) × LeadTo steps (starts_in xs) wanted

-- The windows `old` followed by `many` windows that never counted a put.
pub record AreMore (many : ℕ) (old new : List WindowValue) : Type 0 where
  pub more : List WindowValue
  pub unused : AllByRecursion IsUnused more
  pub count : length more ≡ many
  pub are : new ≡ old ++ more
