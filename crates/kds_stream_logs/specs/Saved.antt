-- Windows that were saved before a batch was counted are put back.
use Rattle.std.specs.Prelude.{ℕ, ◌≡◌, List, [], ◌∷◌, slice_index_or, slice_set}
use Rattle.kds_rate.specs.Windows.{WindowValue}
use Rattle.kds_stream_logs.specs.declared.windows.SavedWindow.{SavedWindow}

-- The windows with the saved ones put back, the last saved first, so that a shard's first one counts.
abbrev pub restored : (saved : List SavedWindow) (ws : List WindowValue) → List WindowValue
restored [] ws = ws
restored (s ∷ saved) ws = slice_set (restored saved ws) s.shard s.window

-- The windows are the earlier ones, but for the window of shard `sh`.
abbrev pub DiffersAt : (sh : ℕ) (ws old : List WindowValue) → Type 0
DiffersAt sh ws old = (w : WindowValue) → w ≡ slice_index_or old sh w → slice_set ws sh w ≡ old
