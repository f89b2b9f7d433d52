-- Windows that were saved can be put back.
use Rattle.std.proofs.Common.{◌≡◌, ℕ, zero, suc, List, [], ◌∷◌, ◌++◌, length, ◌≤◌, refl, ap, arith}
use Rattle.std.specs.Prelude.{slice_set}
use Rattle.kds_rate.specs.Windows.{WindowValue}
use Rattle.kds_stream_logs.specs.declared.windows.SavedWindow.{SavedWindow}
use Rattle.kds_stream_logs.specs.Saved.{DiffersAt, restored}

pub set_back : (ws : List WindowValue) (i : ℕ) (u : WindowValue) → DiffersAt i (slice_set ws i u) ws
set_back [] i u w is = refl
set_back (v ∷ ws) zero u w is = ap (λ (x : WindowValue). x ∷ ws) is
set_back (v ∷ ws) (suc i) u w is = ap (λ (us : List WindowValue). v ∷ us) (set_back ws i u w is)

pub set_outside : (ws : List WindowValue) (i : ℕ) (w : WindowValue) → length ws ≤ i → slice_set ws i w ≡ ws
set_outside [] i w h = refl
set_outside (v ∷ ws) zero w h = absurd (omega arith)
set_outside (v ∷ ws) (suc i) w h = ap (λ (us : List WindowValue). v ∷ us) (set_outside ws i w (omega arith))

-- A window that is saved later is put back earlier.
pub restored_more : (saved : List SavedWindow) (s : SavedWindow) (ws : List WindowValue)
    → restored (saved ++ s ∷ []) ws ≡ restored saved (slice_set ws s.shard s.window)
restored_more [] s ws = refl
restored_more (t ∷ saved) s ws =
    ap (λ (us : List WindowValue). slice_set us t.shard t.window) (restored_more saved s ws)
