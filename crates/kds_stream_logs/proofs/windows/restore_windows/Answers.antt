use Rattle.std.proofs.Common.{List, sym, ap, ◌∙◌, length, ◌≤◌, arith}
use Rattle.std.specs.Prelude.{slice_set}
use Rattle.kds_stream_logs.specs.declared.windows.SavedWindow.{SavedWindow}
use Rattle.kds_stream_logs.specs.Saved.{restored}
use Rattle.kds_stream_logs.proofs.SavedWindows.{restored_more, set_outside}
use Rattle.kds_stream_logs.proofs.windows.restore_windows.Goals as goal

pub loop-last-preserved-then-i-windows : goal.loop-last-preserved-then-i-windows
loop-last-preserved-then-i-windows c =
    let ws = c.loop-last.windows in
    let left = c.pop.new.self.items in
    ap (restored left) (ap (λ (s : SavedWindow). slice_set ws s.shard s.window) c.last.view_is)
    ∙ sym (restored_more left c.in-Some.last ws)
    ∙ sym (ap (λ (ss : List SavedWindow). restored ss ws) c.in-Some.ensures.items)
    ∙ c.loop-last.invariant

pub loop-last-preserved : goal.loop-last-preserved
loop-last-preserved c =
    let ws = c.loop-last.windows in
    let left = c.pop.new.self.items in
    let s = c.in-Some.last in
    let over : length ws ≤ s.shard =
    omega (arith, c.if-i-windows.false, ap (λ (t : SavedWindow). t.shard) c.last.view_is) in
    ap (restored left) (sym (set_outside ws s.shard s.window over))
    ∙ sym (restored_more left s ws)
    ∙ sym (ap (λ (ss : List SavedWindow). restored ss ws) c.in-Some.ensures.items)
    ∙ c.loop-last.invariant
