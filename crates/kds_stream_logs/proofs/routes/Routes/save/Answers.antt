use Rattle.std.proofs.Common.{◌≡◌, List, ap, ◌∙◌}
use Rattle.std.specs.Prelude.{slice_index_or}
use Rattle.kds_rate.specs.Windows.{WindowValue}
use Rattle.kds_stream_logs.specs.declared.windows.SavedWindow.{SavedWindow}
use Rattle.kds_stream_logs.specs.Saved.{restored}
use Rattle.kds_stream_logs.proofs.SavedWindows.{restored_more}
use Rattle.kds_stream_logs.proofs.routes.Routes.save.Goals as goal

pub returns-clause-saved : goal.returns-clause-saved
returns-clause-saved c ws differs =
    let saved = c.args.self.now.saved.items in
    let w : WindowValue = c.index-windows-shard.result in
    let is : w ≡ slice_index_or c.args.windows.now c.args.shard w =
    c.index-windows-shard.is ∙ ap (λ n. slice_index_or c.args.windows.now n w) c.shard.view_is in
    ap (λ (ss : List SavedWindow). restored ss ws) c.in_ok-push.ensures.items
    ∙ restored_more saved (record { shard = c.args.shard; window = w }) ws
    ∙ ap (restored saved) (differs w is)
