-- Equal stream values show the same journals.
use Rattle.std.proofs.Common.{◌≡◌, sym, subst}
use Rattle.kds_defs.specs.Journal.{Journal}
use Rattle.kds_stream.specs.Showing.{Shows}
use Rattle.kds_stream.specs.Value.{StreamValue}

pub shown_inside : (log : Journal) {u v : StreamValue} → v ≡ u → Shows u log → Shows v log
shown_inside log is shows = subst (λ (w : StreamValue). Shows w log) (sym is) shows
