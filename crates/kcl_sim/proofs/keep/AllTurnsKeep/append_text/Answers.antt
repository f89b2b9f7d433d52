use Rattle.std.proofs.Common.{[], refl, sym}
use Rattle.std.proofs.lemmas.List.{append-nil}
use Rattle.kcl_sim.proofs.keep.AllTurnsKeep.append_text.Goals as goal

pub returns-clause-ok : goal.returns-clause-ok
returns-clause-ok c = λ cleared_at h kept. ([], refl, sym (append-nil c.args.to.now))
