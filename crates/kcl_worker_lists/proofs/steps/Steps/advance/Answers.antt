use Rattle.std.proofs.Common.{◌∙◌, ap, sym, drop}
use Rattle.std.proofs.lemmas.List.{drop-drop}
use Rattle.kcl_worker_lists.proofs.steps.Steps.advance.Goals as goal

pub returns-then-self-as_slice : goal.returns-then-self-as_slice
returns-then-self-as_slice g c = sym (drop-drop 1 c.self.inside.done c.self.inside.all)
    ∙ ap (λ l. drop 1 l) c.self.view_is
