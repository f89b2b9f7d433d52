use Rattle.std.proofs.Common.{◌≡◌, ℕ, List, [], Ok, refl, sym, ap, ◌∙◌}
use Rattle.kds_defs.specs.declared.command.Command.TheVariants as command
use Rattle.kds_defs.specs.declared.reply.Reply.TheVariants as reply
use Rattle.kds_defs.specs.Histories.{answer, answer_of}
use Rattle.kds_defs.specs.Requests.{request_turn}
use Rattle.kds_defs.proofs.Decisions.{passed_if}
use Rattle.test_texts.proofs.scribes.made.Goals as goal

first_made : (moment : ℕ) (name : List ℕ) → answer [] (request_turn moment (command.Create name 1)) ≡ Ok reply.Done
first_made moment name = ap answer_of (passed_if _ _ _ refl ∙ passed_if _ _ _ refl ∙ passed_if _ _ _ refl)

pub note-requires-clause-answered : goal.note-requires-clause-answered
note-requires-clause-answered c =
    ([], (c.new-scribe.ensures, sym (first_made _ _) ∙ ap (answer []) (sym c.request-turn.ensures)))
