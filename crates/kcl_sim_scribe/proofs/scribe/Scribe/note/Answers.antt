use Rattle.std.proofs.Common.{◌≡◌, ◌∷◌, rules, sym, ap, subst, ◌∙◌}
use Rattle.kds_defs.specs.Histories.{clock, journal}
use Rattle.kcl_sim_scribe.specs.Telling.{told_after, told_lines}
use Rattle.kcl_sim_scribe.specs.Known.{Knows, ScribeValue}
use Rattle.kcl_sim_scribe.specs.contracts.scribe.Scribe.{the_view}
use Rattle.kcl_sim_scribe.proofs.Noting.{accepted, refused, stands_at}
use Rattle.kcl_sim_scribe.proofs.scribe.Scribe.note.Goals.{in-Ok+in_ok-lines-in-Ok, in-Err}
use Rattle.kcl_sim_scribe.proofs.scribe.Scribe.note.Goals as goal

pub note_accepted-requires : goal.note_accepted-requires
note_accepted-requires c =
    (accepted c.args.self.now c.requires.answered.0 c.args.turn.now c.in-Ok.reply c.requires.answered.1.0
    c.requires.lawful (sym c.in-Ok.is ∙ c.requires.answered.1.1)).can

pub returns-clause-lines : goal.returns-clause-lines
returns-clause-lines c = λ h st e.
    let s = c.args.self.now in
    let turn = c.args.turn.now in
    let clk : c.later-clock.result ≡ clock (turn ∷ h) = search (rules, c.later-clock.ensures, st.clock_is) in
    elim c.match-answer.branch [
      | in-Ok+in_ok-lines-in-Ok w ↦
          let n = accepted s h turn w.in-Ok.reply st c.requires.lawful (sym w.in-Ok.is ∙ e) in
          w.lines-is ∙ w.in_ok-lines-in-Ok.ensures.lines ∙ ap (λ k. told_lines s k turn.by turn.what w.in-Ok.reply) clk
          ∙ n.lines_are
      | in-Err w ↦ w.lines-is ∙ w.new-lines.ensures ∙ (refused s h turn _ st (sym w.in-Err.is ∙ e)).0
    ]

pub returns-clause-stands : goal.returns-clause-stands
returns-clause-stands c = λ h st e.
    let s = c.args.self.now in
    let turn = c.args.turn.now in
    let now = the_view c.self-2.inside in
    elim c.match-answer.branch [
      | in-Ok+in_ok-lines-in-Ok w ↦
          let n = accepted s h turn w.in-Ok.reply st c.requires.lawful (sym w.in-Ok.is ∙ e) in
          let is : now ≡ told_after s turn.what w.in-Ok.reply = search rules in
          let knows : Knows (journal (turn ∷ h)) now.made now.streams =
          subst (λ (z : ScribeValue). Knows (journal (turn ∷ h)) z.made z.streams) (sym is) n.knows in
          stands_at s _ h turn st (search rules) knows
      | in-Err w ↦
          let is : now ≡ s = search rules in
          let k = (refused s h turn _ st (sym w.in-Err.is ∙ e)).1 in
          let knows : Knows (journal (turn ∷ h)) now.made now.streams =
          subst (λ (z : ScribeValue). Knows (journal (turn ∷ h)) z.made z.streams) (sym is) k in
          stands_at s _ h turn st (search rules) knows
    ]
