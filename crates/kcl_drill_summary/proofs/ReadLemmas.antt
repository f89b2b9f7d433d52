-- Turns that only read leave the journal as it is, so later commands are answered as without them.
use Rattle.std.proofs.Common.{◌≡◌, ℕ, true, List, [], ◌∷◌, ◌++◌, refl, ap, ◌∙◌, arith}
use Rattle.std.specs.Prelude.{max, Result, Ok, Err, IfOk, OnErr}
use Rattle.kds_defs.specs.declared.command.Command.{Command}
use Rattle.kds_defs.specs.declared.command.Turn.{Turn}
use Rattle.kds_defs.specs.declared.reply.Refusal.{Refusal}
use Rattle.kds_defs.specs.declared.reply.Reply.{Reply}
use Rattle.kds_defs.specs.Histories.{answer, answer_of, clock, decide, journal, lines_of}
use Rattle.kds_defs.specs.Journal.{Journal, Line, with_lines}
use Rattle.kds_defs.proofs.Walk.{Outcome, Refuses, Answers, Adds, Creates, walk}
use Rattle.kcl_drill_summary.specs.Reads.{AreReads, HasRead, is_reading}

none_by : (log : Journal) (c actor : ℕ) (command : Command) (lines : List Line) (answer : Result Reply Refusal)
    → Outcome log c actor command lines answer
    → is_reading command ≡ true → lines ≡ []
none_by log c actor _ _ _ (Refuses command r may) is = refl
none_by log c actor _ _ _ (Answers command r shows) is = refl
none_by log c actor _ _ _ (Adds _ _ _ (Creates name count fits)) is = absurd cc
none_by log c actor _ _ _ _ is = absurd cc

no_lines : (log : Journal) (c actor : ℕ) (command : Command) → is_reading command ≡ true
    → lines_of (decide log c actor command) ≡ []
no_lines log c actor command is = none_by log c actor command _ _ (walk log c actor command) is

clocks : (m c moment now : ℕ) → moment ≡ now → max c now ≡ max m now → max (max c moment) now ≡ max m now
clocks m c moment now is so = omega arith

pub leaves : (actor moment : ℕ) (more h : List Turn) → AreReads actor moment more → (journal (more ++ h) ≡ journal h)
    × (max (clock (more ++ h)) moment ≡ max (clock h) moment)
leaves actor moment [] h are = (refl, refl)
leaves actor moment (turn ∷ more) h are =
    let rest = leaves actor moment more h are.1 in
    let none = no_lines (journal (more ++ h)) (clock (turn ∷ (more ++ h))) turn.by turn.what are.0.2 in (
      ap (λ ls. with_lines ls (journal (more ++ h))) none ∙ rest.0,
      clocks (clock h) (clock (more ++ h)) turn.at moment are.0.1 rest.1,
    )

-- The command `command` as a turn of the actor `actor` at the moment `moment`.
abbrev pub turn_of : ℕ → ℕ → Command → Turn
turn_of actor moment command = record { by = actor; at = moment; what = command }

pub answer_is : (actor moment : ℕ) (more h : List Turn) (command : Command) → AreReads actor moment more
    → answer (more ++ h) (turn_of actor moment command)
    ≡ answer_of (decide (journal h) (max (clock h) moment) actor command)
answer_is actor moment more h command are =
    let l = leaves actor moment more h are in
    ap (λ log. answer_of (decide log (max (clock (more ++ h)) moment) actor command)) l.0
    ∙ ap (λ c. answer_of (decide (journal h) c actor command)) l.1

-- An answer after turns that only read is the answer right after the history `h`.
pub asked : {E : Type 0} (stands : List Turn → Type 0) (stands' : List Turn → Type 0) (actor moment : ℕ) (h : List Turn)
    (command : Command) (r : Result (Result Reply Refusal) E) → (has : HasRead stands actor moment h)
    → IfOk r (λ a. (a ≡ answer (has.more ++ h) (turn_of actor moment command))
    × stands' (turn_of actor moment command ∷ (has.more ++ h)))
    → IfOk r (λ a. a ≡ answer_of (decide (journal h) (max (clock h) moment) actor command))
asked stands stands' actor moment h command (Ok a) has is = is.0 ∙ answer_is actor moment has.more h command has.are
asked stands stands' actor moment h command (Err e) has is = tt

-- One more reading turn keeps `HasRead`, even if memory ran out.
pub has_read : {E : Type 0} (stands : List Turn → Type 0) (stands' : List Turn → Type 0) (actor moment : ℕ)
    (h : List Turn)
    (command : Command) (r : Result (Result Reply Refusal) E) → is_reading command ≡ true
    → (has : HasRead stands actor moment h)
    → IfOk r (λ a. (a ≡ answer (has.more ++ h) (turn_of actor moment command))
    × stands' (turn_of actor moment command ∷ (has.more ++ h)))
    → OnErr r (stands' (has.more ++ h))
    → HasRead stands' actor moment h
has_read stands stands' actor moment h command (Ok a) reads has is kept =
    record { more = turn_of actor moment command ∷ has.more; stands_now = is.1; are = ((refl, refl, reads), has.are) }
has_read stands stands' actor moment h command (Err e) reads has is kept =
    record { more = has.more; stands_now = kept; are = has.are }
