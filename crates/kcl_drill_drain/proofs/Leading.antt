-- One more turn on leases after the turns that the machine has answered since a history.
use Rattle.std.proofs.Common.{◌≡◌, ℕ, ◌≤◌, max, false, List, [], ◌∷◌, ◌++◌, refl, sym, ap, subst, ◌∙◌, arith}
use Rattle.std.specs.Prelude.{Result, Ok, Err, IfOk, OnErr}
use Rattle.kds_defs.specs.declared.command.Command.{Command}
use Rattle.kds_defs.specs.declared.command.Turn.{Turn}
use Rattle.kds_defs.specs.declared.reply.Refusal.{Refusal}
use Rattle.kds_defs.specs.declared.reply.Reply.{Reply}
use Rattle.kds_defs.specs.Decision.{Decision}
use Rattle.kds_defs.specs.Histories.{answer, answer_of, clock, decide, journal, lines_of}
use Rattle.kds_defs.specs.Journal.{Journal, with_lines}
use Rattle.kds_defs.specs.Kinds.{is_service}
use Rattle.kds_defs.specs.Lawful.{IsLawful}
use Rattle.kcl_drill_laws.specs.Closed.{AreLeased}
use Rattle.kcl_drill_laws.specs.Leasing.{AreOnLeases, HasSameFloors, HasSameStreams}
use Rattle.kcl_drill_drain.specs.Laws.{HasLaws}
use Rattle.kcl_drill_drain.specs.Leased.{HasLeased, Leads, turn_of}

pub own_leases : (actor moment : ℕ) (more : List Turn) → AreLeased actor moment more → AreOnLeases more
own_leases actor moment [] are = tt
own_leases actor moment (turn ∷ more) are = (are.0.2, own_leases actor moment more are.1)

-- ---- The machine has answered turns on leases, whatever came of the last one

-- One more turn on leases keeps `HasLeased`, even if memory ran out.
pub leased_on : {E : Type 0} (stands stands' : List Turn → Type 0) (actor moment : ℕ) (h : List Turn)
    (command : Command)
    (r : Result (Result Reply Refusal) E) → is_service command ≡ false → IsLawful (turn_of actor moment command)
    → (has : HasLeased stands actor moment h)
    → IfOk r (λ a. (a ≡ answer (has.more ++ h) (turn_of actor moment command))
    × stands' (turn_of actor moment command ∷ (has.more ++ h)))
    → OnErr r (stands' (has.more ++ h))
    → HasLeased stands' actor moment h
leased_on stands stands' actor moment h command (Ok a) lease lawful has is kept =
    record {
      more = turn_of actor moment command ∷ has.more;
      stands_now = is.1;
      are = ((refl, refl, lease, lawful), has.are);
    }
leased_on stands stands' actor moment h command (Err e) lease lawful has is kept =
    record { more = has.more; stands_now = kept; are = has.are }

-- ---- What one more turn leads to

-- `a` is the turn's answer after each history that the machine stood for, which now has the turn added.
abbrev pub Answered : (List Turn → Type 0) → (List Turn → Type 0) → Turn → Result Reply Refusal → Type 0
Answered stands stands' turn a = (now : List Turn) → stands now → (a ≡ answer now turn) × stands' (turn ∷ now)

led_from : (stands stands' : List Turn → Type 0) (actor moment : ℕ) (h more : List Turn) (command : Command)
    (a : Result Reply Refusal) (Q : Journal → Type 0) (d : Decision)
    → is_service command ≡ false → IsLawful (turn_of actor moment command)
    → Answered stands stands' (turn_of actor moment command) a
    → stands (more ++ h)
    → AreLeased actor moment more → max (clock (more ++ h)) moment ≡ max (clock h) moment
    → decide (journal (more ++ h)) (max (clock h) moment) actor command ≡ d
    → Q (with_lines (lines_of d) (journal (more ++ h)))
    → (a ≡ answer_of d) × Leads stands' actor moment h Q
led_from stands stands' actor moment h more command a Q d lease lawful answers now are late is so =
    let log = journal (more ++ h) in
    let f = answers (more ++ h) now in
    let so_is : decide log (max (clock (more ++ h)) moment) actor command ≡ d =
    ap (λ c. decide log c actor command) late ∙ is in (
      f.0 ∙ ap answer_of so_is,
      record {
        more = turn_of actor moment command ∷ more;
        stands_now = f.1;
        are = ((refl, refl, lease, lawful), are);
        late = late;
        so = subst (λ e. Q (with_lines (lines_of e) log)) (sym so_is) so;
      },
    )

twice : (n m moment : ℕ) → n ≡ max m moment → max n moment ≡ max m moment
twice n m moment is = omega arith

-- The turn is answered as its decision `d` says, and leads to `Q` if its lines do.
pub led : (stands stands' : List Turn → Type 0) (actor moment : ℕ) (h : List Turn) (command : Command)
    (a : Result Reply Refusal)
    (P Q : Journal → Type 0) (d : Decision)
    → is_service command ≡ false → IsLawful (turn_of actor moment command)
    → Answered stands stands' (turn_of actor moment command) a
    → (l : Leads stands actor moment h P)
    → decide (journal (l.more ++ h)) (max (clock h) moment) actor command ≡ d
    → Q (with_lines (lines_of d) (journal (l.more ++ h)))
    → (a ≡ answer_of d) × Leads stands' actor moment h Q
led stands stands' actor moment h command a P Q d lease lawful answers l is so =
    led_from stands stands' actor moment h l.more command a Q d lease lawful answers l.stands_now l.are
    (twice (clock (l.more ++ h)) (clock h) moment l.late) is so

-- The lemma `led` for the first turn on leases after the history `h`.
pub led_first : (stands stands' : List Turn → Type 0) (actor moment : ℕ) (h : List Turn) (command : Command)
    (a : Result Reply Refusal) (Q : Journal → Type 0) (d : Decision)
    → is_service command ≡ false → IsLawful (turn_of actor moment command)
    → Answered stands stands' (turn_of actor moment command) a
    → stands h
    → decide (journal h) (max (clock h) moment) actor command ≡ d → Q (with_lines (lines_of d) (journal h))
    → (a ≡ answer_of d) × Leads stands' actor moment h Q
led_first stands stands' actor moment h command a Q d lease lawful answers now is so =
    led_from stands stands' actor moment h [] command a Q d lease lawful answers now tt refl is so

-- ---- The streams stay as the history before left them

-- The journal has the same streams as after the history `h`, with the same trim floors at the clock `c`.
pub record IsOver (h : List Turn) (c : ℕ) (log : Journal) : Type 0 where
  pub streams : HasSameStreams log (journal h)
  pub floors : HasSameFloors c log (journal h)

pub over : (stands : List Turn → Type 0) (actor moment : ℕ) (h : List Turn) (P : Journal → Type 0)
    → HasLaws h (max (clock h) moment) → (l : Leads stands actor moment h P)
    → IsOver h (max (clock h) moment) (journal (l.more ++ h))
over stands actor moment h P laws l =
    let own = own_leases actor moment l.more l.are in
    record {
      streams = laws.streams l.more own;
      floors = laws.floors l.more own (le (clock (l.more ++ h)) (max (clock h) moment) l.late);
    }
  where
    le : (n m : ℕ) → n ≡ m → n ≤ m
    le n m is = omega arith

pub so_too : (stands : List Turn → Type 0) (actor moment : ℕ) (h : List Turn) (P Q : Journal → Type 0)
    → (l : Leads stands actor moment h P) → (P (journal (l.more ++ h)) → Q (journal (l.more ++ h)))
    → Leads stands actor moment h Q
so_too stands actor moment h P Q l so =
    record { more = l.more; stands_now = l.stands_now; are = l.are; late = l.late; so = so l.so }
