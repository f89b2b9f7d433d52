-- A turn raises the clock, applies the command and settles one stream, as its history says.
use Rattle.std.proofs.Common.{◌≡◌, ℕ, zero, suc, max, List, [], ◌∷◌, length, None, refl, sym, ap, subst, ◌∙◌, arith}
use Rattle.std.specs.Prelude.{Result}
use Rattle.std.specs.Option.{option_map}
use Rattle.kds_defs.specs.declared.command.Turn.{Turn}
use Rattle.kds_defs.specs.declared.reply.Refusal.{Refusal}
use Rattle.kds_defs.specs.declared.reply.Reply.{Reply}
use Rattle.kds_defs.specs.declared.reply.Row.{Row}
use Rattle.kds_defs.specs.Histories.{answer, answer_of, clock as clock_of, decide, journal, lines_of}
use Rattle.kds_defs.specs.Journal.{Journal, with_lines}
use Rattle.kds_service.proofs.Readings.{live_count}
use Rattle.kds_service.specs.Clocks.{next_in_rotation}
use Rattle.kds_service.specs.Shown.{ServiceValue, ShowsAll}
use Rattle.kcl_book.specs.Tenures.{TenureValue, tenure_at}
use Rattle.kcl_leases.proofs.LeaseSteps.{rows_of, stands_of, tenures_of}
use Rattle.kcl_leases.specs.Standing.{kept}
use Rattle.kcl_world.proofs.ServiceLines.{seen}
use Rattle.kcl_world.specs.Standing.{Leads, Stands, StandsFor, next_to_settle_of, world}

no_tenure : (t : ℕ) → option_map kept None ≡ tenure_at [] t
no_tenure zero = refl
no_tenure (suc n) = refl

pub stands_new : (s : ServiceValue) → s.clock ≡ 0 → s.next_to_settle ≡ 0 → ShowsAll s [] → StandsFor (world s [] []) []
stands_new s clock first shows = record {
  clock_is = clock;
  next_to_settle_is = first;
  stands = stands_of (seen s) [] [] [] shows (record {
    keys_are = refl;
    row_is = λ k. refl;
    distinct = tt;
    bounded = λ k e. cc;
  })
      (record { count_is = refl; few = omega arith; tenure_is = no_tenure; given = λ t. tt });
}

pub stands_at : (s s' : ServiceValue) (rs : List Row) (ts : List TenureValue) (log : Journal)
    → Stands (world s rs ts) log → ShowsAll s' log → Stands (world s' rs ts) log
stands_at s s' rs ts log st shows =
    stands_of (seen s') rs ts log shows (rows_of (seen s) rs ts log st) (tenures_of (seen s) rs ts log st)

-- Only settling moves the next stream to settle, by one in rotation.
abbrev pub TakesTurns : ServiceValue → ServiceValue → ServiceValue → ServiceValue → Type 0
TakesTurns s service mid last = (service.next_to_settle ≡ s.next_to_settle)
    × (mid.next_to_settle ≡ service.next_to_settle)
    × (last.next_to_settle ≡ next_in_rotation (length mid.streams) mid.next_to_settle)

-- The services are from before the turn, at its clock, after the command, and after settling.
pub turn_done : (s service mid last : ServiceValue) (rs rs' : List Row) (ts ts' : List TenureValue) (h : List Turn)
    (turn : Turn) (gives : Result Reply Refusal) → StandsFor (world s rs ts) h
    → ShowsAll service (journal h) → service.clock ≡ max s.clock turn.at
    → Leads (world service rs ts) (world mid rs' ts') turn.by turn.what gives → mid.clock ≡ service.clock
    → ((log : Journal) → ShowsAll mid log → ShowsAll last log) → last.clock ≡ mid.clock → TakesTurns s service mid last
    → (gives ≡ answer h turn) × StandsFor (world last rs' ts') (turn ∷ h)
turn_done s service mid last rs rs' ts ts' h turn gives stood shows at_is led mid_is settles last_is turns =
    let c : service.clock ≡ clock_of (turn ∷ h) = at_is ∙ ap (λ n. max n turn.at) stood.clock_is in
    let l = led (journal h) (stands_at s service rs ts (journal h) stood.stands shows) in
    let after = subst (λ n.
    Stands (world mid rs' ts') (with_lines (lines_of (decide (journal h) n turn.by turn.what)) (journal h)))
    c l.1 in (
      l.0 ∙ ap (λ n. answer_of (decide (journal h) n turn.by turn.what)) c,
      record {
        clock_is = last_is ∙ mid_is ∙ c;
        stands = stands_at mid last rs' ts' (journal (turn ∷ h)) after (settles (journal (turn ∷ h)) after.shows);
        next_to_settle_is =
            turns.2 ∙ ap (next_in_rotation (length mid.streams)) (turns.1 ∙ turns.0 ∙ stood.next_to_settle_is)
            ∙ ap (λ n. next_in_rotation n (next_to_settle_of h))
            (sym (live_count mid (journal (turn ∷ h)) after.shows));
      },
    )

pub turn_stands : (s service mid last : ServiceValue) (rs rs' : List Row) (ts ts' : List TenureValue) (turn : Turn)
    (gives : Result Reply Refusal) → ((h : List Turn) × StandsFor (world s rs ts) h)
    → ((log : Journal) → ShowsAll s log → ShowsAll service log) → service.clock ≡ max s.clock turn.at
    → Leads (world service rs ts) (world mid rs' ts') turn.by turn.what gives → mid.clock ≡ service.clock
    → ((log : Journal) → ShowsAll mid log → ShowsAll last log) → last.clock ≡ mid.clock → TakesTurns s service mid last
    → (h : List Turn) × StandsFor (world last rs' ts') h
turn_stands s service mid last rs rs' ts ts' turn gives stood shows at_is led mid_is settles last_is turns = (
  turn ∷ stood.0,
  (turn_done s service mid last rs rs' ts ts' stood.0 turn gives stood.1
      (shows (journal stood.0) stood.1.stands.shows) at_is led mid_is settles last_is turns).1,
)
