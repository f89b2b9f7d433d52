-- While a hand-off runs, the actor's turns stay the answered commands of the worker's joint trace.
use Rattle.std.proofs.Common.{◌≡◌, ℕ, zero, suc, List, [], ◌∷◌, ◌++◌, length, Option, Some, None, refl, sym, ap, subst}
use Rattle.std.proofs.Common.{◌∙◌}
use Rattle.std.specs.Prelude.{IsSome, if◌then◌else◌, map}
use Rattle.kds_base.specs.declared.lease_key.ShardRef.{ShardRef}
use Rattle.kds_base.proofs.Facts.{is_itself}
use Rattle.kds_defs.specs.declared.command.Command.{Command}
use Rattle.kds_defs.specs.declared.command.Turn.{Turn}
use Rattle.kds_defs.specs.Histories.{answer}
use Rattle.kcl_defs.specs.declared.consumer.Due.{Due}
use Rattle.kcl_defs.specs.declared.consumer.WorkerMade.{WorkerMade}
use Rattle.kcl_defs.specs.Lives.{deals_of}
use Rattle.kcl_defs.specs.Workers.{Release, Released, WorkerState, released, without_release}
use Rattle.kcl_hand.proofs.Running.{command_last, deals_with_hand, hands_with}
use Rattle.kcl_hand.specs.Handing.{HandPast, Hand_answered, hand_command, hand_due}
use Rattle.kcl_hand.specs.Joints.{AreOrderly, AreToldIn, HandOff, JointPast, Of_hand, command_in, hand_of, hands_after}
use Rattle.kcl_hand.specs.Joints.{state_of, worker_in, worker_past}
use Rattle.kcl_hand.specs.Runs.{HandRun, answered_by, called_if, called_up, or_stop, run_hand, turn_of, with_first}
use Rattle.kcl_hand.specs.Runs.{with_hand}

-- ---- A command, and what comes after it

-- The run of a hand-off whose due call was made: the command `o`, then at most `n` more; None runs nothing.
abbrev pub rounds : ℕ → ℕ → ℕ → List Turn → HandOff → Option Command → HandRun
rounds n moment actor h x o =
    or_stop o (record { history = h; hand = x; deals = [] })
    (λ command. with_first h command moment actor
    (run_hand n moment actor (turn_of moment actor command ∷ h) (answered_by moment actor h x command)))

-- The run of a hand-off whose due call was made: its next command, if any, then at most `n` more.
abbrev pub round : ℕ → ℕ → ℕ → List Turn → HandOff → HandRun
round n moment actor h x = rounds n moment actor h x (hand_command x.held x.made (state_of x))

-- ---- The worker's own record

hands_apart : (n : ℕ) (events : HandPast) (past : JointPast)
    → worker_past (map (Of_hand n) events ++ past) ≡ worker_past past
hands_apart n [] past = refl
hands_apart n (event ∷ events) past = hands_apart n events past

-- In the worker's own trace a hand-off is only the release that begins it.
pub worker_past_hand : (key : ShardRef) (events : HandPast) (made : WorkerMade) (past : JointPast)
    → worker_past (with_hand key events made past) ≡ Released key ∷ worker_past past
worker_past_hand key events made past = hands_apart (length (hands_after made past)) events _

pub released_free : (o : Option Release) (w : WorkerState) → w.waiting ≡ None → (without_release o w).waiting ≡ None
released_free None w h = h
released_free (Some r) w h = h

-- ---- The record with the hand-off

-- The joint trace with this hand-off is orderly, and its answered commands are the actor's turns in `h`.
pub record IsTellingHand (actor : ℕ) (h : List Turn) (key : ShardRef) (made : WorkerMade) (past : JointPast)
    (events : HandPast) : Type 0 where
  pub orderly : AreOrderly made (with_hand key events made past)
  pub told : AreToldIn actor h made (with_hand key events made past)

module _ (moment actor : ℕ) (key : ShardRef) (made : WorkerMade) (past : JointPast) (r : Release)
    (which : released key (worker_in made past) ≡ Some r) where
  answered_tells : (h : List Turn) (events : HandPast) (command : Command)
      → hand_command r.held r.known.made (state_of (hand_of r events)) ≡ Some command
      → IsTellingHand actor h key made past events
      → IsTellingHand actor (turn_of moment actor command ∷ h) key made past
      (Hand_answered (answer h (turn_of moment actor command)) ∷ events)
  answered_tells h events command is t =
      let a = answer h (turn_of moment actor command) in
      let own : deals_of actor (turn_of moment actor command ∷ h) ≡ record { what = command; answer = a }
      ∷ deals_of actor h =
      ap (λ b. if b then record { what = command; answer = a } ∷ deals_of actor h else deals_of actor h)
      (is_itself actor) in
      let next : command_in (length (hands_after made past)) (hands_after made (with_hand key events made past))
      ≡ Some command =
      ap (command_in (length (hands_after made past))) (hands_with key made past r which events)
      ∙ command_last (hands_after made past) (hand_of r events) ∙ is in
      record {
        orderly = (subst IsSome (sym next) refl, t.orderly);
        told = own ∙ ap (λ deals. record { what = command; answer = a } ∷ deals) t.told
            ∙ sym (deals_with_hand key made past r which events command a is);
      }

  called_tells : (h : List Turn) (events : HandPast) (o : Option Due) → IsTellingHand actor h key made past events
      → IsTellingHand actor h key made past (called_if o (hand_of r events)).since
  called_tells h events None t = t
  called_tells h events (Some due) t = record { orderly = (tt, t.orderly); told = t.told }

  called_hand : (events : HandPast) (o : Option Due)
      → called_if o (hand_of r events) ≡ hand_of r (called_if o (hand_of r events)).since
  called_hand events None = refl
  called_hand events (Some due) = refl

  Tells : HandRun → Type 0
  Tells run = IsTellingHand actor run.history key made past run.hand.since

  round_tells : (n : ℕ) (h : List Turn) (events : HandPast) (o : Option Command)
      → hand_command r.held r.known.made (state_of (hand_of r events)) ≡ o
      → IsTellingHand actor h key made past events
      → ((k : List Turn) (later : HandPast) → IsTellingHand actor k key made past later
      → Tells (run_hand n moment actor k (hand_of r later)))
      → Tells (rounds n moment actor h (hand_of r events) o)
  unfolding Tells
  round_tells n h events None is t rest = t
  round_tells n h events (Some command) is t rest =
      rest (turn_of moment actor command ∷ h) (Hand_answered (answer h (turn_of moment actor command)) ∷ events)
      (answered_tells h events command is t)

  runs_tell : (n : ℕ) (h : List Turn) (events : HandPast) → IsTellingHand actor h key made past events
      → Tells (run_hand n moment actor h (hand_of r events))
  unfolding Tells
  runs_tell zero h events t = called_tells h events (hand_due r.known.made (state_of (hand_of r events))) t
  runs_tell (suc n) h events t =
      let o = hand_due r.known.made (state_of (hand_of r events)) in
      subst (λ y. Tells (round n moment actor h y)) (sym (called_hand events o))
      (round_tells n h (called_if o (hand_of r events)).since _ refl (called_tells h events o t)
      (λ k later s. runs_tell n k later s))

  -- The actor's turns stay the joint trace's answered commands until the hand-off has run to its end.
  pub run_tells : (h : List Turn) → IsTellingHand actor h key made past []
      → IsTellingHand actor (run_hand 3 moment actor h (hand_of r [])).history key made past
      (run_hand 3 moment actor h (hand_of r [])).hand.since
  unfolding Tells
  run_tells h t = runs_tell 3 h [] t

-- ---- Turns of another actor

not_by : (n moment actor other : ℕ) (h : List Turn) (x : HandOff) (o : Option Command)
    → ((command : Command) → deals_of other (turn_of moment actor command ∷ h) ≡ deals_of other h)
    → ((k : List Turn) (y : HandOff) → deals_of other (run_hand n moment actor k y).history ≡ deals_of other k)
    → deals_of other (rounds n moment actor h x o).history ≡ deals_of other h
not_by n moment actor other h x None one rest = refl
not_by n moment actor other h x (Some command) one rest =
    rest (turn_of moment actor command ∷ h) (answered_by moment actor h x command) ∙ one command

-- A hand-off's run adds no command of `other` if no turn of `actor` does.
pub of_another_run : (n moment actor other : ℕ)
    → ((h : List Turn) (command : Command) → deals_of other (turn_of moment actor command ∷ h) ≡ deals_of other h)
    → (h : List Turn) (x : HandOff) → deals_of other (run_hand n moment actor h x).history ≡ deals_of other h
of_another_run zero moment actor other one h x = refl
of_another_run (suc n) moment actor other one h x =
    not_by n moment actor other h (called_up x)
    (hand_command (called_up x).held (called_up x).made (state_of (called_up x)))
    (one h)
    (λ k y. of_another_run n moment actor other one k y)
