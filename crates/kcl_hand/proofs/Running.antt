-- A hand-off that is run ends after at most three commands.
use Rattle.std.proofs.Common.{◌≡◌, ℕ, zero, suc, ◌≤◌, List, [], ◌∷◌, ◌++◌, length, Option, Some, None, refl, sym, ap}
use Rattle.std.proofs.Common.{subst, ◌∙◌, arith}
use Rattle.std.specs.Prelude.{IsSome, Result}
use Rattle.kds_base.specs.declared.lease_key.ShardRef.{ShardRef}
use Rattle.kds_defs.specs.declared.command.Command.{Command}
use Rattle.kds_defs.specs.declared.command.Turn.{Turn}
use Rattle.kds_defs.specs.declared.reply.Refusal.{Refusal}
use Rattle.kds_defs.specs.declared.reply.Reply.{Reply}
use Rattle.kds_defs.specs.Histories.{answer}
use Rattle.kcl_defs.specs.declared.consumer.Ask.TheVariants as ask
use Rattle.kcl_defs.specs.declared.consumer.Due.{Due}
use Rattle.kcl_defs.specs.declared.consumer.WorkerMade.{WorkerMade}
use Rattle.kcl_defs.specs.Consumers.{Answered, Called, Giving, Leaving, Losing, Over, Stage, due_call, over_at}
use Rattle.kcl_defs.specs.Consumers.{stage_after}
use Rattle.kcl_defs.specs.Lives.{last_given}
use Rattle.kcl_defs.specs.Workers.{Release, released}
use Rattle.kcl_hand.specs.declared.stand.Stand.{Stand}
use Rattle.kcl_hand.specs.declared.stand.Stand.TheVariants as stand
use Rattle.kcl_hand.specs.Handing.{HandEvent, HandPast, HandState, Hand_answered, answered_at, called_at, command_at}
use Rattle.kcl_hand.specs.Handing.{hand_command, hand_due, hand_left, left_at, stand_by}
use Rattle.kcl_hand.specs.Joints.{HandOff, JointPast, answered_deals, begun, command_in, hand_of, hands_after}
use Rattle.kcl_hand.specs.Joints.{joint_deals, state_of, with_hand_event, worker_in}
use Rattle.kcl_hand.specs.Runs.{answered_by, called_if, called_up, hand_run, or_stop, run_hand, turn_of, with_first}
use Rattle.kcl_hand.specs.Runs.{with_hand}
use Rattle.kcl_hand.specs.Standing.{IsGoing, IsLeaving, turns_left}
use Rattle.kcl_hand.proofs.Handings.{answered_few, at_its_consumer, answered_leaves, called_few, called_leaves, few}
use Rattle.kcl_hand.proofs.Handings.{freed_few, freed_goes, goes, lost_leaves, marked_few, marked_goes}

-- ---- The hand-off that began last

pub command_last : (hands : List HandOff) (x : HandOff)
    → command_in (length hands) (hands ++ (x ∷ [])) ≡ hand_command x.held x.made (state_of x)
command_last [] x = refl
command_last (y ∷ ys) x = command_last ys x

pub event_last : (hands : List HandOff) (x : HandOff) (event : HandEvent)
    → with_hand_event (length hands) event (hands ++ (x ∷ [])) ≡ hands ++ (record x { since = event ∷ x.since } ∷ [])
event_last [] x event = refl
event_last (y ∷ ys) x event = ap (λ xs. y ∷ xs) (event_last ys x event)

pub hands_with : (key : ShardRef) (made : WorkerMade) (past : JointPast) (r : Release)
    → released key (worker_in made past) ≡ Some r → (events : HandPast)
    → hands_after made (with_hand key events made past) ≡ hands_after made past ++ (hand_of r events ∷ [])
hands_with key made past r which [] = ap (λ o. hands_after made past ++ begun o) which
hands_with key made past r which (event ∷ events) =
    ap (with_hand_event (length (hands_after made past)) event) (hands_with key made past r which events)
    ∙ event_last (hands_after made past) (hand_of r events) event

pub deals_with_hand : (key : ShardRef) (made : WorkerMade) (past : JointPast) (r : Release)
    → released key (worker_in made past) ≡ Some r
    → (events : HandPast) (command : Command) (answer : Result Reply Refusal)
    → hand_command r.held r.known.made (state_of (hand_of r events)) ≡ Some command
    → joint_deals made (with_hand key (Hand_answered answer ∷ events) made past)
    ≡ record { what = command; answer = answer } ∷ joint_deals made (with_hand key events made past)
deals_with_hand key made past r which events command answer is =
    ap (λ o. answered_deals o answer (joint_deals made (with_hand key events made past)))
    (ap (command_in (length (hands_after made past))) (hands_with key made past r which events)
    ∙ command_last (hands_after made past) (hand_of r events) ∙ is)

-- ---- The hand-off ends

-- The consumer comes first, in a stage after a loss, and at most `n` turns are left.
pub record IsOnWay (s : HandState) (stage : Stage) (n : ℕ) : Type 0 where
  pub going : IsGoing s.stand stage
  pub leaving : IsLeaving stage
  pub few_left : turns_left s.stand stage ≤ n

-- The hand-off has at most `n` turns left before its end.
abbrev OnWay : HandOff → ℕ → Type 0
OnWay x n = IsOnWay (state_of x) (stage_after x.made (state_of x).past) n

Q : HandOff → ℕ → HandState → Type 0
Q x n s = IsOnWay s (stage_after x.made s.past) n × (due_call (stage_after x.made s.past) ≡ None)

called_here : (x : HandOff) (n : ℕ) (s : HandState) → IsOnWay s (stage_after x.made s.past) n
    → IsSome (due_call (stage_after x.made s.past)) → s.stand ≡ stand.Consumer
    → Q x n (called_at x.held x.made ask.None s stand.Consumer)
unfolding Q
called_here x n s w due is_at =
    let past = Called ask.None ∷ s.past in
    let f = called_few x.made ask.None x.held (last_given x.made past) (stage_after x.made s.past) w.leaving due in
    let old : turns_left stand.Consumer (stage_after x.made s.past) ≤ n =
    subst (λ k. turns_left k (stage_after x.made s.past) ≤ n) is_at w.few_left in (
      record {
        going = goes x.held (last_given x.made past) (stage_after x.made past) _ refl;
        leaving = called_leaves x.made ask.None (stage_after x.made s.past) w.leaving;
        few_left = omega (arith, f.1, old);
      },
      f.0,
    )

called_way : (x : HandOff) (n : ℕ) → OnWay x n → (o : Option Due) → hand_due x.made (state_of x) ≡ o
    → OnWay (called_if o x) n × (hand_due x.made (state_of (called_if o x)) ≡ None)
unfolding Q
called_way x n w None e = (w, e)
called_way x n w (Some due) e =
    let is_due : IsSome (due_call (stage_after x.made (state_of x).past)) = subst IsSome (sym e) refl in
    let is_at = at_its_consumer (state_of x).stand (stage_after x.made (state_of x).past) w.going is_due in
    subst (λ k. Q x n (called_at x.held x.made ask.None (state_of x) k)) (sym is_at)
    (called_here x n (state_of x) w is_due is_at)

stops : (x : HandOff) (stage : Stage) (s : Stand) → IsGoing s stage → IsLeaving stage → due_call stage ≡ None
    → command_at x.held x.made stage s ≡ None → IsSome (left_at s)
stops x (Giving reach waiting asked lost) stand.Consumer going l due none = absurd cc
stops x (Leaving why) stand.Consumer going l due none = absurd cc
stops x (Over why) stand.Consumer going l due none = absurd cc
stops x _ stand.Consumer going l due none = absurd l
stops x stage (stand.Mark q) going l due none = absurd cc
stops x stage (stand.Free counter) going l due none = absurd cc
stops x stage (stand.Ended left) going l due none = refl

answered_way : (x : HandOff) (n : ℕ) (s : HandState) (st : Stand) (command : Command) (a : Result Reply Refusal)
    → s.stand ≡ st → IsOnWay s (stage_after x.made s.past) (suc n) → due_call (stage_after x.made s.past) ≡ None
    → command_at x.held x.made (stage_after x.made s.past) st ≡ Some command
    → IsOnWay (answered_at x.held x.made a s st) (stage_after x.made (answered_at x.held x.made a s st).past) n
answered_way x n s stand.Consumer command a is_at w due is =
    let past = Answered a ∷ s.past in
    let stage = stage_after x.made s.past in
    let going : over_at stage ≡ None = subst (λ k. IsGoing k stage) is_at w.going in
    let f = answered_few x.made a x.held (last_given x.made past) stage w.leaving going due in
    let old : turns_left stand.Consumer stage ≤ suc n = subst (λ k. turns_left k stage ≤ suc n) is_at w.few_left in
    record {
      going = goes x.held (last_given x.made past) (stage_after x.made past) _ refl;
      leaving = answered_leaves x.made a stage w.leaving;
      few_left = omega arith;
    }
answered_way x n s (stand.Mark q) command a is_at w due is =
    let stage = stage_after x.made s.past in
    let old : 2 ≤ suc n = subst (λ k. turns_left k stage ≤ suc n) is_at w.few_left in
    record {
      going = marked_goes x.held a stage _ refl (subst (λ k. IsGoing k stage) is_at w.going);
      leaving = w.leaving;
      few_left = omega (arith, marked_few x.held a stage, old);
    }
answered_way x n s (stand.Free counter) command a is_at w due is =
    let stage = stage_after x.made s.past in
    let old : 1 ≤ suc n = subst (λ k. turns_left k stage ≤ suc n) is_at w.few_left in
    record {
      going = freed_goes counter a stage _ refl (subst (λ k. IsGoing k stage) is_at w.going);
      leaving = w.leaving;
      few_left = omega (arith, freed_few counter a stage, old);
    }
answered_way x n s (stand.Ended left) command a is_at w due is = absurd cc

none_left : (s : Stand) (stage : Stage) → turns_left s stage ≤ 0 → IsSome (left_at s)
none_left (stand.Ended left) stage l = refl
none_left stand.Consumer (Giving reach waiting asked lost) l = absurd (omega arith)
none_left _ _ l = absurd (omega arith)

ends_by : (n moment actor : ℕ) (h : List Turn) (x : HandOff) (o : Option Command)
    → hand_command x.held x.made (state_of x) ≡ o
    → OnWay x (suc n) → hand_due x.made (state_of x) ≡ None
    → ((h : List Turn) (y : HandOff) → OnWay y n → IsSome (hand_left (state_of (run_hand n moment actor h y).hand)))
    → IsSome (hand_left (state_of
    (or_stop o (record { history = h; hand = x; deals = [] })
    (λ command. with_first h command moment actor
    (run_hand n moment actor (turn_of moment actor command ∷ h) (answered_by moment actor h x command)))).hand))
ends_by n moment actor h x None is w due rest =
    stops x (stage_after x.made (state_of x).past) (state_of x).stand w.going w.leaving due is
ends_by n moment actor h x (Some command) is w due rest =
    rest (turn_of moment actor command ∷ h) (answered_by moment actor h x command)
    (answered_way x n (state_of x) (state_of x).stand command (answer h (turn_of moment actor command)) refl w due is)

ends : (n moment actor : ℕ) (h : List Turn) (x : HandOff) → OnWay x n
    → IsSome (hand_left (state_of (run_hand n moment actor h x).hand))
ends zero moment actor h x w =
    let c = called_way x 0 w (hand_due x.made (state_of x)) refl in
    none_left (state_of (called_up x)).stand (stage_after (called_up x).made (state_of (called_up x)).past) c.0.few_left
ends (suc n) moment actor h x w =
    let c = called_way x (suc n) w (hand_due x.made (state_of x)) refl in
    ends_by n moment actor h (called_up x) (hand_command (called_up x).held (called_up x).made (state_of (called_up x)))
    refl c.0 (due_none x (hand_due x.made (state_of x)) c.1) (λ k y v. ends n moment actor k y v)
  where
    due_none : (x : HandOff) (o : Option Due) → hand_due x.made (state_of (called_if o x)) ≡ None
        → hand_due (called_if o x).made (state_of (called_if o x)) ≡ None
    due_none x None e = e
    due_none x (Some due) e = e

pub all_end : (moment actor : ℕ) (h : List Turn) (r : Release)
    → IsSome (hand_left (state_of (hand_run moment actor h (hand_of r [])).hand))
all_end moment actor h r =
    let past = Losing ∷ r.known.past in
    let made = r.known.made in
    ends 3 moment actor h (hand_of r []) (record {
      going = goes r.held (last_given made past) (stage_after made past) _ refl;
      leaving = lost_leaves (stage_after made r.known.past);
      few_left = few (stand_by r.held (last_given made past) (over_at (stage_after made past))) (stage_after made past);
    })
