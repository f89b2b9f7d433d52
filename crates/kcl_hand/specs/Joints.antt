-- The state of a worker and its hand-offs, one for each released lease, from their joint trace.
use Rattle.std.specs.Prelude.{ℕ, zero, suc, ◌≡◌, true, IsSome, List, [], ◌∷◌, ◌++◌, Option, Some, None, Result}
use Rattle.std.specs.List.{AllByRecursion}
use Rattle.kds_defs.specs.declared.command.Command.{Command}
use Rattle.kds_defs.specs.declared.command.Turn.{Turn}
use Rattle.kds_defs.specs.declared.reply.Refusal.{Refusal}
use Rattle.kds_defs.specs.declared.reply.Reply.{Reply}
use Rattle.kcl_defs.specs.declared.consumer.Tenancy.{Tenancy}
use Rattle.kcl_defs.specs.declared.consumer.WorkerMade.{WorkerMade}
use Rattle.kcl_defs.specs.declared.plans.Held.{Held}
use Rattle.kcl_defs.specs.Consumers.{Losing, Past}
use Rattle.kcl_defs.specs.Lives.{Deal, deals_of}
use Rattle.kcl_defs.specs.WorkerLives.{IsServed, IsServedWhole, MayHappen}
use Rattle.kcl_defs.specs.Workers.{Known, Release, Released, WorkerEvent, WorkerPast, WorkerState, deals_with, is_over}
use Rattle.kcl_defs.specs.Workers.{released, worker_after}
use Rattle.kcl_hand.specs.Handing.{HandEvent, HandPast, HandState, Hand_answered, Hand_called, hand_after, hand_command}

-- An event of the worker, or of the hand-off of the n-th released lease, counted from 0.
pub data JointEvent : Type 0 where
  Of_worker : WorkerEvent → JointEvent
  Of_hand : ℕ → HandEvent → JointEvent

-- A joint trace: the events of a worker and its hand-offs, newest first.
abbrev pub JointPast : Type 0
JointPast = List JointEvent

-- A hand-off: its lease, its consumer's trace up to the loss (`before`), and its own events (`since`).
pub record HandOff : Type 0 where
  pub held : Held
  pub made : Tenancy
  pub before : Past
  pub since : HandPast

-- The state of a hand-off after its events.
abbrev pub state_of : (x : HandOff) → HandState
state_of x = hand_after x.held x.made x.before x.since

-- A hand-off's consumer, with its trace after the hand-off's events.
abbrev pub known_in : (x : HandOff) → Known
known_in x = record { made = x.made; past = (state_of x).past }

-- ---- The worker

-- The worker's own events in a joint trace, newest first.
abbrev pub worker_past : (past : JointPast) → WorkerPast
worker_past [] = []
worker_past (Of_worker event ∷ past) = event ∷ worker_past past
worker_past (Of_hand n event ∷ past) = worker_past past

-- The worker's state after a joint trace.
abbrev pub worker_in : (made : WorkerMade) (past : JointPast) → WorkerState
worker_in made past = worker_after made (worker_past past)

-- ---- The hand-offs

-- The hand-off that a release begins, after the events `events`; its consumer has just lost the lease.
abbrev pub hand_of : (r : Release) (events : HandPast) → HandOff
hand_of r events = record { held = r.held; made = r.known.made; before = Losing ∷ r.known.past; since = events }

-- The hand-off that the release begins, as a list of at most one.
abbrev pub begun : (r : Option Release) → List HandOff
begun None = []
begun (Some r) = hand_of r [] ∷ []

-- The hand-off that the event begins, as a list of at most one; only releases begin one.
abbrev pub begun_by : (worker_event : WorkerEvent) (w : WorkerState) → List HandOff
begun_by (Released key) w = begun (released key w)
begun_by _ w = []

-- The hand-offs after an event of the n-th, counted from 0; unchanged if there is none.
abbrev pub with_hand_event : (n : ℕ) (event : HandEvent) (xs : List HandOff) → List HandOff
with_hand_event n event [] = []
with_hand_event zero event (x ∷ xs) = record x { since = event ∷ x.since } ∷ xs
with_hand_event (suc n) event (x ∷ xs) = x ∷ with_hand_event n event xs

-- The worker's hand-offs after a joint trace, in the order of their releases.
abbrev pub hands_after : (made : WorkerMade) (past : JointPast) → List HandOff
hands_after made [] = []
hands_after made (Of_worker event ∷ past) = hands_after made past ++ begun_by event (worker_in made past)
hands_after made (Of_hand n event ∷ past) = with_hand_event n event (hands_after made past)

-- The next command of the n-th hand-off, counted from 0, if any.
abbrev pub command_in : (n : ℕ) (xs : List HandOff) → Option Command
command_in n [] = None
command_in zero (x ∷ xs) = hand_command x.held x.made (state_of x)
command_in (suc n) (x ∷ xs) = command_in n xs

-- ---- The commands of the worker and its hand-offs, in the order in which their answers were taken, the newest first

-- The deals with this command, if any, and its answer as the newest.
abbrev pub answered_deals : (command : Option Command) (answer : Result Reply Refusal) (deals : List Deal) → List Deal
answered_deals None answer deals = deals
answered_deals (Some command) answer deals = record { what = command; answer = answer } ∷ deals

-- The deals after an event of a hand-off with next command `o`, which an answer adds.
abbrev pub hand_deals : (hand_event : HandEvent) (o : Option Command) (deals : List Deal) → List Deal
hand_deals (Hand_called asked) o deals = deals
hand_deals (Hand_answered answer) o deals = answered_deals o answer deals

-- The answered commands of a worker and its hand-offs, newest first.
abbrev pub joint_deals : (made : WorkerMade) (past : JointPast) → List Deal
joint_deals made [] = []
joint_deals made (Of_worker event ∷ past) = deals_with event (worker_in made past) (joint_deals made past)
joint_deals made (Of_hand n event ∷ past) =
    hand_deals event (command_in n (hands_after made past)) (joint_deals made past)

-- ---- What may happen, and when

-- A call may always come, and an answer only if there is a next command.
abbrev pub MayHand : (hand_event : HandEvent) (o : Option Command) → Type 0
MayHand (Hand_called asked) o = Unit {0}
MayHand (Hand_answered answer) o = IsSome o

-- Each event of the joint trace may happen after the older ones.
abbrev pub AreOrderly : (made : WorkerMade) (past : JointPast) → Type 0
AreOrderly made [] = Unit {0}
AreOrderly made (Of_worker event ∷ past) = MayHappen made event (worker_in made past) × AreOrderly made past
AreOrderly made (Of_hand n event ∷ past) = MayHand event (command_in n (hands_after made past)) × AreOrderly made past

-- The actor's turns in a history are the joint trace's commands with its answers.
abbrev pub AreToldIn : (actor : ℕ) (h : List Turn) (made : WorkerMade) (past : JointPast) → Type 0
AreToldIn actor h made past = deals_of actor h ≡ joint_deals made past

-- ---- The calls of the processors

-- The processor was called for its tenure's given reads; once over, each batch handed over is given.
pub record IsHandServed (actor : ℕ) (h : List Turn) (x : HandOff) : Type 0 where
  pub calls : IsServed actor h (known_in x)
  pub whole : is_over (known_in x) ≡ true → IsServedWhole actor h (known_in x)

-- All processors were called for their tenures' given reads; a retired or ended one's batches are all given.
pub record AreAllServed (actor : ℕ) (h : List Turn) (made : WorkerMade) (past : JointPast) : Type 0 where
  pub consumers : AllByRecursion (IsServed actor h) (worker_in made past).consumers
  pub retired : AllByRecursion (IsServedWhole actor h) (worker_in made past).retired
  pub handed : AllByRecursion (IsHandServed actor h) (hands_after made past)
