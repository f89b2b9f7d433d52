-- A hand-off whose commands become turns of a pass, which is one actor's access to the hall.
use Rattle.std.specs.Prelude.{ℕ, ◌≡◌, ◌⊎◌, ◌+◌, ◌^◌, List, [], ◌∷◌, ◌++◌, length, map, Option, IsSome, Some, None}
use Rattle.std.specs.Prelude.{IfErr, Result}
use Rattle.std.specs.List.{AllByRecursion, cons_option}
use Rattle.kds_base.specs.declared.lease_key.ShardRef.{ShardRef}
use Rattle.kds_defs.specs.declared.command.Command.{Command}
use Rattle.kds_defs.specs.declared.command.Turn.{Turn}
use Rattle.kds_defs.specs.declared.reply.Refusal.{Refusal}
use Rattle.kds_defs.specs.declared.reply.Reply.{Reply}
use Rattle.kds_defs.specs.Histories.{answer}
use Rattle.kds_defs.specs.Lawful.{IsHistory}
use Rattle.kcl_defs.specs.declared.consumer.Call.{Call}
use Rattle.kcl_defs.specs.declared.consumer.Tenancy.{Tenancy}
use Rattle.kcl_defs.specs.declared.consumer.WorkerMade.{WorkerMade}
use Rattle.kcl_defs.specs.declared.plans.Held.{Held}
use Rattle.kcl_defs.specs.Consumers.{Losing, Past, calls_after, due_call, with_call}
use Rattle.kcl_defs.specs.Lives.{Deal, deals_of}
use Rattle.kcl_defs.specs.Workers.{Release, Released, WorkerPast, id_of_held, released, worker_after}
use Rattle.kcl_consumer.specs.Standing.{ConsumerValue}
use Rattle.kcl_hand.specs.declared.stand.Left.{Left}
use Rattle.kcl_hand.specs.Handing.{HandPast, HandState, Hand_answered, Hand_called, hand_after, hand_call, hand_command}
use Rattle.kcl_hand.specs.Handing.{hand_due, hand_left, left_at}
use Rattle.kcl_hand.specs.Joints.{AreAllServed, AreOrderly, AreToldIn, JointPast, answered_deals, hands_after}
use Rattle.kcl_hand.specs.Joints.{worker_past}
use Rattle.kcl_hand.specs.Runs.{with_hand}
use Rattle.kcl_hand.specs.Standing.{HandStanding, StandsFor as HandStandsFor}
use Rattle.kcl_hand.specs.Twice.{IsHandedOffIfFreed}
use Rattle.kcl_worker.specs.Standing.{StandsFor, WorkerStanding}
use Rattle.kcl_worker_lists.specs.Changes.{first_of}
use Rattle.kds_turn.specs.declared.pass.TurnErr.{TurnErr}
use Rattle.kds_turn.specs.declared.pass.TurnErr.TheVariants as failed
use Rattle.kds_turn.specs.Known.{Continues}
use Rattle.kds_turn.specs.Passes.{IsSamePass, PassValue}
use Rattle.kcl_live.specs.Records.{OfEachLater}

-- The answered commands of a hand-off, newest first.
abbrev pub hand_commands : (h : Held) (made : Tenancy) (past : Past) (events : HandPast) → List Command
hand_commands h made past [] = []
hand_commands h made past (Hand_called asked ∷ events) = hand_commands h made past events
hand_commands h made past (Hand_answered answer ∷ events) =
    cons_option (hand_command h made (hand_after h made past events)) (hand_commands h made past events)

-- These commands as turns of the actor, all at the same moment.
abbrev pub turns_at : (actor moment : ℕ) (commands : List Command) → List Turn
turns_at actor moment commands = map (λ command. record { by = actor; at = moment; what = command }) commands

-- The calls with the hand-off's processor calls as the newest: each was due before its event.
abbrev pub hand_calls : (h : Held) (made : Tenancy) (past : Past) (events : HandPast) (calls : List Call) → List Call
hand_calls h made past [] calls = calls
hand_calls h made past (Hand_called asked ∷ events) calls =
    with_call (hand_call made (hand_after h made past events)) (hand_calls h made past events calls)
hand_calls h made past (Hand_answered answer ∷ events) calls = hand_calls h made past events calls

-- The answered commands, newest first, of the hand-off that the release begins.
abbrev pub release_commands : (r : Release) (events : HandPast) → List Command
release_commands r events = hand_commands r.held r.known.made (Losing ∷ r.known.past) events

-- The calls with the processor calls of the released lease's hand-off as the newest.
abbrev pub release_calls : (r : Release) (events : HandPast) (calls : List Call) → List Call
release_calls r events calls = hand_calls r.held r.known.made (Losing ∷ r.known.past) events calls

-- The state of the released lease's hand-off after the events `events`.
abbrev pub release_state : (r : Release) (events : HandPast) → HandState
release_state r events = hand_after r.held r.known.made (Losing ∷ r.known.past) events

-- The deals with the hand-off's answered commands and their answers as the newest.
abbrev pub hand_deals : (h : Held) (made : Tenancy) (past : Past) (events : HandPast) (deals : List Deal) → List Deal
hand_deals h made past [] deals = deals
hand_deals h made past (Hand_called asked ∷ events) deals = hand_deals h made past events deals
hand_deals h made past (Hand_answered answer ∷ events) deals =
    answered_deals (hand_command h made (hand_after h made past events)) answer (hand_deals h made past events deals)

-- `a` is the answer to the command as a turn right after `older`, and `later` goes on from this turn.
pub record IsAnsweredAt (actor moment : ℕ) (command : Option Command) (a : Result Reply Refusal)
    (older later : List Turn) :
    Type 0 where
  pub what : Command
  pub which : command ≡ Some what
  pub answered : a ≡ answer older (record { by = actor; at = moment; what = what })
  pub goes_on : Continues later (record { by = actor; at = moment; what = what } ∷ older)

-- The hand-off's answers come from its turns in the later history, perhaps with others' turns between.
abbrev pub AreAnswered : (actor moment : ℕ) (h : Held) (made : Tenancy) (past : Past) (seen : List Turn)
    (events : HandPast)
    (later : List Turn) → Type 0
AreAnswered actor moment h made past seen [] later = Continues later seen
AreAnswered actor moment h made past seen (Hand_called asked ∷ events) later =
    AreAnswered actor moment h made past seen events later
AreAnswered actor moment h made past seen (Hand_answered a ∷ events) later =
    (older : List Turn) × AreAnswered actor moment h made past seen events older
    × IsAnsweredAt actor moment (hand_command h made (hand_after h made past events)) a older later

-- ---- The hand-off alone

-- From the pass `p` and the processor `start` the hand-off came to `x` and `q` by the events `events`:
-- its commands are own turns with its answers, and deals and calls have the hand-off's added.
pub record IsAlong {P : Type 0} (stands : P → List Call → Type 0) (moment : ℕ) (start : P) (x : HandStanding P)
    (p q : PassValue) (past : Past)
    (events : HandPast) : Type 0 where
  pub stood : HandStandsFor stands x past events
  pub own : q.own ≡ turns_at p.by moment (hand_commands x.held x.consumer.made past events) ++ p.own
  pub answered : AreAnswered p.by moment x.held x.consumer.made past p.seen events q.seen
  pub told : (deals : List Deal) → OfEachLater p.by p.seen p.own (λ h. deals_of p.by h ≡ deals)
      → OfEachLater q.by q.seen q.own (λ h. deals_of q.by h ≡ hand_deals x.held x.consumer.made past events deals)
  pub added : (calls : List Call) → stands start calls
      → stands x.consumer.processor (hand_calls x.held x.consumer.made past events calls)

-- Whatever way led to `x` at `q`, some events also lead on to `y` at `r`.
abbrev pub Goes : {P : Type 0} → (stands : P → List Call → Type 0) (moment : ℕ) (x y : HandStanding P) (q r : PassValue)
    →
    Type 0
Goes {P} stands moment x y q r = (start : P) (p : PassValue) (past : Past) (events : HandPast) → p.by ≡ q.by
    → IsAlong stands moment start x p q past events
    → (later : HandPast) × IsAlong stands moment start y p r past later

-- With no call due, the next command became no turn, as the hall's history is full at 2^64 - 1 turns.
pub record HasNoTurn {P : Type 0} (x : HandStanding P) (q : PassValue) (e : TurnErr) : Type 0 where
  pub due : due_call x.consumer.stage ≡ None
  pub going : left_at x.stand ≡ None
  pub error : e ≡ failed.Spent
  pub full : length q.seen + 1 ≡ 2 ^ 64

-- A call ran out of memory and is still due, or the next command became no turn in a full history.
abbrev pub StoodStill : {P : Type 0} → (x : HandStanding P) (q : PassValue) (e : TurnErr) → Type 0
StoodStill x q e = ((e ≡ failed.Memory) × IsSome (due_call x.consumer.stage)) ⊎ HasNoTurn x q e

-- The hand-off went on from `x` to `y`; an error of the result is what kept `y` from going on.
pub record HandSteps {P A : Type 0} (stands : P → List Call → Type 0) (moment : ℕ) (x y : HandStanding P)
    (p q : PassValue)
    (result : Result A TurnErr) : Type 0 where
  pub kept : IsSamePass q p
  pub held : y.held ≡ x.held
  pub made : y.consumer.made ≡ x.consumer.made
  pub seen : Continues q.seen p.seen
  pub goes : Goes stands moment x y p q
  pub still : IfErr result (StoodStill y q)

-- ---- The worker with its hand-offs

-- The joint trace is orderly, and its commands are the actor's turns in each later history without more of them.
pub record TellsJointly (p : PassValue) (made : WorkerMade) (joint : JointPast) : Type 0 where
  pub orderly : AreOrderly made joint
  pub told : OfEachLater p.by p.seen p.own (λ h. AreToldIn p.by h made joint)

-- In later histories without more own turns, calls match given reads, and a hand-off that freed its row gave all.
pub record AreServedJointly (p : PassValue) (made : WorkerMade) (joint : JointPast) : Type 0 where
  pub calls : OfEachLater p.by p.seen p.own (λ h. AreAllServed p.by h made joint)
  pub handed : OfEachLater p.by p.seen p.own (λ h. IsHistory h
      → AllByRecursion (IsHandedOffIfFreed p.by h) (hands_after made joint))

module _ {P F : Type 0} (stands : P → List Call → Type 0) (moment : ℕ) (key : ShardRef) (w v : WorkerStanding P F)
    (p q : PassValue) where
  -- The worker released a lease, and its hand-off's commands are the pass's new own turns.
  pub record HasReleased (past : WorkerPast) : Type 0 where
    pub release : Release
    pub which : released key (worker_after w.made past) ≡ Some release
    pub rest : StandsFor stands v (Released key ∷ past)
    pub since : HandPast
    pub own : q.own ≡ turns_at p.by moment (release_commands release since) ++ p.own
    pub answered : AreAnswered p.by moment release.held release.known.made (Losing ∷ release.known.past)
        p.seen since q.seen
    pub told : (joint : JointPast) → worker_past joint ≡ past → TellsJointly p w.made joint
        → TellsJointly q w.made (with_hand key since w.made joint)
    pub served : (joint : JointPast) → worker_past joint ≡ past → TellsJointly p w.made joint
        → AreServedJointly q w.made (with_hand key since w.made joint)

  -- The hand-off ended as `left`, and `processor` stands for all its consumer's calls.
  pub record HasHandedOff (left : Left) (processor : P) (past : WorkerPast) : Type 0 where
    pub so_far : HasReleased past
    pub ended : hand_left (release_state so_far.release so_far.since) ≡ Some left
    pub calls : stands processor
        (calls_after so_far.release.known.made (release_state so_far.release so_far.since).past)
    pub consumer : ConsumerValue P
    pub whose : first_of (id_of_held so_far.release.held) w.consumers ≡ Some consumer
    pub added : (earlier : List Call) → stands consumer.processor earlier
        → stands processor (release_calls so_far.release so_far.since earlier)

  -- Memory ran out in a call of the hand-off's processor, which is still due.
  pub record HandCallFailed (e : TurnErr) (past : WorkerPast) : Type 0 where
    pub so_far : HasReleased past
    pub error : e ≡ failed.Memory
    pub due : IsSome (hand_due so_far.release.known.made (release_state so_far.release so_far.since))

  -- The hand-off's next command became no turn, as the hall's history is full at 2^64 - 1 turns.
  pub record HandTurnFailed (e : TurnErr) (past : WorkerPast) : Type 0 where
    pub so_far : HasReleased past
    pub error : e ≡ failed.Spent
    pub due : hand_due so_far.release.known.made (release_state so_far.release so_far.since) ≡ None
    pub going : hand_left (release_state so_far.release so_far.since) ≡ None
    pub full : length q.seen + 1 ≡ 2 ^ 64

  -- The hand-off was cut short by the error: no memory for a call, or a full history.
  abbrev pub HandWasCut : (e : TurnErr) (past : WorkerPast) → Type 0
  HandWasCut e past = HandCallFailed e past ⊎ HandTurnFailed e past

  -- The worker has no such lease to release, and nothing changed.
  pub record HasNothing (past : WorkerPast) : Type 0 where
    pub none : released key (worker_after w.made past) ≡ None
    pub worker : v ≡ w
    pub pass : q ≡ p
