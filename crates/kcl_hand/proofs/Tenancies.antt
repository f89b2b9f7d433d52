-- Commands of the worker began the tenures of all its consumers and hand-offs.
use Rattle.std.proofs.Common.{◌≡◌, ℕ, zero, suc, List, [], ◌∷◌, ◌++◌, Option, Some, None, refl, sym, subst, inr}
use Rattle.std.specs.Prelude.{Result}
use Rattle.std.specs.List.{AllByRecursion}
use Rattle.std.proofs.lemmas.List.{append-nil}
use Rattle.kds_base.proofs.Facts.{all_weaker}
use Rattle.kds_defs.specs.declared.command.Command.{Command}
use Rattle.kds_defs.specs.declared.reply.Refusal.{Refusal}
use Rattle.kds_defs.specs.declared.reply.Reply.{Reply}
use Rattle.kcl_defs.specs.declared.consumer.WorkerMade.{WorkerMade}
use Rattle.kcl_defs.specs.Lives.{Deal}
use Rattle.kcl_defs.specs.Workers.{Pending, Release, Released, WorkerEvent, Made_call, Gave_command, Got_answer}
use Rattle.kcl_defs.specs.Workers.{Stopped, WorkerState, deals_with, id_of_held, leaving, released, with_deal}
use Rattle.kcl_defs.proofs.TenancyLemmas.{AreBegun, IsBegun, IsBegunIn, state_begun}
use Rattle.kcl_hand.specs.Handing.{HandEvent, Hand_answered, Hand_called}
use Rattle.kcl_hand.specs.Joints.{HandOff, JointPast, Of_hand, Of_worker, begun, begun_by, command_in, hand_deals}
use Rattle.kcl_hand.specs.Joints.{hands_after, joint_deals, with_hand_event, worker_in}
use Rattle.kcl_hand.proofs.Jointly.{found_all, release_is}

-- One of the deals began the hand-off's tenure.
abbrev pub IsBegunHand : List Deal → HandOff → Type 0
IsBegunHand deals x = IsBegunIn deals x.made

-- The deals began the tenures of all consumers, live and retired, and of all hand-offs.
pub record AreAllBegun (deals : List Deal) (hands : List HandOff) (w : WorkerState) : Type 0 where
  pub worker : AreBegun deals w
  pub handed : AllByRecursion (IsBegunHand deals) hands

more_hands : (deal : Deal) (deals : List Deal) (hands : List HandOff) → AllByRecursion (IsBegunHand deals) hands
    → AllByRecursion (IsBegunHand (deal ∷ deals)) hands
more_hands deal deals [] h = tt
more_hands deal deals (x ∷ xs) h = (inr h.0, more_hands deal deals xs h.1)

hands_append : (deals : List Deal) (xs ys : List HandOff) → AllByRecursion (IsBegunHand deals) xs
    → AllByRecursion (IsBegunHand deals) ys → AllByRecursion (IsBegunHand deals) (xs ++ ys)
hands_append deals [] ys h g = g
hands_append deals (x ∷ xs) ys h g = (h.0, hands_append deals xs ys h.1 g)

-- ---- What happens to the worker

with_answer : (o : Option Pending) (answer : Result Reply Refusal) (deals : List Deal) (hands : List HandOff)
    → AllByRecursion (IsBegunHand deals) hands → AllByRecursion (IsBegunHand (with_deal o answer deals)) hands
with_answer None answer deals hands h = h
with_answer (Some p) answer deals hands h = more_hands (record { what = p.what; answer = answer }) deals hands h

release_hand : (deals : List Deal) (o : Option Release) → ((r : Release) → o ≡ Some r → IsBegun deals r.known)
    → AllByRecursion (IsBegunHand deals) (begun o)
release_hand deals None h = tt
release_hand deals (Some r) h = (h r refl, tt)

none_begun : (deals : List Deal) (hands : List HandOff) → AllByRecursion (IsBegunHand deals) hands
    → AllByRecursion (IsBegunHand deals) (hands ++ [])
none_begun deals hands h = subst (AllByRecursion (IsBegunHand deals)) (sym (append-nil hands)) h

worker_hands : (event : WorkerEvent) (w : WorkerState) (deals : List Deal) (hands : List HandOff) → AreBegun deals w
    → AllByRecursion (IsBegunHand deals) hands
    → AllByRecursion (IsBegunHand (deals_with event w deals)) (hands ++ begun_by event w)
worker_hands (Made_call asked) w deals hands b h = none_begun deals hands h
worker_hands (Gave_command now) w deals hands b h = none_begun deals hands h
worker_hands (Got_answer now answer) w deals hands b h =
    none_begun (with_deal w.waiting answer deals) hands (with_answer w.waiting answer deals hands h)
worker_hands Stopped w deals hands b h = none_begun deals hands h
worker_hands (Released key) w deals hands b h =
    hands_append deals hands (begun (released key w)) h
    (release_hand deals (released key w)
    (λ r e. found_all (IsBegun deals) (id_of_held r.held) r.known w.consumers
    (release_is w.consumers (leaving key w) r e) b.live))

-- ---- What happens to a hand-off

hand_event : (n : ℕ) (event : HandEvent) (deals : List Deal) (hands : List HandOff)
    → AllByRecursion (IsBegunHand deals) hands → AllByRecursion (IsBegunHand deals) (with_hand_event n event hands)
hand_event n event deals [] h = tt
hand_event zero event deals (x ∷ xs) h = h
hand_event (suc n) event deals (x ∷ xs) h = (h.0, hand_event n event deals xs h.1)

more_begun : (deal : Deal) (deals : List Deal) (w : WorkerState) → AreBegun deals w → AreBegun (deal ∷ deals) w
more_begun deal deals w b = record {
  live = all_weaker (IsBegun deals) (IsBegun (deal ∷ deals)) (λ k g. inr g) w.consumers b.live;
  over = all_weaker (IsBegun deals) (IsBegun (deal ∷ deals)) (λ k g. inr g) w.retired b.over;
  waits = b.waits;
}

hand_begun : (n : ℕ) (event : HandEvent) (o : Option Command) (deals : List Deal) (hands : List HandOff)
    (w : WorkerState) → AreAllBegun deals hands w
    → AreAllBegun (hand_deals event o deals) (with_hand_event n event hands) w
hand_begun n (Hand_called asked) o deals hands w b =
    record { worker = b.worker; handed = hand_event n (Hand_called asked) deals hands b.handed }
hand_begun n (Hand_answered answer) None deals hands w b =
    record { worker = b.worker; handed = hand_event n (Hand_answered answer) deals hands b.handed }
hand_begun n (Hand_answered answer) (Some command) deals hands w b =
    let deal : Deal = record { what = command; answer = answer } in
    record {
      worker = more_begun deal deals w b.worker;
      handed = hand_event n (Hand_answered answer) (deal ∷ deals) hands (more_hands deal deals hands b.handed);
    }

-- ---- The record

pub all_begun : (made : WorkerMade) (past : JointPast)
    → AreAllBegun (joint_deals made past) (hands_after made past) (worker_in made past)
all_begun made [] = record { worker = record { live = tt; over = tt; waits = tt }; handed = tt }
all_begun made (Of_worker event ∷ past) =
    let w = worker_in made past in
    let deals = joint_deals made past in
    let b = all_begun made past in
    record {
      worker = state_begun made event w deals b.worker;
      handed = worker_hands event w deals (hands_after made past) b.worker b.handed;
    }
all_begun made (Of_hand n event ∷ past) =
    hand_begun n event (command_in n (hands_after made past)) (joint_deals made past) (hands_after made past)
    (worker_in made past) (all_begun made past)
