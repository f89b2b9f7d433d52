-- The processors of a worker and its hand-offs are called for the given reads of their tenures.
use Rattle.std.proofs.Common.{◌≡◌, ℕ, zero, suc, ◌+◌, ◌≤◌, true, List, [], ◌∷◌, ◌++◌, Option, Some, None, refl, sym}
use Rattle.std.proofs.Common.{subst, ◌∙◌, arith}
use Rattle.std.specs.Prelude.{map}
use Rattle.std.specs.List.{AllByRecursion}
use Rattle.std.proofs.lemmas.List.{map-append}
use Rattle.kds_base.proofs.Facts.{all_append, all_weaker}
use Rattle.kds_defs.specs.declared.command.Command.{Command}
use Rattle.kds_defs.specs.declared.command.Turn.{Turn}
use Rattle.kcl_defs.specs.declared.consumer.WorkerMade.{WorkerMade}
use Rattle.kcl_defs.specs.Consumers.{calls_after}
use Rattle.kcl_defs.specs.Lives.{Deal, deals_of, gives_in, reads_in, IsLifeAmong, IsWholeLife}
use Rattle.kcl_defs.specs.Workers.{Chore, Consuming, Finishing, Known, Pending, Release, Released, WorkerEvent}
use Rattle.kcl_defs.specs.Workers.{Got_answer, WorkerState, after_worker_event}
use Rattle.kcl_defs.specs.Workers.{deals_with, id_of_held, is_over, known_of, leaving, stage_of_known, released}
use Rattle.kcl_defs.specs.Workers.{with_deal}
use Rattle.kcl_defs.proofs.DealLemmas.{new_tenures}
use Rattle.kcl_defs.proofs.GiveLemmas.{AreGivesTaken, gives_taken}
use Rattle.kcl_defs.proofs.RetiredLemmas.{AreUnrefused, IsUnrefused, all_whole, answered_unrefused, called_unrefused}
use Rattle.kcl_defs.proofs.RetiredLemmas.{lost_unrefused, state_unrefused, whole_among}
use Rattle.kcl_defs.proofs.StepLemmas.{life_among}
use Rattle.kcl_defs.proofs.TenancyLemmas.{all_both, all_tenures, of_tenancy}
use Rattle.kcl_defs.proofs.KnownLemmas.{InStep, times, times-append}
use Rattle.kcl_defs.proofs.FineLemmas.{AreGood, AreNewTenures, IsFine, IsOwnCommand, IsWaitingOk}
use Rattle.kcl_defs.proofs.WorkerLemmas.{new_before}
use Rattle.kcl_hand.specs.declared.stand.Stand.{Stand}
use Rattle.kcl_hand.specs.declared.stand.Stand.TheVariants as stand
use Rattle.kcl_hand.specs.Handing.{HandEvent, Hand_answered, Hand_called, answered_at, called_at, command_at}
use Rattle.kcl_hand.specs.Handing.{hand_command}
use Rattle.kcl_hand.specs.Joints.{AreAllServed, AreOrderly, AreToldIn, HandOff, IsHandServed, JointPast, MayHand}
use Rattle.kcl_hand.specs.Joints.{Of_hand, Of_worker, begun, begun_by, command_in, hand_deals, hands_after, joint_deals}
use Rattle.kcl_hand.specs.Joints.{known_in, state_of, with_hand_event, worker_in}
use Rattle.kcl_hand.proofs.Jointly.{JointFine, all_left, all_right, found_all, hand_joint, release_is, worker_joint}
use Rattle.kcl_hand.proofs.Tenancies.{AreAllBegun, IsBegunHand, all_begun}
use Rattle.kcl_hand.proofs.Widened.{wide_consumer, widened}

-- ---- No Give was refused

one_unrefused : (x : HandOff) (event : HandEvent) (o : Option Command) (deals : List Deal)
    → hand_command x.held x.made (state_of x) ≡ o → MayHand event o → AreGivesTaken (hand_deals event o deals)
    → InStep deals (known_in x) → IsUnrefused (known_in x)
    → IsUnrefused (known_in (record x { since = event ∷ x.since }))
one_unrefused x (Hand_called asked) o deals is may taken s u = cases (state_of x).stand
  where
    cases : (st : Stand) → IsUnrefused
        (record { made = x.made; past = (called_at x.held x.made asked (state_of x) st).past })
    cases stand.Consumer = called_unrefused asked (known_in x) u
    cases _ = u
one_unrefused x (Hand_answered answer) None deals is may taken s u = absurd cc
one_unrefused x (Hand_answered answer) (Some command) deals is may taken s u = cases (state_of x).stand is
  where
    cases : (st : Stand) → command_at x.held x.made (stage_of_known (known_in x)) st ≡ Some command
        → IsUnrefused (record { made = x.made; past = (answered_at x.held x.made answer (state_of x) st).past })
    cases stand.Consumer e = answered_unrefused deals (known_in x) x.held.counter command answer e taken.0 s u
    cases _ e = u

hand_unrefused : (n : ℕ) (event : HandEvent) (hands : List HandOff) (deals : List Deal)
    → MayHand event (command_in n hands) → AreGivesTaken (hand_deals event (command_in n hands) deals)
    → AllByRecursion (InStep deals) (map known_in hands) → AllByRecursion IsUnrefused (map known_in hands)
    → AllByRecursion IsUnrefused (map known_in (with_hand_event n event hands))
hand_unrefused n event [] deals may taken s u = tt
hand_unrefused zero event (x ∷ xs) deals may taken s u =
    (one_unrefused x event (hand_command x.held x.made (state_of x)) deals refl may taken s.0 u.0, u.1)
hand_unrefused (suc n) event (x ∷ xs) deals may taken s u = (u.0, hand_unrefused n event xs deals may taken s.1 u.1)

begun_unrefused : (w : WorkerState) (o : Option Release) → ((r : Release) → o ≡ Some r → IsUnrefused r.known)
    → AllByRecursion IsUnrefused (map known_in (begun o))
begun_unrefused w None u = tt
begun_unrefused w (Some r) u = (lost_unrefused r.known (u r refl), tt)

more_unrefused : (w : WorkerState) (event : WorkerEvent) → AreUnrefused w.consumers w.retired
    → AllByRecursion IsUnrefused (map known_in (begun_by event w))
more_unrefused w (Released key) u =
    begun_unrefused w (released key w)
    (λ r e. found_all IsUnrefused (id_of_held r.held) r.known w.consumers (release_is w.consumers (leaving key w) r e)
    u.live)
more_unrefused w _ u = tt

-- ---- The worker alone

narrow : (deals : List Deal) (ks : List Known) (w : WorkerState) → IsFine deals (widened ks w)
    → AreGood deals w.consumers w.retired
narrow deals ks w f = record {
  apart = λ t. less (times t w.consumers) (times t ks) (times t w.retired) (times t (ks ++ w.retired))
      (times-append t ks w.retired) (f.good.apart t);
  begun = λ t n. none (times t w.consumers) (times t ks) (times t w.retired) (times t (ks ++ w.retired))
      (times-append t ks w.retired) (f.good.begun t n);
  live = f.good.live;
  over = all_right (InStep deals) ks w.retired f.good.over;
}
  where
    less : (a b c d : ℕ) → d ≡ b + c → a + d ≤ 1 → a + c ≤ 1
    less a b c d h o = omega arith

    none : (a b c d : ℕ) → d ≡ b + c → a + d ≡ 0 → a + c ≡ 0
    none a b c d h o = omega arith

own_waits : (hands : List HandOff) (w : WorkerState) (o : Option Pending)
    → IsWaitingOk o (widened (map known_in hands) w) → IsWaitingOk o w
own_waits hands w None h = tt
own_waits hands w (Some p) h = own p.chore h
  where
    own : (chore : Chore) → IsOwnCommand chore p.what (widened (map known_in hands) w) → IsOwnCommand chore p.what w
    own (Consuming id) h = sym (wide_consumer (map known_in hands) w (known_of id w.consumers)) ∙ h
    own (Finishing id) h = sym (wide_consumer (map known_in hands) w (known_of id w.consumers)) ∙ h
    own _ h = h

-- ---- The record

-- One consumer for each tenure, traces that agree with the deals, and no refused Give.
pub record JointOk (deals : List Deal) (hands : List HandOff) (w : WorkerState) : Type 0 where
  pub fine : JointFine deals hands w
  pub unrefused : AreUnrefused w.consumers w.retired
  pub handed : AllByRecursion IsUnrefused (map known_in hands)

new_hand : (event : HandEvent) (o : Option Command) (deals : List Deal) → AreNewTenures (hand_deals event o deals)
    → AreNewTenures deals
new_hand (Hand_called asked) o deals h = h
new_hand (Hand_answered answer) None deals h = h
new_hand (Hand_answered answer) (Some command) deals h = h.1

taken_hand : (event : HandEvent) (o : Option Command) (deals : List Deal) → AreGivesTaken (hand_deals event o deals)
    → AreGivesTaken deals
taken_hand (Hand_called asked) o deals h = h
taken_hand (Hand_answered answer) None deals h = h
taken_hand (Hand_answered answer) (Some command) deals h = h.1

taken_worker : (event : WorkerEvent) (w : WorkerState) (deals : List Deal) → AreGivesTaken (deals_with event w deals)
    → AreGivesTaken deals
taken_worker (Got_answer now answer) w deals h = cases w.waiting h
  where
    cases : (o : Option Pending) → AreGivesTaken (with_deal o answer deals) → AreGivesTaken deals
    cases None h = h
    cases (Some p) h = h.1
taken_worker _ w deals h = h

worker_ok : (made : WorkerMade) (event : WorkerEvent) (hands : List HandOff) (w : WorkerState) (deals : List Deal)
    → JointFine (deals_with event w deals) (hands ++ begun_by event w) (after_worker_event made event w)
    → AreGivesTaken (deals_with event w deals) → JointOk deals hands w
    → JointOk (deals_with event w deals) (hands ++ begun_by event w) (after_worker_event made event w)
worker_ok made event hands w deals fine taken ok = record {
  fine = fine;
  unrefused = state_unrefused made event w deals taken (record {
    good = narrow deals (map known_in hands) w ok.fine;
    waits = own_waits hands w w.waiting ok.fine.waits;
  }) ok.unrefused;
  handed = subst (AllByRecursion IsUnrefused) (sym (map-append known_in hands (begun_by event w)))
      (all_append IsUnrefused (map known_in hands) (map known_in (begun_by event w)) ok.handed
      (more_unrefused w event ok.unrefused));
}

hand_ok : (n : ℕ) (event : HandEvent) (hands : List HandOff) (w : WorkerState) (deals : List Deal)
    → MayHand event (command_in n hands) → AreGivesTaken (hand_deals event (command_in n hands) deals)
    → JointOk deals hands w → JointOk (hand_deals event (command_in n hands) deals) (with_hand_event n event hands) w
hand_ok n event hands w deals may taken ok = record {
  fine = hand_joint n event hands w deals may ok.fine;
  unrefused = ok.unrefused;
  handed = hand_unrefused n event hands deals may taken
      (all_left (InStep deals) (map known_in hands) w.retired ok.fine.good.over) ok.handed;
}

pub joint_ok : (made : WorkerMade) (past : JointPast) → AreOrderly made past → AreNewTenures (joint_deals made past)
    → AreGivesTaken (joint_deals made past)
    → JointOk (joint_deals made past) (hands_after made past) (worker_in made past)
joint_ok made [] orderly new taken = record {
  fine = record {
    good = record { apart = λ t. omega arith; begun = λ t n. refl; live = tt; over = tt };
    waits = tt;
  };
  unrefused = record { live = tt; over = tt; ended = tt };
  handed = tt;
}
joint_ok made (Of_worker event ∷ past) orderly new taken =
    let w = worker_in made past in
    let hands = hands_after made past in
    let deals = joint_deals made past in
    let ok = joint_ok made past orderly.1 (new_before event w deals new) (taken_worker event w deals taken) in
    worker_ok made event hands w deals (worker_joint made event hands w deals orderly.0 new ok.fine) taken ok
joint_ok made (Of_hand n event ∷ past) orderly new taken =
    let hands = hands_after made past in
    let deals = joint_deals made past in
    let o = command_in n hands in
    hand_ok n event hands (worker_in made past) deals orderly.0 taken
    (joint_ok made past orderly.1 (new_hand event o deals new) (taken_hand event o deals taken))

-- ---- The calls of the processors

-- The processor's calls fit its tenure's reads and Gives, and once it is over, each batch is given.
abbrev IsHandLife : List Deal → HandOff → Type 0
IsHandLife deals x =
    IsLifeAmong deals x.made (calls_after x.made (state_of x).past)
    × (is_over (known_in x) ≡ true
    → IsWholeLife x.made (reads_in x.made.tenure deals) (gives_in x.made.tenure deals)
    (calls_after x.made (state_of x).past))

hands_live : (deals : List Deal) (hands : List HandOff) → AllByRecursion (InStep deals) (map known_in hands)
    → AllByRecursion IsUnrefused (map known_in hands) → AllByRecursion (IsHandLife deals) hands
hands_live deals [] s u = tt
hands_live deals (x ∷ xs) s u = (
  (life_among deals x.made (state_of x).past s.0, λ over. whole_among deals (known_in x) s.0 u.0 over),
  hands_live deals xs s.1 u.1,
)

-- All processors' calls fit, and each batch of a consumer that is retired or over is given.
pub record AreAllAlive (deals : List Deal) (hands : List HandOff) (w : WorkerState) : Type 0 where
  pub consumers : AllByRecursion (λ k. IsLifeAmong deals k.made (calls_after k.made k.past)) w.consumers
  pub retired : AllByRecursion
      (λ k. IsWholeLife k.made (reads_in k.made.tenure deals) (gives_in k.made.tenure deals)
      (calls_after k.made k.past)) w.retired
  pub handed : AllByRecursion (IsHandLife deals) hands

all_alive : (deals : List Deal) (hands : List HandOff) (w : WorkerState) → JointOk deals hands w
    → AreAllAlive deals hands w
all_alive deals hands w ok = record {
  consumers = all_weaker (InStep deals) _ (λ k s. life_among deals k.made k.past s) w.consumers ok.fine.good.live;
  retired = all_whole deals w.retired (all_right (InStep deals) (map known_in hands) w.retired ok.fine.good.over)
      ok.unrefused.over ok.unrefused.ended;
  handed = hands_live deals hands (all_left (InStep deals) (map known_in hands) w.retired ok.fine.good.over) ok.handed;
}

pub hands_served : (actor : ℕ) (h : List Turn) (hands : List HandOff)
    → AllByRecursion (IsBegunHand (deals_of actor h)) hands
    → AllByRecursion (IsHandLife (deals_of actor h)) hands → AllByRecursion (IsHandServed actor h) hands
hands_served actor h [] begun all = tt
hands_served actor h (x ∷ xs) begun all =
    let t = of_tenancy actor h x.made begun.0 in
    (record { calls = (t, all.0.0); whole = λ over. (t, all.0.1 over) }, hands_served actor h xs begun.1 all.1)

pub all_served : (actor : ℕ) (h : List Turn) (made : WorkerMade) (past : JointPast) → AreOrderly made past
    → AreToldIn actor h made past → AreAllServed actor h made past
all_served actor h made past orderly is_told =
    let w = worker_in made past in
    let hands = hands_after made past in
    let ok = joint_ok made past orderly (subst AreNewTenures is_told (new_tenures actor h))
    (subst AreGivesTaken is_told (gives_taken actor h)) in
    let all = subst (λ deals. AreAllAlive deals hands w) (sym is_told) (all_alive (joint_deals made past) hands w ok) in
    let begun = subst (λ deals. AreAllBegun deals hands w) (sym is_told) (all_begun made past) in
    record {
      consumers = all_both _ _ w.consumers (all_tenures actor h w.consumers begun.worker.live) all.consumers;
      retired = all_both _ _ w.retired (all_tenures actor h w.retired begun.worker.over) all.retired;
      handed = hands_served actor h hands begun.handed all.handed;
    }
