-- A hand-off goes on step by step as turns of a pass; at its end the joint trace has the actor's turns.
use Rattle.std.proofs.Common.{◌≡◌, ℕ, List, [], ◌∷◌, ◌++◌, length, Some, refl, sym, ap, ap₂, subst, ◌∙◌, inl, inr}
use Rattle.std.specs.Prelude.{IsSome, Result}
use Rattle.std.specs.List.{AllByRecursion, cons_option}
use Rattle.kds_base.specs.declared.lease_key.ShardRef.{ShardRef}
use Rattle.kds_defs.specs.declared.command.Command.{Command}
use Rattle.kds_defs.specs.declared.command.Turn.{Turn}
use Rattle.kds_defs.specs.declared.reply.Refusal.{Refusal}
use Rattle.kds_defs.specs.declared.reply.Reply.{Reply}
use Rattle.kds_defs.specs.declared.reply.Stored.{Stored}
use Rattle.kds_defs.specs.Lawful.{IsHistory}
use Rattle.kcl_defs.specs.declared.consumer.Ask.{Ask}
use Rattle.kcl_defs.specs.declared.consumer.Call.{Call}
use Rattle.kcl_defs.specs.declared.consumer.Tenancy.{Tenancy}
use Rattle.kcl_defs.specs.declared.consumer.WorkerMade.{WorkerMade}
use Rattle.kcl_defs.specs.declared.plans.Held.{Held}
use Rattle.kcl_defs.specs.Consumers.{Losing, Past, call_at, calls_after, due_call, stage_after, with_call}
use Rattle.kcl_defs.specs.Lives.{Deal, deals_of}
use Rattle.kcl_defs.specs.WorkerLives.{MayHappen}
use Rattle.kcl_defs.specs.Workers.{Release, Released, WorkerPast, id_of_held, released, worker_after}
use Rattle.kcl_consumer.specs.Standing.{ConsumerValue}
use Rattle.kcl_hand.specs.declared.stand.Left.{Left}
use Rattle.kcl_hand.specs.Handing.{HandPast, Hand_answered, Hand_called, command_at, hand_after, hand_command, left_at}
use Rattle.kcl_hand.specs.Joints.{AreAllServed, AreOrderly, AreToldIn, JointPast, answered_deals, command_in, hand_of}
use Rattle.kcl_hand.specs.Joints.{hands_after, joint_deals, state_of, worker_in, worker_past}
use Rattle.kcl_hand.specs.Runs.{with_hand}
use Rattle.kcl_hand.specs.Standing.{AddsDueCall, AddsHandAnswer, AddsHandCall, AddsNothing, BeginsHand, HandStanding}
use Rattle.kcl_hand.specs.Standing.{KeepsCalls, StandsFor as HandStandsFor}
use Rattle.kcl_hand.specs.Twice.{IsHandedOffIfFreed}
use Rattle.kcl_hand.proofs.Running.{command_last, hands_with}
use Rattle.kcl_worker.specs.Adding.{AddsRelease}
use Rattle.kcl_worker.specs.Standing.{StandsFor, WorkerStanding}
use Rattle.kcl_worker_lists.specs.Changes.{first_of}
use Rattle.kds_turn.specs.declared.pass.TurnErr.{TurnErr}
use Rattle.kds_turn.specs.Known.{Continues, turns_by}
use Rattle.kds_turn.specs.Passes.{IsAnswered, PassValue}
use Rattle.kds_turn.proofs.Turns.{continues_same, continues_all}
use Rattle.kcl_live.specs.Hands.{AreAnswered, AreServedJointly, Goes, HandWasCut, HasHandedOff, HasReleased, IsAlong}
use Rattle.kcl_live.specs.Hands.{IsAnsweredAt, StoodStill, TellsJointly}
use Rattle.kcl_live.specs.Hands.{hand_calls, hand_commands, hand_deals, release_calls, release_state, turns_at}
use Rattle.kcl_live.specs.Records.{OfEachLater}
use Rattle.kcl_live.proofs.Histories.{before_own, told_more}

-- ---- Going on

-- Going on is transitive.
pub goes_on : {P : Type 0} (stands : P → List Call → Type 0) (moment : ℕ) (x y z : HandStanding P) (q r s : PassValue)
    → r.by ≡ q.by
    → Goes stands moment x y q r → Goes stands moment y z r s → Goes stands moment x z q s
goes_on stands moment x y z q r s same g f = λ start p past events actor along.
    let one = g start p past events actor along in
    f start p past one.0 (actor ∙ sym same) one.1

-- ---- Answers

answered_later : (actor moment : ℕ) (h : Held) (m : Tenancy) (past : Past) (seen : List Turn) (events : HandPast)
    (older later : List Turn) → Continues later older
    → AreAnswered actor moment h m past seen events older → AreAnswered actor moment h m past seen events later
answered_later actor moment h m past seen [] older later c a = continues_all later older seen c a
answered_later actor moment h m past seen (Hand_called asked ∷ events) older later c a =
    answered_later actor moment h m past seen events older later c a
answered_later actor moment h m past seen (Hand_answered r ∷ events) older later c a =
    let one = a.2 in (
      a.0,
      a.1,
      record {
        what = one.what;
        which = one.which;
        answered = one.answered;
        goes_on = continues_all later older _ c one.goes_on;
      },
    )

answered_of : (actor moment : ℕ) (h g : Held) (m n : Tenancy) (past : Past) (seen : List Turn) (events : HandPast)
    (later : List Turn) → h ≡ g → m ≡ n
    → AreAnswered actor moment h m past seen events later → AreAnswered actor moment g n past seen events later
answered_of actor moment h g m n past seen events later e f a =
    subst (λ k. AreAnswered actor moment g k past seen events later) f
    (subst (λ k. AreAnswered actor moment k m past seen events later) e a)

-- A hand-off that stays as it is goes on, though the pass may have seen newer turns.
pub goes_later : {P : Type 0} (stands : P → List Call → Type 0) (moment : ℕ) (x y : HandStanding P) (q r : PassValue)
    → y ≡ x
    → r.by ≡ q.by → r.own ≡ q.own → Continues r.seen q.seen → Goes stands moment x y q r
goes_later stands moment x y q r is same own seen =
    let P : _ → Type 0 = λ z. Goes stands moment x z q r in
    subst P (sym is) (λ start p past events actor along. (
      events,
      record {
        stood = along.stood;
        own = own ∙ along.own;
        answered = answered_later p.by moment x.held x.consumer.made past p.seen events q.seen r.seen seen
            along.answered;
        told = λ ds f h c alone. ap (λ n. deals_of n h) same
            ∙ along.told ds f h (continues_all h r.seen q.seen c seen) (ap (λ n. turns_by n h) (sym same) ∙ alone
            ∙ own);
        added = along.added;
      },
    ))

-- ---- A call

-- The due call of `x` returned or ran out of memory, and `x` became `y`; the pass `q` is unchanged.
module _ {P : Type 0} (stands : P → List Call → Type 0) (moment : ℕ) (x y : HandStanding P) (q : PassValue)
    (held : y.held ≡ x.held)
    (made : y.consumer.made ≡ x.consumer.made) where
  same_own : (start : P) (p : PassValue) (past : Past) (events : HandPast)
      → IsAlong stands moment start x p q past events
      → q.own ≡ turns_at p.by moment (hand_commands y.held y.consumer.made past events) ++ p.own
  same_own start p past events along =
      along.own ∙ (λ i. turns_at p.by moment (hand_commands (sym held i) (sym made i) past events) ++ p.own)

  same_told : (start : P) (p : PassValue) (past : Past) (events : HandPast)
      → IsAlong stands moment start x p q past events
      → (deals : List Deal) → OfEachLater p.by p.seen p.own (λ h. deals_of p.by h ≡ deals)
      → OfEachLater q.by q.seen q.own (λ h. deals_of q.by h ≡ hand_deals y.held y.consumer.made past events deals)
  same_told start p past events along deals f k c alone =
      along.told deals f k c alone ∙ (λ i. hand_deals (sym held i) (sym made i) past events deals)

  same_answered : (start : P) (p : PassValue) (past : Past) (events : HandPast)
      → IsAlong stands moment start x p q past events
      → AreAnswered p.by moment y.held y.consumer.made past p.seen events q.seen
  same_answered start p past events along =
      answered_of p.by moment x.held y.held x.consumer.made y.consumer.made past p.seen events q.seen (sym held)
      (sym made)
      along.answered

  -- A due call that was made goes on.
  pub goes_called : (asks : P → List Stored → Ask → Type 0) → AddsHandCall stands asks x y → AddsDueCall stands x y
      → Goes stands moment x y q q
  goes_called asks called adds start p past events actor along =
      let h = x.held in
      let m = x.consumer.made in
      let event = Hand_called called.asked in (
        event ∷ events,
        record {
          stood = called.adds past events along.stood;
          own = same_own start p past events along;
          answered = same_answered start p past events along;
          told = same_told start p past events along;
          added = λ calls s.
              let so_far = hand_calls h m past events calls in
              let is : with_call (call_at m x.consumer.stage) so_far
              ≡ hand_calls y.held y.consumer.made past (event ∷ events) calls
              = ap (λ f. with_call (call_at m f) so_far) along.stood.consumer.stage
              ∙ (λ i. hand_calls (sym held i) (sym made i) past (event ∷ events) calls) in
              subst (stands y.consumer.processor) is (adds so_far (along.added calls s));
        },
      )

  -- A due call that ran out of memory goes on, and is still due.
  pub goes_uncalled : AddsNothing stands x y → KeepsCalls stands x y → Goes stands moment x y q q
  goes_uncalled nothing keeps start p past events actor along = (
    events,
    record {
      stood = nothing past events along.stood;
      own = same_own start p past events along;
      answered = same_answered start p past events along;
      told = same_told start p past events along;
      added = λ calls s.
          let so_far = hand_calls x.held x.consumer.made past events calls in
          let is : so_far ≡ hand_calls y.held y.consumer.made past events calls =
          λ i. hand_calls (sym held i) (sym made i) past events calls in
          subst (stands y.consumer.processor) is (keeps so_far (along.added calls s));
    },
  )

-- ---- An answer

-- The next command of `x` became a turn of `q`, now `r`; `x` took the answer and became `y`.
module _ {P : Type 0} (stands : P → List Call → Type 0) (moment : ℕ) (x y : HandStanding P) (q r : PassValue)
    (command : Command) (a : Result Reply Refusal)
    (held : y.held ≡ x.held) (made : y.consumer.made ≡ x.consumer.made)
    (processor : y.consumer.processor ≡ x.consumer.processor)
    (next : Some command ≡ command_at x.held x.consumer.made x.consumer.stage x.stand)
    (adds : AddsHandAnswer stands a x y)
    (same : r.by ≡ q.by)
    (t : IsAnswered (record { by = q.by; at = moment; what = command }) a q r) where
  command_is : (past : Past) (events : HandPast) → HandStandsFor stands x past events
      → Some command ≡ hand_command x.held x.consumer.made (hand_after x.held x.consumer.made past events)
  command_is past events st =
      let s = hand_after x.held x.consumer.made past events in
      next ∙ ap (λ p. command_at x.held x.consumer.made p x.stand) st.consumer.stage
      ∙ ap (command_at x.held x.consumer.made (stage_after x.consumer.made s.past)) st.stand

  pub goes_answered : Goes stands moment x y q r
  goes_answered start p past events actor along =
      let h = x.held in
      let m = x.consumer.made in
      let cs = hand_commands h m past events in
      let turn : Turn = record { by = q.by; at = moment; what = command } in
      let is = command_is past events along.stood in
      let all : turns_by q.by (turn ∷ t.older) ≡ turn ∷ q.own = sym (ap₂ turns_by same t.seen) ∙ t.all_own ∙ t.own in
      let state = hand_after h m past events in
      let here : IsAnsweredAt q.by moment (hand_command h m state) a t.older r.seen
      = record { what = command; which = sym is; answered = t.answered; goes_on = ([], t.seen) } in
      let so_far = answered_later p.by moment h m past p.seen events q.seen t.older t.later along.answered in (
        Hand_answered a ∷ events,
        record {
          stood = adds past events along.stood;
          own = t.own ∙ ap (λ (o : List Turn). turn ∷ o) along.own
              ∙ ap (λ n. record { by = n; at = moment; what = command } ∷ (turns_at p.by moment cs ++ p.own))
              (sym actor)
              ∙ ap (λ o. turns_at p.by moment (cons_option o cs) ++ p.own) is
              ∙ (λ i. turns_at p.by moment (hand_commands (sym held i) (sym made i) past (Hand_answered a ∷ events))
              ++ p.own);
          answered = answered_of p.by moment h y.held m y.consumer.made past p.seen (Hand_answered a ∷ events) r.seen
              (sym held) (sym made) (
                t.older,
                so_far,
                subst (λ n. IsAnsweredAt n moment (hand_command h m state) a t.older r.seen) (sym actor)
                    here,
              );
          told = λ deals f k c alone.
              let g = along.told deals f in
              let ds = hand_deals h m past events deals in
              ap (λ n. deals_of n k) same
              ∙ told_more turn t.older q.own k ds all (subst (Continues k) t.seen c) (ap (λ n. turns_by n k) (sym same)
              ∙ alone ∙ t.own)
              (g t.older t.later (before_own turn t.older q.own all))
              ∙ ap (λ (z : Result Reply Refusal). record { what = command; answer = z } ∷ ds) (sym t.answered)
              ∙ ap (λ o. answered_deals o a ds) is
              ∙ (λ i. hand_deals (sym held i) (sym made i) past (Hand_answered a ∷ events) deals);
          added = λ calls s.
              let is : hand_calls h m past events calls
              ≡ hand_calls y.held y.consumer.made past (Hand_answered a ∷ events) calls
              = λ i. hand_calls (sym held i) (sym made i) past (Hand_answered a ∷ events) calls in
              subst (stands y.consumer.processor) is
              (subst (λ z. stands z (hand_calls h m past events calls)) (sym processor) (along.added calls s));
        },
      )

-- ---- The worker with its hand-off

joint_hand : (key : ShardRef) (made : WorkerMade) (joint : JointPast) (r : Release)
    → released key (worker_in made joint) ≡ Some r → (events : HandPast)
    → joint_deals made (with_hand key events made joint)
    ≡ hand_deals r.held r.known.made (Losing ∷ r.known.past) events (joint_deals made joint)
joint_hand key made joint r which [] = refl
joint_hand key made joint r which (Hand_called asked ∷ events) = joint_hand key made joint r which events
joint_hand key made joint r which (Hand_answered a ∷ events) =
    ap (λ o. answered_deals o a (joint_deals made (with_hand key events made joint)))
    (ap (command_in (length (hands_after made joint))) (hands_with key made joint r which events)
    ∙ command_last (hands_after made joint) (hand_of r events))
    ∙ ap (answered_deals (hand_command r.held r.known.made (state_of (hand_of r events))) a)
    (joint_hand key made joint r which events)

joint_orderly : (key : ShardRef) (made : WorkerMade) (joint : JointPast) (r : Release)
    → released key (worker_in made joint) ≡ Some r
    → MayHappen made (Released key) (worker_in made joint)
    → (actor moment : ℕ) (seen : List Turn) (events : HandPast) (later : List Turn)
    → AreAnswered actor moment r.held r.known.made (Losing ∷ r.known.past) seen events later
    → AreOrderly made joint → AreOrderly made (with_hand key events made joint)
joint_orderly key made joint r which may actor moment seen [] later a orderly = (may, orderly)
joint_orderly key made joint r which may actor moment seen (Hand_called asked ∷ events) later a orderly =
    (tt, joint_orderly key made joint r which may actor moment seen events later a orderly)
joint_orderly key made joint r which may actor moment seen (Hand_answered answered ∷ events) later a orderly = (
  subst IsSome (sym (ap (command_in (length (hands_after made joint))) (hands_with key made joint r which events)
      ∙ command_last (hands_after made joint) (hand_of r events) ∙ a.2.which)) refl,
  joint_orderly key made joint r which may actor moment seen events a.0 a.1 orderly,
)

-- `w` released the lease `h` and became `v`; its hand-off went from `x` at `p` to `y` at `q`. Two laws are assumed.
module _ {P F : Type 0} (stands : P → List Call → Type 0) (moment : ℕ) (key : ShardRef) (w v : WorkerStanding P F)
    (worker : v.made ≡ w.made)
    (p q : PassValue) (h : Held) (c : ConsumerValue P) (x y : HandStanding P) (held : x.held ≡ h)
    (made : x.consumer.made ≡ c.made)
    (processor : x.consumer.processor ≡ c.processor) (begins : BeginsHand stands c x) (same_held : y.held ≡ x.held)
    (same_made : y.consumer.made ≡ x.consumer.made) (gone : Goes stands moment x y p q)
    (adds : AddsRelease stands w v key (h, c))
    (one : first_of (id_of_held h) w.consumers ≡ Some c)
    (service : (actor : ℕ) (t : List Turn) (m : WorkerMade) (joint : JointPast) → AreOrderly m joint
    → AreToldIn actor t m joint → AreAllServed actor t m joint)
    (handed : (actor : ℕ) (t : List Turn) (m : WorkerMade) (joint : JointPast) → IsHistory t → AreOrderly m joint
    → AreToldIn actor t m joint → AllByRecursion (IsHandedOffIfFreed actor t) (hands_after m joint)) where
  served_jointly : (joint : JointPast) → TellsJointly q w.made joint → AreServedJointly q w.made joint
  served_jointly joint tells = record {
    calls = λ t later alone. service q.by t w.made joint tells.orderly (tells.told t later alone);
    handed = λ t later alone lawful. handed q.by t w.made joint lawful tells.orderly (tells.told t later alone);
  }

  -- The release happened with the events so far, and `y` is in the stage to which they lead.
  record Went (past : WorkerPast) : Type 0 where
    so_far : HasReleased stands moment key w v p q past
    stage : y.consumer.stage ≡ stage_after so_far.release.known.made (release_state so_far.release so_far.since).past
    stand : y.stand ≡ (release_state so_far.release so_far.since).stand
    calls : stands y.consumer.processor
        (calls_after so_far.release.known.made (release_state so_far.release so_far.since).past)
    whose : first_of (id_of_held so_far.release.held) w.consumers ≡ Some c
    added : (earlier : List Call) → stands c.processor earlier
        → stands y.consumer.processor (release_calls so_far.release so_far.since earlier)

  went : (past : WorkerPast) → StandsFor stands w past → Went past
  went past st =
      let rel = adds past st in
      let r = rel.release in
      let trace = Losing ∷ r.known.past in
      let start : IsAlong stands moment c.processor x p p trace [] = record {
        stood = begins r.known.past rel.consumer;
        own = refl;
        answered = continues_same p.seen;
        told = λ ds f. f;
        added = λ calls s. subst (λ z. stands z calls) (sym processor) s;
      } in
      let end = gone c.processor p trace [] refl start in
      let events = end.0 in
      let along = end.1 in
      let is_held : y.held ≡ r.held = same_held ∙ held ∙ rel.held in
      let is_made : y.consumer.made ≡ r.known.made = same_made ∙ made ∙ rel.made in
      let answered = answered_of p.by moment y.held r.held y.consumer.made r.known.made trace p.seen events q.seen
      is_held
      is_made along.answered in
      let may : MayHappen w.made (Released key) (worker_after w.made past)
      = subst (λ m. MayHappen m (Released key) (worker_after m past)) worker rel.rest.orderly.0 in
      let in_joint = λ (joint : JointPast) (e : worker_past joint ≡ past).
      ap (λ o. released key (worker_after w.made o)) e ∙ rel.which in
      let tells : (joint : JointPast) → worker_past joint ≡ past → TellsJointly p w.made joint
      → TellsJointly q w.made (with_hand key events w.made joint) = λ joint e trace. record {
        orderly = joint_orderly key w.made joint r (in_joint joint e)
            (subst (λ o. MayHappen w.made (Released key) (worker_after w.made o)) (sym e) may)
            p.by moment p.seen events q.seen answered trace.orderly;
        told = λ k later alone.
            along.told (joint_deals w.made joint) trace.told k later alone
            ∙ (λ i. hand_deals (is_held i) (is_made i) (Losing ∷ r.known.past) events (joint_deals w.made joint))
            ∙ sym (joint_hand key w.made joint r (in_joint joint e) events);
      } in
      record {
        so_far = record {
          release = r;
          which = rel.which;
          rest = rel.rest;
          since = events;
          own = along.own ∙ (λ i. turns_at p.by moment (hand_commands (is_held i) (is_made i) trace events) ++ p.own);
          answered = answered;
          told = tells;
          served = λ joint e trace. served_jointly (with_hand key events w.made joint) (tells joint e trace);
        };
        stage = along.stood.consumer.stage
            ∙ (λ i. stage_after (is_made i) (hand_after (is_held i) (is_made i) trace events).past);
        stand = along.stood.stand ∙ (λ i. (hand_after (is_held i) (is_made i) trace events).stand);
        calls = subst (λ m. stands y.consumer.processor (calls_after m (hand_after r.held m trace events).past)) is_made
            (subst (λ g. stands y.consumer.processor
            (calls_after y.consumer.made (hand_after g y.consumer.made trace events).past)) is_held
            along.stood.consumer.calls);
        whose = ap (λ g. first_of (id_of_held g) w.consumers) (sym rel.held) ∙ one;
        added = λ earlier s.
            let is : hand_calls y.held y.consumer.made trace events earlier
            ≡ hand_calls r.held r.known.made trace events earlier
            = λ i. hand_calls (is_held i) (is_made i) trace events earlier in
            subst (stands y.consumer.processor) is (along.added earlier s);
      }

  pub handed_off : (left : Left) (last : P) → left_at y.stand ≡ Some left → last ≡ y.consumer.processor
      → (past : WorkerPast) → StandsFor stands w past → HasHandedOff stands moment key w v p q left last past
  handed_off left last ended is past st =
      let e = went past st in
      record {
        so_far = e.so_far;
        ended = ap left_at (sym e.stand) ∙ ended;
        calls = subst (λ z. stands z
            (calls_after e.so_far.release.known.made (release_state e.so_far.release e.so_far.since).past)) (sym is)
            e.calls;
        consumer = c;
        whose = e.whose;
        added = λ earlier s. subst (λ z. stands z (release_calls e.so_far.release e.so_far.since earlier)) (sym is)
            (e.added earlier s);
      }

  pub was_cut : (e : TurnErr) → StoodStill y q e → (past : WorkerPast) → StandsFor stands w past
      → HandWasCut stands moment key w v p q e past
  was_cut e (inl still) past st =
      let g = went past st in
      inl (record { so_far = g.so_far; error = still.0; due = subst (λ z. IsSome (due_call z)) g.stage still.1 })
  was_cut e (inr still) past st =
      let g = went past st in
      inr (record {
        so_far = g.so_far;
        error = still.error;
        due = ap due_call (sym g.stage) ∙ still.due;
        going = ap left_at (sym g.stand) ∙ still.going;
        full = still.full;
      })
