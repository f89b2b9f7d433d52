-- A hand-off that is run command by command does what `hand_run` defines.
use Rattle.std.proofs.Common.{◌≡◌, ℕ, Bool, zero, suc, ◌+◌, ◌-◌, ◌<◌, ◌≤◌, List, [], ◌∷◌, ◌++◌, Some, None, Result}
use Rattle.std.proofs.Common.{refl, sym, ap, subst, ◌∙◌, arith, ◌⊎◌, inl, inr}
use Rattle.std.specs.Prelude.{IsSome}
use Rattle.std.proofs.lemmas.List.{append_assoc, append-nil}
use Rattle.kds_defs.specs.declared.command.Command.{Command}
use Rattle.kds_defs.specs.declared.command.Turn.{Turn}
use Rattle.kds_defs.specs.declared.reply.Refusal.{Refusal}
use Rattle.kds_defs.specs.declared.reply.Reply.{Reply}
use Rattle.kds_defs.specs.Histories.{answer}
use Rattle.kcl_defs.specs.declared.consumer.Tenancy.{Tenancy}
use Rattle.kcl_defs.specs.declared.plans.Held.{Held}
use Rattle.kcl_defs.specs.Consumers.{Giving, Stage, due_call, stage_after}
use Rattle.kcl_defs.specs.Lives.{Deal}
use Rattle.kcl_hand.specs.declared.stand.Stand.{Stand}
use Rattle.kcl_hand.specs.declared.stand.Stand.TheVariants as stand
use Rattle.kcl_hand.specs.Handing.{HandState, Hand_answered, answered_at, command_at, hand_after, hand_command}
use Rattle.kcl_hand.specs.Handing.{hand_due, hand_left, left_at}
use Rattle.kcl_hand.specs.Joints.{HandOff, state_of}
use Rattle.kcl_hand.specs.Runs.{HandRun, answered_by, called_if, called_up, hand_run, run_hand, with_first}
use Rattle.kcl_hand.specs.Standing.{AddsHandAnswer, IsLeaving, StandsFor, turns_left, turns_left_in}
use Rattle.kcl_hand.proofs.Handings.{answered_leaves}
use Rattle.kcl_proc.specs.Stocks.{StandsFor as Calls}
use Rattle.kcl_sim.specs.Hands.{ComesNext, Handing, IsHandOf, MadeRound, RanCommand, RanFirst, RanToEnd, deal_at}
use Rattle.kcl_sim.specs.Keeping.{if_wanted}
use Rattle.kcl_sim.specs.Output.{deal_text, deals_text, left_text, raw_turn, run_text}
use Rattle.kcl_sim.specs.Standing.{SimValue}
use Rattle.kcl_sim.proofs.HandTelling.{round, rounds}
use Rattle.kcl_sim.proofs.Wanting.{joined, none_wanted}

-- ---- A call and a command of a hand-off

pub stage_is : (v : Handing) (x : HandOff) → IsHandOf v x → v.consumer.stage ≡ stage_after x.made (state_of x).past
stage_is v x s = s.stands.consumer.stage
    ∙ (λ i. stage_after (s.made i) (hand_after (s.held i) (s.made i) x.before x.since).past)

pub stand_is : (v : Handing) (x : HandOff) → IsHandOf v x → v.stand ≡ (state_of x).stand
stand_is v x s = s.stands.stand ∙ (λ i. (hand_after (s.held i) (s.made i) x.before x.since).stand)

pub due_is : (v : Handing) (x : HandOff) → IsHandOf v x → due_call v.consumer.stage ≡ hand_due x.made (state_of x)
due_is v x s = ap due_call (stage_is v x s)

pub next_is : (v : Handing) (x : HandOff) → IsHandOf v x → command_at v.held v.consumer.made v.consumer.stage v.stand
    ≡ hand_command x.held x.made (state_of x)
next_is v x s = λ i. command_at (s.held i) (s.made i) (stage_is v x s i) (stand_is v x s i)

answered_leaves_at : (h : Held) (made : Tenancy) (a : Result Reply Refusal) (s : HandState) (st : Stand)
    → IsLeaving (stage_after made s.past)
    → IsLeaving (stage_after made (answered_at h made a s st).past)
answered_leaves_at h made a s stand.Consumer l = answered_leaves made a (stage_after made s.past) l
answered_leaves_at h made a s _ l = l

leaves_so : (w : Handing) (x : HandOff) → w.held ≡ x.held → w.consumer.made ≡ x.made
    → StandsFor Calls w x.before x.since
    → IsLeaving (stage_after x.made (state_of x).past) → IsLeaving w.consumer.stage
leaves_so w x held made s l =
    subst IsLeaving (sym (s.consumer.stage
    ∙ (λ i. stage_after (made i) (hand_after (held i) (made i) x.before x.since).past))) l

hand_on : (w : Handing) (x : HandOff) → w.held ≡ x.held → w.consumer.made ≡ x.made → StandsFor Calls w x.before x.since
    → IsLeaving (stage_after x.made (state_of x).past) → IsHandOf w x
hand_on w x held made s l = record { held = held; made = made; stands = s; leaving = leaves_so w x held made s l }

pub called_none : (x : HandOff) → hand_due x.made (state_of x) ≡ None → called_up x ≡ x
called_none x is = ap (λ o. called_if o x) is

pub answered_on : (moment actor : ℕ) (h : List Turn) (command : Command) (a : Result Reply Refusal) (v w : Handing)
    → w.held ≡ v.held
    → w.consumer.made ≡ v.consumer.made → AddsHandAnswer Calls a v w → a ≡ answer h (raw_turn moment actor command)
    → (x : HandOff) → IsHandOf v x → IsHandOf w (answered_by moment actor h x command)
answered_on moment actor h command a v w held made adds is x s =
    let old : IsLeaving (stage_after x.made (state_of x).past) = subst IsLeaving (stage_is v x s) s.leaving in
    subst (λ z. IsHandOf w (record x { since = Hand_answered z ∷ x.since })) is
    (hand_on w (record x { since = Hand_answered a ∷ x.since }) (held ∙ s.held) (made ∙ s.made)
    (adds x.before x.since s.stands)
    (answered_leaves_at x.held x.made a (state_of x) (state_of x).stand old))

-- ---- The first commands of a hand-off

pub with_deals : List Deal → HandRun → HandRun
with_deals deals r = record r { deals = deals ++ r.deals }

-- After `n` commands with `deals`, the rest of `x`'s run is the run of `y` from the history `k`.
abbrev pub IsRest : ℕ → ℕ → List Turn → HandOff → ℕ → List Deal → List Turn → HandOff → Type 0
IsRest moment actor h x n deals k y =
    (j : ℕ) → run_hand (n + j) moment actor h x ≡ with_deals deals (run_hand j moment actor k y)

run_called : (j moment actor : ℕ) (h : List Turn) (x : HandOff) → hand_due (called_up x).made (state_of (called_up x))
    ≡ None
    → run_hand j moment actor h x ≡ run_hand j moment actor h (called_up x)
run_called zero moment actor h x none =
    ap (λ y. record { history = h; hand = y; deals = [] }) (sym (called_none (called_up x) none))
run_called (suc j) moment actor h x none = ap (round j moment actor h) (sym (called_none (called_up x) none))

rest_begins : (moment actor : ℕ) (h : List Turn) (x : HandOff) → hand_due (called_up x).made (state_of (called_up x))
    ≡ None
    → IsRest moment actor h x 0 [] h (called_up x)
unfolding with_deals
rest_begins moment actor h x none j =
    let same : 0 + j ≡ j = omega arith in
    ap (λ m. run_hand m moment actor h x) same ∙ run_called j moment actor h x none

rest_more : (moment actor : ℕ) (h : List Turn) (x : HandOff) (n : ℕ) (deals : List Deal) (k : List Turn) (y : HandOff)
    (command : Command)
    → IsRest moment actor h x n deals k y → hand_command y.held y.made (state_of y) ≡ Some command
    → hand_due y.made (state_of y) ≡ None
    → hand_due (called_up (answered_by moment actor k y command)).made
    (state_of (called_up (answered_by moment actor k y command)))
    ≡ None
    → IsRest moment actor h x (n + 1) (deals ++ deal_at moment actor k command ∷ []) (raw_turn moment actor command ∷ k)
    (called_up (answered_by moment actor k y command))
unfolding with_deals
rest_more moment actor h x n deals k y command rest next none then_none j =
    let more : n + 1 + j ≡ n + suc j = omega arith in
    let r = run_hand j moment actor (raw_turn moment actor command ∷ k)
    (called_up (answered_by moment actor k y command)) in
    ap (λ m. run_hand m moment actor h x) more ∙ rest (suc j)
    ∙ ap (λ z. with_deals deals (round j moment actor k z)) (called_none y none)
    ∙ ap (λ o. with_deals deals (rounds j moment actor k y o)) next
    ∙ ap (λ z. with_deals deals (with_first k command moment actor z))
    (run_called j moment actor (raw_turn moment actor command ∷ k) (answered_by moment actor k y command) then_none)
    ∙ ap (λ ds. record { history = r.history; hand = r.hand; deals = ds })
    (sym (append_assoc deals (deal_at moment actor k command ∷ []) r.deals))

ends_so : (j moment actor : ℕ) (k : List Turn) (y : HandOff) → hand_command y.held y.made (state_of y) ≡ None
    → hand_due y.made (state_of y) ≡ None
    → run_hand j moment actor k y ≡ record { history = k; hand = y; deals = [] }
ends_so zero moment actor k y ended none = ap (λ z. record { history = k; hand = z; deals = [] }) (called_none y none)
ends_so (suc j) moment actor k y ended none = ap (round j moment actor k) (called_none y none)
    ∙ ap (rounds j moment actor k y) ended

deals_more : (deals : List Deal) (deal : Deal) → deals_text (deals ++ deal ∷ []) ≡ deals_text deals ++ deal_text deal
deals_more [] deal = append-nil (deal_text deal)
deals_more (d ∷ deals) deal = ap (λ z. deal_text d ++ z) (deals_more deals deal)
    ∙ sym (append_assoc (deal_text d) (deals_text deals) (deal_text deal))

-- ---- A hand-off in the middle of its run

-- The hand-off made its first commands and all due calls; with the turns left in `w` they are at most three.
pub record UnderWay (wanted : Bool) (moment actor : ℕ) (old now : SimValue) (v w : Handing) (text : List ℕ) :
    Type 0 where
  pub ran_of_it : ℕ
  pub deals : List Deal
  pub few : ran_of_it + turns_left_in w ≤ 3
  pub wrote : text ≡ if_wanted wanted (deals_text deals)
  pub unfinished : now.unfinished ≡ old.unfinished
  pub workers : now.workers ≡ old.workers
  pub cleared_at : now.cleared_at ≡ old.cleared_at
  pub none_due : due_call w.consumer.stage ≡ None
  pub rest : (x : HandOff) → IsHandOf v x → (y : HandOff) × IsHandOf w y
      × IsRest moment actor old.history x ran_of_it deals now.history y

none_of : (w : Handing) (y : HandOff) → IsHandOf w y → due_call w.consumer.stage ≡ None
    → hand_due y.made (state_of y) ≡ None
none_of w y s none = sym (due_is w y s) ∙ none

-- Before the first command, with the due call made, the hand-off is under way.
pub way_begins : (wanted : Bool) (moment actor : ℕ) (old now : SimValue) (v w : Handing) (text : List ℕ) → now ≡ old
    → text ≡ [] → turns_left_in v ≤ 3
    → turns_left_in w ≤ turns_left_in v → due_call w.consumer.stage ≡ None
    → ((x : HandOff) → IsHandOf v x → IsHandOf w (called_up x)) → UnderWay wanted moment actor old now v w text
way_begins wanted moment actor old now v w text same empty few fewer none called = record {
  ran_of_it = 0;
  deals = [];
  few = omega (arith, few);
  wrote = empty ∙ none_wanted wanted;
  unfinished = ap (λ (z : SimValue). z.unfinished) same;
  workers = ap (λ (z : SimValue). z.workers) same;
  cleared_at = ap (λ (z : SimValue). z.cleared_at) same;
  none_due = none;
  rest = λ x s.
      let here = called x s in (
        called_up x,
        here,
        subst (λ (z : SimValue). IsRest moment actor old.history x 0 [] z.history (called_up x)) (sym same)
            (rest_begins moment actor old.history x (none_of w (called_up x) here none)),
      );
}

pub way_goes : (wanted : Bool) (moment actor : ℕ) (old now new : SimValue) (v w u : Handing) (text more : List ℕ)
    → UnderWay wanted moment actor old now v w text
    → MadeRound wanted moment actor now new w u text more → new.unfinished ≡ now.unfinished → new.workers ≡ now.workers
    → new.cleared_at ≡ now.cleared_at
    → turns_left_in u < turns_left_in w → due_call u.consumer.stage ≡ None
    → UnderWay wanted moment actor old new v u more
way_goes wanted moment actor old now new v w u text more way r unfinished workers cleared_at fewer none = record {
  ran_of_it = way.ran_of_it + 1;
  deals = way.deals ++ deal_at moment actor now.history r.what ∷ [];
  few = omega (arith, way.few, fewer);
  wrote = r.wrote ∙ ap (λ z. z ++ if_wanted wanted (deal_text (deal_at moment actor now.history r.what))) way.wrote
      ∙ joined wanted (deals_text way.deals) (deal_text (deal_at moment actor now.history r.what))
      ∙ ap (if_wanted wanted) (sym (deals_more way.deals (deal_at moment actor now.history r.what)));
  unfinished = unfinished ∙ way.unfinished;
  workers = workers ∙ way.workers;
  cleared_at = cleared_at ∙ way.cleared_at;
  none_due = none;
  rest = λ x s.
      let y = way.rest x s in
      let z = called_up (answered_by moment actor now.history y.0 r.what) in
      let here : IsHandOf u z = r.hand y.0 y.1 in
      let is_on =
      rest_more moment actor old.history x way.ran_of_it way.deals now.history y.0 r.what y.2 (r.next y.0 y.1)
      (none_of w y.0 y.1 way.none_due)
      (none_of u z here none) in (
        z,
        here,
        subst (λ k.
            IsRest moment actor old.history x (way.ran_of_it + 1) (way.deals ++ deal_at moment actor now.history r.what
            ∷ []) k z)
            (sym r.history) is_on,
      );
}

-- ---- The end of a hand-off

ended_quiet : (h : Held) (made : Tenancy) (stage : Stage) (s : Stand) → IsSome (left_at s)
    → command_at h made stage s ≡ None
ended_quiet h made stage (stand.Ended left) over = refl
ended_quiet h made stage _ over = absurd cc

whole_run : (wanted : Bool) (moment actor : ℕ) (old now : SimValue) (v w : Handing) (text : List ℕ)
    (way : UnderWay wanted moment actor old now v w text)
    → IsSome (left_at w.stand)
    → (x : HandOff) (s : IsHandOf v x)
    → hand_run moment actor old.history x ≡ record {
      history = now.history;
      hand = (way.rest x s).0;
      deals = way.deals ++ [];
    }
unfolding with_deals
whole_run wanted moment actor old now v w text way over x s =
    let y = way.rest x s in
    let left : ℕ = 3 - way.ran_of_it in
    let three : 3 ≡ way.ran_of_it + left = omega (arith, way.few) in
    let quiet : hand_command y.0.held y.0.made (state_of y.0) ≡ None =
    sym (next_is w y.0 y.1) ∙ ended_quiet w.held w.consumer.made w.consumer.stage w.stand over in
    ap (λ m. run_hand m moment actor old.history x) three ∙ y.2 left ∙ ap (with_deals way.deals)
    (ends_so left moment actor now.history y.0 quiet (none_of w y.0 y.1 way.none_due))

-- A hand-off that is under way and has ended ran to its end.
pub way_ends : (wanted : Bool) (moment actor : ℕ) (old now new : SimValue) (v w : Handing)
    (text line earlier after : List ℕ)
    → UnderWay wanted moment actor old now v w text
    → IsSome (left_at w.stand) → line ≡ text ++ if_wanted wanted (left_text (left_at w.stand) ++ 10 ∷ [])
    → after ≡ earlier ++ line → new ≡ now → RanToEnd wanted moment actor old new v earlier after
way_ends wanted moment actor old now new v w text line earlier after way over line_is wrote same = record {
  history = λ x s. ap (λ (z : SimValue). z.history) same
      ∙ ap (λ r. r.history) (sym (whole_run wanted moment actor old now v w text way over x s));
  wrote = λ x s.
      let y = way.rest x s in
      let left : left_at w.stand ≡ hand_left (state_of y.0) = ap left_at (stand_is w y.0 y.1) in
      let ends : List ℕ = deals_text (way.deals ++ []) in
      wrote ∙ ap (λ z. earlier ++ z) (line_is ∙ ap (λ z. z ++ if_wanted wanted (left_text (left_at w.stand) ++ 10 ∷ []))
      (way.wrote ∙ ap (λ ds. if_wanted wanted (deals_text ds)) (sym (append-nil way.deals)))
      ∙ ap (λ o. if_wanted wanted ends ++ if_wanted wanted (left_text o ++ 10 ∷ [])) left
      ∙ joined wanted ends (left_text (hand_left (state_of y.0)) ++ 10 ∷ [])
      ∙ ap (λ r. if_wanted wanted (run_text r)) (sym (whole_run wanted moment actor old now v w text way over x s)));
}

-- ---- Out of memory

pub broke_between : (wanted : Bool) (moment actor : ℕ) (old now new : SimValue) (v w : Handing) (text : List ℕ)
    → UnderWay wanted moment actor old now v w text
    → new.history ≡ now.history
    → RanFirst moment actor old new v
unfolding with_deals
broke_between wanted moment actor old now new v w text way same = record {
  ran_of_it = way.ran_of_it;
  few = omega (arith, way.few);
  history = λ x s.
      let y = way.rest x s in
      let none : way.ran_of_it ≡ way.ran_of_it + 0 = omega arith in
      same ∙ ap (λ r. r.history) (sym (y.2 0)) ∙ ap (λ m. (run_hand m moment actor old.history x).history) (sym none);
}

one_left : (s : Stand) (stage : Stage) → left_at s ≡ None → 1 ≤ turns_left s stage
one_left (stand.Ended left) stage going = absurd cc
one_left stand.Consumer (Giving reach waiting asked lost) going = omega arith
one_left _ _ going = omega arith

pub broke_after : (wanted : Bool) (moment actor : ℕ) (old now new : SimValue) (v w : Handing) (text : List ℕ)
    → UnderWay wanted moment actor old now v w text
    → left_at w.stand ≡ None
    → RanCommand moment actor now new w → RanFirst moment actor old new v
unfolding with_deals
broke_after wanted moment actor old now new v w text way going r = record {
  ran_of_it = way.ran_of_it + 1;
  few = omega (arith, way.few, one_left w.stand w.consumer.stage going);
  history = λ x s.
      let y = way.rest x s in
      r.history ∙ ap (λ o. (rounds 0 moment actor now.history y.0 o).history) (sym (r.next y.0 y.1))
      ∙ ap (λ z. (round 0 moment actor now.history z).history) (sym (called_none y.0 (none_of w y.0 y.1 way.none_due)))
      ∙ ap (λ z. z.history) (sym (y.2 1));
}

pub broke_round : (wanted : Bool) (moment actor : ℕ) (old now new : SimValue) (v w : Handing) (text : List ℕ)
    → UnderWay wanted moment actor old now v w text
    → left_at w.stand ≡ None
    → (new.history ≡ now.history) ⊎ RanCommand moment actor now new w
    → RanFirst moment actor old new v
broke_round wanted moment actor old now new v w text way going (inl same) =
    broke_between wanted moment actor old now new v w text way same
broke_round wanted moment actor old now new v w text way going (inr r) =
    broke_after wanted moment actor old now new v w text way going r

-- ---- One round: a command, and then the due call

comes_next : (v : Handing) (command : Command)
    → Some command ≡ command_at v.held v.consumer.made v.consumer.stage v.stand
    → ComesNext v command
comes_next v command is x s = sym (next_is v x s) ∙ sym is

pub round_made : (wanted : Bool) (moment actor : ℕ) (old new : SimValue) (v mid w : Handing) (command : Command)
    (a : Result Reply Refusal) (earlier after : List ℕ)
    → Some command ≡ command_at v.held v.consumer.made v.consumer.stage v.stand
    → new ≡ record old { history = raw_turn moment actor command ∷ old.history }
    → a ≡ answer old.history (raw_turn moment actor command)
    → mid.held ≡ v.held
    → mid.consumer.made ≡ v.consumer.made → AddsHandAnswer Calls a v mid
    → after ≡ earlier ++ if_wanted wanted (deal_text (deal_at moment actor old.history command))
    → ((x : HandOff) → IsHandOf mid x → IsHandOf w (called_up x))
    → MadeRound wanted moment actor old new v w earlier after
round_made wanted moment actor old new v mid w command a earlier after next ran is held made adds wrote called =
    record {
      what = command;
      next = comes_next v command next;
      history = ap (λ (z : SimValue). z.history) ran;
      hand = λ x s. called (answered_by moment actor old.history x command)
          (answered_on moment actor old.history command a v mid held made adds is x s);
      wrote = wrote;
    }
