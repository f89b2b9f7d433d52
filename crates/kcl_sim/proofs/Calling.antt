-- Making due calls one by one until none is due leads to the trace of `with_calls`.
use Rattle.std.proofs.Common.{◌≡◌, Bool, true, false, List, [], ◌∷◌, Option, Some, None, refl, sym, ap, subst, ◌∙◌}
use Rattle.std.specs.Prelude.{cond, not, is_some, if◌then◌else◌}
use Rattle.std.specs.List.{filter, find}
use Rattle.kds_defs.specs.declared.reply.Stored.{Stored}
use Rattle.kcl_defs.specs.declared.consumer.Ask.{Ask}
use Rattle.kcl_defs.specs.Consumers.{Called, Stage, Holding, Over, due_call, over_at}
use Rattle.kcl_defs.specs.Workers.{Known, Made_call, due_known, happens_to_first, is_due_known, is_over, stage_of_known}
use Rattle.kcl_defs.specs.Workers.{with_event}
use Rattle.kcl_hand.specs.Joints.{JointPast, Of_worker}
use Rattle.kcl_proc.specs.declared.stock.Kind.{Kind}
use Rattle.kcl_proc.specs.Stocks.{asked_of}
use Rattle.kcl_worker.proofs.Counting.{not_again}
use Rattle.kcl_worker.specs.Asks.{IsAsk, IsAskOf}
use Rattle.kcl_sim.specs.Workers.{Employed, all_called, ask_in, state_of, with_calls}

over_not_due : (p : Stage) → is_some (over_at p) ≡ true → is_some (due_call p) ≡ false
over_not_due (Over why) h = refl
over_not_due _ h = absurd cc

live : List Known → List Known
live ks = filter (λ k. not (is_over k)) ks

live_by : (over due : Bool) (kind : Kind) (k : Known) (ks : List Known) (past : JointPast) → is_over k ≡ over
    → is_due_known k ≡ due
    → ((p : JointPast) → with_calls kind (live ks) p ≡ with_calls kind ks p)
    → with_calls kind (cond (not over) (k ∷ live ks) (live ks)) past
    ≡ (if due then with_calls kind ks (Of_worker (Made_call (ask_in kind (stage_of_known k))) ∷ past) else
    with_calls kind ks past)
live_by true true kind k ks past o d rest = let z : true ≡ false = sym d ∙ over_not_due (stage_of_known k) o in
    absurd cc
live_by true false kind k ks past o d rest = rest past
live_by false true kind k ks past o d rest =
    ap (λ b. if b then with_calls kind (live ks) (Of_worker (Made_call (ask_in kind (stage_of_known k))) ∷ past) else
    with_calls kind (live ks) past) d ∙ rest _
live_by false false kind k ks past o d rest =
    ap (λ b. if b then with_calls kind (live ks) (Of_worker (Made_call (ask_in kind (stage_of_known k))) ∷ past) else
    with_calls kind (live ks) past) d ∙ rest _

live_calls : (kind : Kind) (ks : List Known) (past : JointPast)
    → with_calls kind (live ks) past ≡ with_calls kind ks past
unfolding live
live_calls kind [] past = refl
live_calls kind (k ∷ ks) past =
    live_by (is_over k) (is_due_known k) kind k ks past refl refl (live_calls kind ks)

called_by : (due : Bool) (kind : Kind) (c : Known) (ks : List Known) (past : JointPast) (k : Known)
    → is_due_known c ≡ due → cond due (Some c) (find is_due_known ks) ≡ Some k
    → (find is_due_known ks ≡ Some k
    → with_calls kind (happens_to_first is_due_known (Called (ask_in kind (stage_of_known k))) ks)
    (Of_worker (Made_call (ask_in kind (stage_of_known k))) ∷ past) ≡ with_calls kind ks past)
    → with_calls kind (if due then with_event (Called (ask_in kind (stage_of_known k))) c ∷ ks else c
    ∷ happens_to_first is_due_known (Called (ask_in kind (stage_of_known k))) ks)
    (Of_worker (Made_call (ask_in kind (stage_of_known k))) ∷ past)
    ≡ (if due then with_calls kind ks (Of_worker (Made_call (ask_in kind (stage_of_known c))) ∷ past) else with_calls
    kind ks past)
called_by true kind c ks past k d is rest =
    let same : c ≡ k = cc in
    let a = ask_in kind (stage_of_known k) in
    let after = is_due_known (with_event (Called a) c) in
    let quiet : after ≡ false = not_again c.made a (stage_of_known c) d in
    ap (λ b. if b then with_calls kind ks
    (Of_worker (Made_call (ask_in kind (stage_of_known (with_event (Called a) c)))) ∷ Of_worker (Made_call a)
    ∷ past) else with_calls kind ks (Of_worker (Made_call a) ∷ past)) quiet
    ∙ ap (λ j. with_calls kind ks (Of_worker (Made_call (ask_in kind (stage_of_known j))) ∷ past)) (sym same)
called_by false kind c ks past k d is rest =
    let a = ask_in kind (stage_of_known k) in
    let others = happens_to_first is_due_known (Called a) ks in
    ap (λ b. if b then with_calls kind others (Of_worker (Made_call (ask_in kind (stage_of_known c)))
    ∷ Of_worker (Made_call a) ∷ past) else with_calls kind others (Of_worker (Made_call a) ∷ past)) d ∙ rest is

called_first : (kind : Kind) (ks : List Known) (past : JointPast) (k : Known) → find is_due_known ks ≡ Some k
    → with_calls kind (happens_to_first is_due_known (Called (ask_in kind (stage_of_known k))) ks)
    (Of_worker (Made_call (ask_in kind (stage_of_known k))) ∷ past) ≡ with_calls kind ks past
called_first kind [] past k is = absurd cc
called_first kind (c ∷ ks) past k is = called_by (is_due_known c) kind c ks past k refl is (called_first kind ks past k)

-- Making the first due call doesn't change what the trace becomes with all due calls.
pub one_called : (e : Employed) (k : Known) (a : Ask) → due_known (state_of e) ≡ Some k
    → a ≡ ask_in e.kind (stage_of_known k) → all_called (record e { past = Of_worker (Made_call a) ∷ e.past })
    ≡ all_called e
unfolding live
one_called e k a is asks =
    subst (λ b. all_called (record e { past = Of_worker (Made_call b) ∷ e.past }) ≡ all_called e) (sym asks)
    (ap (λ past. record e { past = past })
    (live_calls e.kind (happens_to_first is_due_known (Called (ask_in e.kind (stage_of_known k)))
    (state_of e).consumers) (Of_worker (Made_call (ask_in e.kind (stage_of_known k))) ∷ e.past)
    ∙ called_first e.kind (state_of e).consumers e.past k is))

none_by : (due : Bool) (kind : Kind) (k : Known) (ks : List Known) (past : JointPast) → is_due_known k ≡ due
    → cond due (Some k) (find is_due_known ks) ≡ None
    → (find is_due_known ks ≡ None → with_calls kind ks past ≡ past)
    → (if due then with_calls kind ks (Of_worker (Made_call (ask_in kind (stage_of_known k))) ∷ past) else with_calls
    kind ks past) ≡ past
none_by true kind k ks past d is rest = absurd cc
none_by false kind k ks past d is rest = rest is

none_called : (kind : Kind) (ks : List Known) (past : JointPast) → find is_due_known ks ≡ None
    → with_calls kind ks past ≡ past
none_called kind [] past is = refl
none_called kind (k ∷ ks) past is = none_by (is_due_known k) kind k ks past refl is (none_called kind ks past)

pub all_made : (e : Employed) → due_known (state_of e) ≡ None → all_called e ≡ e
all_made e is = ap (λ past. record e { past = past }) (none_called e.kind (state_of e).consumers e.past is)

-- ---- What a processor asks for in a call

pub ask_is : (maker kind : Kind) → ((batch : List Stored) → asked_of maker batch ≡ asked_of kind batch)
    → (p : Stage) (a : Ask) → IsAsk (λ batch b. b ≡ asked_of maker batch) p a → a ≡ ask_in kind p
ask_is maker kind same (Holding reach waiting) a h = h ∙ same _
ask_is maker kind same _ a h = h

-- Kinds that ask alike after each batch ask alike in the due call.
pub ask_of : (maker kind : Kind) → ((batch : List Stored) → asked_of maker batch ≡ asked_of kind batch)
    → (o : Option Known) (a : Ask) → IsAskOf (λ batch b. b ≡ asked_of maker batch) o a
    → (k : Known) × (o ≡ Some k) × (a ≡ ask_in kind (stage_of_known k))
ask_of maker kind same None a h = absurd h
ask_of maker kind same (Some k) a h = (k, refl, ask_is maker kind same (stage_of_known k) a h)
