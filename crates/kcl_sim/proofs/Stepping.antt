-- The parts of a worker's step keep the worker standing for its trace.
use Rattle.std.proofs.Common.{◌≡◌, ℕ, true, false, ◌∷◌, Option, Some, None, Result, refl, sym, ap, subst, ◌∙◌}
use Rattle.std.specs.Prelude.{if◌then◌else◌, is_some, option_map}
use Rattle.kds_defs.specs.declared.command.Command.{Command}
use Rattle.kds_defs.specs.declared.reply.Refusal.{Refusal}
use Rattle.kds_defs.specs.declared.reply.Reply.{Reply}
use Rattle.kcl_defs.specs.Workers.{Gave_command, Made_call, due_known, is_idle, next_pending, worker_after}
use Rattle.kcl_hand.specs.Joints.{Of_worker, worker_past}
use Rattle.kcl_proc.specs.Stocks.{StandsFor as Calls, asked_of}
use Rattle.kcl_worker_lists.specs.Lists.{due_in}
use Rattle.kcl_worker.specs.Adding.{AddsAnswer, AddsCall, AddsCommand, AddsStop}
use Rattle.kcl_worker.specs.Asks.{AllowsSame}
use Rattle.kcl_worker.specs.Standing.{is_idle_in}
use Rattle.kcl_sim.specs.Standing.{Employs, HasAsked, Stepped}
use Rattle.kcl_sim.specs.Workers.{Employed, all_called, answered, command_at, state_of, stopped}
use Rattle.kcl_worker.proofs.Outlooks.{idle_same, none_due}
use Rattle.kcl_sim.proofs.Calling.{all_made, ask_of, one_called}

pub no_some : {A : Type 0} (o : Option A) → false ≡ is_some o → o ≡ None
no_some None h = refl
no_some (Some x) h = absurd cc

-- One due call leads to a trace that still becomes `all_called e`.
pub called_on : (old new : Stepped) (e d : Employed) → new.made ≡ old.made → new.maker ≡ old.maker
    → AddsCall Calls (λ batch a. a ≡ asked_of old.maker batch) old new
    → Employs old d → all_called d ≡ all_called e → (f : Employed) × Employs new f × (all_called f ≡ all_called e)
called_on old new e d made maker adds s same =
    let r = adds (worker_past d.past) s.stands in
    let k = ask_of old.maker d.kind s.kind (due_known (worker_after old.made (worker_past d.past))) r.0 r.1 in
    let is : due_known (state_of d) ≡ Some k.0 = ap (λ m. due_known (worker_after m (worker_past d.past))) (sym s.made)
    ∙ k.1 in (
      record d { past = Of_worker (Made_call r.0) ∷ d.past },
      record { made = made ∙ s.made; kind = λ batch. ap (λ m. asked_of m batch) maker ∙ s.kind batch; stands = r.2 },
      one_called d k.0 r.0 is k.2 ∙ same,
    )

-- Once no call is due, the worker stands for `all_called e`.
pub all_done : (w : Stepped) (e d : Employed) → due_in w.consumers ≡ None → Employs w d → all_called d ≡ all_called e
    → Employs w (all_called e)
all_done w e d none s same =
    let quiet = none_due Calls w.consumers (worker_after w.made (worker_past d.past)).consumers none
    s.stands.shows.consumers in
    let is : due_known (state_of d) ≡ None = ap (λ m. due_known (worker_after m (worker_past d.past))) (sym s.made)
    ∙ quiet in
    subst (Employs w) (sym (all_made d is) ∙ same) s

pub idle_command : (w : Stepped) (e : Employed) (moment : ℕ) → is_idle_in w ≡ true → Employs w e
    → command_at moment e ≡ None
idle_command w e moment idle s =
    let is : is_idle (state_of e) ≡ true =
    ap (λ m. is_idle (worker_after m (worker_past e.past))) (sym s.made)
    ∙ sym (idle_same Calls w (worker_past e.past) s.stands) ∙ idle in
    ap (λ b. if b then None else option_map (λ p. p.what) (next_pending e.made moment (state_of e))) is

-- A busy worker gives the command that comes next for its trace, and waits for the answer.
pub next_command : (old new : Stepped) (e : Employed) (moment : ℕ) (command : Command) → is_idle_in old ≡ false
    → new.made ≡ old.made → new.maker ≡ old.maker → AddsCommand Calls old new moment command → Employs old e
    → (command_at moment e ≡ Some command) × HasAsked moment new e
next_command old new e moment command busy made maker adds s =
    let r = adds (worker_past e.past) s.stands in
    let is : is_idle (state_of e) ≡ false =
    ap (λ m. is_idle (worker_after m (worker_past e.past))) (sym s.made)
    ∙ sym (idle_same Calls old (worker_past e.past) s.stands) ∙ busy in
    let next : next_pending e.made moment (state_of e) ≡ Some r.0 =
    ap (λ m. next_pending m moment (worker_after m (worker_past e.past))) (sym s.made) ∙ r.1 in (
      ap (λ b. if b then None else option_map (λ p. p.what) (next_pending e.made moment (state_of e))) is
          ∙ ap (option_map (λ p. p.what)) next ∙ ap Some r.2,
      record { made = made ∙ s.made; kind = λ batch. ap (λ m. asked_of m batch) maker ∙ s.kind batch; stands = r.3 },
    )

pub answer_on : (old new : Stepped) (e : Employed) (moment : ℕ) (answer : Result Reply Refusal) → new.made ≡ old.made
    → AllowsSame (λ batch a. a ≡ asked_of new.maker batch) (λ batch a. a ≡ asked_of old.maker batch)
    → AddsAnswer Calls old new moment answer → HasAsked moment old e → Employs new (answered moment answer e)
answer_on old new e moment answer made same adds s =
    record {
      made = made ∙ s.made;
      kind = λ batch. (same batch (asked_of new.maker batch)).0 refl ∙ s.kind batch;
      stands = adds (Gave_command moment ∷ worker_past e.past) s.stands;
    }

pub stop_on : (old new : Stepped) (e : Employed) → new.made ≡ old.made → new.maker ≡ old.maker → AddsStop Calls old new
    → Employs old e → Employs new (stopped e)
stop_on old new e made maker adds s =
    record {
      made = made ∙ s.made;
      kind = λ batch. ap (λ m. asked_of m batch) maker ∙ s.kind batch;
      stands = adds (worker_past e.past) s.stands;
    }
