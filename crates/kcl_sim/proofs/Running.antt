-- Lines that start, step or stop a worker lead to the run that `with_line` defines.
use Rattle.std.proofs.Common.{◌≡◌, ℕ, ◌+◌, ◌<◌, Bool, true, false, List, [], ◌∷◌, ◌++◌, length, Option, Some, None}
use Rattle.std.proofs.Common.{Result, Ok, Err, codes, decimal, sym, ap, subst, ◌∙◌, arith, inl, inr, ◌⊎◌}
use Rattle.std.specs.Prelude.{IsSome, MatchOption, OnErr, OnOk, get_or, slice_get, slice_set}
use Rattle.std.proofs.lemmas.Option.{MatchOption-at_none, MatchOption-at_some, same_Some}
use Rattle.kds_base.proofs.Facts.{apart}
use Rattle.kds_defs.specs.declared.command.Command.{Command}
use Rattle.kds_defs.specs.declared.command.Origin.{Origin}
use Rattle.kds_defs.specs.declared.command.Turn.{Turn}
use Rattle.kds_defs.specs.declared.limits.TheConstants.{MOST_ACTOR}
use Rattle.kcl_defs.specs.Workers.{usual_settings}
use Rattle.kcl_proc.specs.declared.stock.Kind.{Kind}
use Rattle.kcl_proc.specs.Stocks.{StandsFor as Calls, asked_of}
use Rattle.kcl_script.specs.declared.line.Line.TheVariants as line
use Rattle.kcl_worker.specs.Standing.{StandsFor}
use Rattle.kcl_sim.specs.Keeping.{if_wanted}
use Rattle.kcl_sim.specs.Output.{Ran, command_output, raw_turn, step_output, stop_output, with_command, with_step}
use Rattle.kcl_sim.specs.Output.{with_stop}
use Rattle.kcl_sim.specs.Standing.{ChangedAt, EmployAll, Employs, GoesOn, HasAsked, IsFree, MayHaveRun, RunsSo}
use Rattle.kcl_sim.specs.Standing.{SimValue, StepsAt, Stepped, TookAnswer, TurnRan, employed_after, history_after}
use Rattle.kcl_sim.specs.Standing.{index_among}
use Rattle.kcl_sim.specs.Workers.{Employed, actor_at, all_called, command_at, employed_by, hired, index_of, stopped}
use Rattle.kcl_sim.proofs.Employing.{employ_at, employ_length, employ_more, employ_set, got_set, got_there, lent_again}
use Rattle.kcl_sim.proofs.Employing.{nobody, set_again, somebody}

pub on_any : {A B : Type 0} {P : Type 0} (r : Result A B) → P → OnOk r P
on_any (Ok x) h = h
on_any (Err e) h = tt

pub on_ok_so : {A B : Type 0} {P Q : Type 0} (r : Result A B) → OnOk r P → (P → Q) → OnOk r Q
on_ok_so (Ok x) h f = f h
on_ok_so (Err e) h f = tt

-- ---- One more worker

pub hired_goes : (wanted : Bool) (old new : SimValue) (ran : Ran) (w : Stepped) (moment name sender : ℕ) (kind : Kind)
    (origin : Origin) (earlier after : List ℕ)
    → RunsSo old ran → old.unfinished ≡ false
    → new ≡ record old { workers = old.workers ++ w ∷ [] }
    → w.made ≡ record { name = name; settings = record usual_settings { from = origin } } → w.maker ≡ kind
    → StandsFor Calls w []
    → sender ≡ length old.workers + MOST_ACTOR + 1
    → after ≡ earlier ++ if_wanted wanted (codes "worker " ++ (decimal sender ++ 10 ∷ []))
    → GoesOn wanted new ran (line.Worker moment name kind origin) earlier after
hired_goes wanted old new ran w moment name sender kind origin earlier after s going is made maker stands number wrote =
    let all = s.workers going in
    let actor : sender ≡ actor_at (length ran.workers) =
    omega (arith, number, employ_length old.workers ran.workers all) in
    let e : Employs w (hired name kind origin) =
    record { made = made; kind = λ batch. ap (λ m. asked_of m batch) maker; stands = stands } in
    subst (λ v. GoesOn wanted v ran (line.Worker moment name kind origin) earlier after) (sym is) (record {
      made = record {
        history = s.history;
        workers = λ g. employ_more old.workers ran.workers w (hired name kind origin) all e;
      };
      wrote = wrote ∙ ap (λ n. earlier ++ if_wanted wanted (codes "worker " ++ (decimal n ++ 10 ∷ []))) actor;
      going = going;
    })

-- ---- An actor without a worker

pub nobody_stops : (wanted : Bool) (old new : SimValue) (ran : Ran) (moment actor : ℕ) (earlier after : List ℕ)
    → RunsSo old ran
    → old.unfinished ≡ false → new ≡ old
    → index_among actor (length old.workers) ≡ None
    → after ≡ earlier ++ if_wanted wanted (codes "none" ++ 10 ∷ [])
    → GoesOn wanted new ran (line.Stop moment actor) earlier after
nobody_stops wanted old new ran moment actor earlier after s going same none wrote =
    let is = nobody actor (length old.workers) ran.workers (employ_length old.workers ran.workers (s.workers going))
    none in
    record {
      made = subst (λ o. RunsSo new (with_stop ran actor o)) (sym is) (subst (λ v. RunsSo v ran) (sym same) s);
      wrote = wrote ∙ ap (λ o. earlier ++ if_wanted wanted (stop_output o)) (sym is);
      going = ap (λ (v : SimValue). v.unfinished) same ∙ going;
    }

pub nobody_steps : (wanted : Bool) (old new : SimValue) (ran : Ran) (moment actor : ℕ) (earlier after : List ℕ)
    → RunsSo old ran
    → old.unfinished ≡ false → new ≡ old
    → index_among actor (length old.workers) ≡ None
    → after ≡ earlier ++ if_wanted wanted (codes "none" ++ 10 ∷ [])
    → GoesOn wanted new ran (line.Step moment actor) earlier after
nobody_steps wanted old new ran moment actor earlier after s going same none wrote =
    let is = nobody actor (length old.workers) ran.workers (employ_length old.workers ran.workers (s.workers going))
    none in
    record {
      made = subst (λ o. RunsSo new (with_step ran moment actor o)) (sym is) (subst (λ v. RunsSo v ran) (sym same) s);
      wrote = wrote ∙ ap (λ o. earlier ++ if_wanted wanted (step_output ran moment actor o)) (sym is);
      going = ap (λ (v : SimValue). v.unfinished) same ∙ going;
    }

-- ---- The worker of an actor

-- `e` is the trace of the actor's worker, `was` stands for it, and all workers stand for their traces.
pub record Works (old : SimValue) (ran : Ran) (actor index : ℕ) (was : Stepped) : Type 0 where
  pub e : Employed
  pub is : employed_by actor ran.workers ≡ Some e
  pub employs : Employs was e
  pub all : EmployAll old.workers ran.workers
  pub at_index : index_of actor ≡ index

pub works : (old : SimValue) (ran : Ran) (actor index : ℕ) (was : Stepped) → RunsSo old ran → old.unfinished ≡ false
    → index_among actor (length old.workers) ≡ Some index → slice_get old.workers index ≡ Some was
    → Works old ran actor index was
works old ran actor index was s going there stood =
    let all = s.workers going in
    let f = employ_at old.workers ran.workers index was all stood in
    let b = somebody actor (length old.workers) index ran.workers there in
    record { e = f.0; is = b.1 ∙ f.1; employs = f.2; all = all; at_index = b.0 }

-- Replacing the actor's worker and its trace keeps all workers standing.
pub replaced : (old : SimValue) (ran : Ran) (actor index : ℕ) (was new : Stepped) (d : Employed)
    → Works old ran actor index was → Employs new d
    → EmployAll (slice_set old.workers index new) (slice_set ran.workers (index_of actor) d)
replaced old ran actor index was new d w h =
    subst (λ n. EmployAll (slice_set old.workers index new) (slice_set ran.workers n d)) (sym w.at_index)
    (employ_set old.workers ran.workers index new d w.all h)

pub stop_goes : (wanted : Bool) (old new : SimValue) (ran : Ran) (moment actor index : ℕ) (was now : Stepped)
    (earlier after : List ℕ) → RunsSo old ran
    → old.unfinished ≡ false → index_among actor (length old.workers) ≡ Some index
    → slice_get old.workers index ≡ Some was
    → new ≡ record old { workers = slice_set old.workers index now }
    → ((e : Employed) → Employs was e → Employs now (stopped e))
    → after ≡ earlier ++ if_wanted wanted (codes "stopping" ++ 10 ∷ [])
    → GoesOn wanted new ran (line.Stop moment actor) earlier after
stop_goes wanted old new ran moment actor index was now earlier after s going there stood is stops wrote =
    let w = works old ran actor index was s going there stood in
    subst (λ v. GoesOn wanted v ran (line.Stop moment actor) earlier after) (sym is) (record {
      made = subst (λ o. RunsSo (record old { workers = slice_set old.workers index now }) (with_stop ran actor o))
          (sym w.is)
          (record {
            history = s.history;
            workers = λ g. replaced old ran actor index was now (stopped w.e) w (stops w.e w.employs);
          });
      wrote = wrote ∙ ap (λ o. earlier ++ if_wanted wanted (stop_output o)) (sym w.is);
      going = going;
    })

same_employed : (h : List Turn) (ran : Ran) (moment actor : ℕ) (o : Option Command) (e : Employed) → h ≡ ran.history
    → (v : Stepped) → Employs v (employed_after h moment actor o e)
    → Employs v (employed_after ran.history moment actor o e)
same_employed h ran moment actor o e is v s = subst (λ k. Employs v (employed_after k moment actor o e)) is s

step_made : (new : SimValue) (ran : Ran) (place actor index : ℕ) (e : Employed) (o : Option Command)
    → new.history ≡ history_after ran.history place actor o
    → EmployAll new.workers (slice_set ran.workers (index_of actor) (employed_after ran.history place actor o e))
    → RunsSo new (with_command ran place actor (all_called e) o)
step_made new ran place actor index e None history workers = record { history = history; workers = λ g. workers }
step_made new ran place actor index e (Some command) history workers =
    record { history = history; workers = λ g. workers }

pub step_goes : (wanted : Bool) (old new : SimValue) (ran : Ran) (place actor index : ℕ) (earlier after : List ℕ)
    → RunsSo old ran → old.unfinished ≡ false
    → index_among actor (length old.workers) ≡ Some index
    → StepsAt wanted place actor index old new earlier after → new.unfinished ≡ false
    → GoesOn wanted new ran (line.Step place actor) earlier after
step_goes wanted old new ran place actor index earlier after s going there t still =
    let c = t.workers in
    let w = works old ran actor index c.was s going there c.stood in
    let f = c.related.1 w.e w.employs in
    let next : command_at place (all_called w.e) ≡ t.what = f.0 in
    let now_so : Employs c.is (employed_after ran.history place actor t.what w.e) =
    same_employed old.history ran place actor t.what w.e s.history c.is f.1 in
    let all : EmployAll new.workers
    (slice_set ran.workers (index_of actor) (employed_after ran.history place actor t.what w.e)) =
    subst (λ ws. EmployAll ws
    (slice_set ran.workers (index_of actor) (employed_after ran.history place actor t.what w.e)))
    (sym c.stands) (replaced old ran actor index c.was c.is _ w now_so) in
    record {
      made = subst (λ o. RunsSo new (with_step ran place actor o)) (sym w.is)
          (subst (λ o. RunsSo new (with_command ran place actor (all_called w.e) o)) (sym next)
          (step_made new ran place actor index w.e t.what (t.history
          ∙ ap (λ h. history_after h place actor t.what) s.history)
          all));
      wrote = t.wrote ∙ ap (λ h. earlier ++ if_wanted wanted (command_output h place actor t.what)) s.history
          ∙ ap (λ o. earlier ++ if_wanted wanted (command_output ran.history place actor o)) (sym next)
          ∙ ap (λ o. earlier ++ if_wanted wanted (step_output ran place actor o)) (sym w.is);
      going = still;
    }

-- ---- Out of memory

pub step_may : (old new : SimValue) (ran : Ran) (moment actor index : ℕ) → RunsSo old ran → old.unfinished ≡ false
    → index_among actor (length old.workers) ≡ Some index → new.unfinished ≡ true
    → (new.history ≡ old.history) ⊎ TurnRan moment actor index old new → MayHaveRun new ran (line.Step moment actor)
step_may old new ran moment actor index s going there unfinished (inl same) =
    inl (record { history = same ∙ s.history; workers = λ g. absurd (apart new.unfinished unfinished g) })
step_may old new ran moment actor index s going there unfinished (inr t) =
    let w = works old ran actor index t.was s going there t.stood in
    let next = t.next w.e w.employs in
    inr (subst (λ o. RunsSo new (with_step ran moment actor o)) (sym w.is)
    (subst (λ o. RunsSo new (with_command ran moment actor (all_called w.e) o)) (sym next)
    (record {
      history = t.history ∙ ap (λ h. raw_turn moment actor t.what ∷ h) s.history;
      workers = λ g. absurd (apart new.unfinished unfinished g);
    })))

pub err_so : {A B : Type 0} {P Q : Type 0} (r : Result A B) → OnErr r P → (P → Q) → OnErr r Q
err_so (Ok x) h f = tt
err_so (Err e) h f = f h

-- ---- A step in its parts

-- The worker at `index` made its due calls and gave `result`; None if it is idle.
pub record Asked (moment index : ℕ) (old : SimValue) (result : Option Command) (now : Stepped) : Type 0 where
  pub was : Stepped
  pub stood : slice_get old.workers index ≡ Some was
  pub next : (e : Employed) → Employs was e → command_at moment (all_called e) ≡ result
  pub idle : result ≡ None → IsFree now × ((e : Employed) → Employs was e → Employs now (all_called e))
  pub asked : (command : Command) → result ≡ Some command → (e : Employed) → Employs was e
      → HasAsked moment now (all_called e)

-- A worker that was borrowed for its due calls and again for a command was asked at its index.
pub asked_at : (old : SimValue) (moment index : ℕ) (ws : List Stepped) (first second was called lent now : Stepped)
    (result : Option Command) → ws ≡ old.workers → index < length ws
    → was ≡ get_or ws index first → lent ≡ get_or (slice_set ws index called) index second
    → ((e : Employed) → Employs was e → Employs called (all_called e))
    → ((e : Employed) → Employs lent e → result ≡ command_at moment e)
    → ((e : Employed) → Employs lent e → MatchOption result (Employs now e) (λ command. HasAsked moment now e))
    → MatchOption result (IsFree now) (λ command. IsSome now.waiting) → Asked moment index old result now
asked_at old moment index ws first second was called lent now result same lt got again calls next stands free =
    let lent_is : lent ≡ called = lent_again ws index second called lent lt again in
    let is_on : (e : Employed) → Employs was e → Employs lent (all_called e) =
    λ e h. subst (λ (w : Stepped). Employs w (all_called e)) (sym lent_is) (calls e h) in
    record {
      was = was;
      stood = ap (λ vs. slice_get vs index) (sym same) ∙ got_there ws index first was lt got;
      next = λ e h. sym (next (all_called e) (is_on e h));
      idle = λ none. (
        MatchOption-at_none (IsFree now) (λ command. IsSome now.waiting) none free,
        λ e h. MatchOption-at_none (Employs now (all_called e)) (λ command. HasAsked moment now (all_called e)) none
            (stands (all_called e) (is_on e h)),
      );
      asked = λ command some e h.
          MatchOption-at_some (Employs now (all_called e)) (λ w. HasAsked moment now (all_called e)) command some
          (stands (all_called e) (is_on e h));
    }

pub idle_steps : (wanted : Bool) (old new : SimValue) (moment actor index : ℕ) (result : Option Command) (now : Stepped)
    (earlier after : List ℕ)
    → Asked moment index old result now → result ≡ None
    → new ≡ record old { workers = slice_set old.workers index now }
    → after ≡ earlier ++ if_wanted wanted (codes "idle" ++ 10 ∷ [])
    → StepsAt wanted moment actor index old new earlier after
idle_steps wanted old new moment actor index result now earlier after a none is wrote =
    record {
      what = None;
      history = ap (λ (v : SimValue). v.history) is;
      workers = record {
        was = a.was;
        stood = a.stood;
        is = now;
        stands = ap (λ (v : SimValue). v.workers) is;
        related = ((a.idle none).0, λ e h. (a.next e h ∙ none, (a.idle none).1 e h));
      };
      wrote = wrote;
    }

turn_steps_of : (wanted : Bool) (old new : SimValue) (moment actor index : ℕ) (result : Option Command)
    (command : Command)
    (mid : List Stepped) (now : Stepped) (earlier after : List ℕ) → Asked moment index old result now
    → result ≡ Some command
    → mid ≡ slice_set old.workers index now → index < length old.workers
    → new.history ≡ (raw_turn moment actor command ∷ old.history)
    → ChangedAt index (TookAnswer moment actor command old.history) mid new.workers
    → after ≡ earlier ++ if_wanted wanted (command_output old.history moment actor (Some command))
    → StepsAt wanted moment actor index old new earlier after
turn_steps_of wanted old new moment actor index result command mid now earlier after a some mid_is lt history changed
    wrote =
    let was_now : changed.was ≡ now =
    same_Some changed.was now (sym changed.stood ∙ ap (λ ws. slice_get ws index) mid_is
    ∙ got_set old.workers index now lt) in
    record {
      what = Some command;
      history = history;
      workers = record {
        was = a.was;
        stood = a.stood;
        is = changed.is;
        stands = changed.stands ∙ ap (λ ws. slice_set ws index changed.is) mid_is
            ∙ set_again old.workers index now changed.is;
        related = (
          changed.related.0,
          λ e h. (
            a.next e h ∙ some,
            changed.related.1 (all_called e)
                (subst (λ w. HasAsked moment w (all_called e)) (sym was_now) (a.asked command some e h)),
          ),
        );
      };
      wrote = wrote;
    }

-- `turn_steps_of`, with a name for the history before the turn.
pub turn_steps : (wanted : Bool) (old new : SimValue) (moment actor index : ℕ) (result : Option Command)
    (command : Command)
    (h : List Turn) (mid : List Stepped) (now : Stepped) (earlier after : List ℕ) → Asked moment index old result now
    → result ≡ Some command
    → h ≡ old.history → mid ≡ slice_set old.workers index now → index < length old.workers
    → new.history ≡ (raw_turn moment actor command ∷ h)
    → ChangedAt index (TookAnswer moment actor command h) mid new.workers
    → after ≡ earlier ++ if_wanted wanted (command_output h moment actor (Some command))
    → StepsAt wanted moment actor index old new earlier after
turn_steps wanted old new moment actor index result command h mid now earlier after a some same mid_is lt history
    changed wrote =
    turn_steps_of wanted old new moment actor index result command mid now earlier after a some mid_is lt
    (history ∙ ap (λ k. raw_turn moment actor command ∷ k) same)
    (subst (λ k. ChangedAt index (TookAnswer moment actor command k) mid new.workers) same changed)
    (wrote ∙ ap (λ k. earlier ++ if_wanted wanted (command_output k moment actor (Some command))) same)

pub turn_may : (old new : SimValue) (moment actor index : ℕ) (result : Option Command) (command : Command)
    (h : List Turn)
    (now : Stepped) → Asked moment index old result now → result ≡ Some command
    → h ≡ old.history → (new.history ≡ h) ⊎ (new.history ≡ raw_turn moment actor command ∷ h)
    → (new.history ≡ old.history)
    ⊎ TurnRan moment actor index old new
turn_may old new moment actor index result command h now a some same (inl is) = inl (is ∙ same)
turn_may old new moment actor index result command h now a some same (inr is) =
    inr (record {
      was = a.was;
      stood = a.stood;
      what = command;
      next = λ e s. a.next e s ∙ some;
      history = is ∙ ap (λ k. raw_turn moment actor command ∷ k) same;
    })

pub on_ok_all : {A B : Type 0} {P Q R S : Type 0} (r : Result A B) → OnOk r P → OnOk r Q → OnOk r R → (P → Q → R → S)
    → OnOk r S
on_ok_all (Ok x) p q h f = f p q h
on_ok_all (Err e) p q h f = tt

pub on_any_err : {A B : Type 0} {P : Type 0} (r : Result A B) → P → OnErr r P
on_any_err (Ok x) h = tt
on_any_err (Err e) h = h

-- ---- The flag `unfinished` of a run doesn't matter for its turns and workers

steps_as : (wanted : Bool) (old new : SimValue) (b d : Bool) (moment actor index : ℕ) (earlier after : List ℕ)
    → StepsAt wanted moment actor index (record old { unfinished = b }) new earlier after
    → StepsAt wanted moment actor index old (record new { unfinished = d }) earlier after
steps_as wanted old new b d moment actor index earlier after t =
    record { what = t.what; history = t.history; workers = t.workers; wrote = t.wrote }

-- Setting `unfinished` before a step and clearing it after leaves a step between the outer runs.
pub step_done : (wanted : Bool) (old mid now new : SimValue) (moment actor index : ℕ) (earlier after : List ℕ)
    → mid ≡ record old { unfinished = true }
    → new ≡ record now { unfinished = false } → StepsAt wanted moment actor index mid now earlier after
    → StepsAt wanted moment actor index old new earlier after
step_done wanted old mid now new moment actor index earlier after before_is after_is t =
    subst (λ v. StepsAt wanted moment actor index old v earlier after) (sym after_is)
    (steps_as wanted old now true false moment actor index earlier after
    (subst (λ v. StepsAt wanted moment actor index v now earlier after) before_is t))

ran_as : (old new : SimValue) (b : Bool) (moment actor index : ℕ)
    → TurnRan moment actor index (record old { unfinished = b }) new
    → TurnRan moment actor index old new
ran_as old new b moment actor index t =
    record { was = t.was; stood = t.stood; what = t.what; next = t.next; history = t.history }

pub step_broke : (old mid new : SimValue) (moment actor index : ℕ) → mid ≡ record old { unfinished = true }
    → (new.history ≡ mid.history) ⊎ TurnRan moment actor index mid new → (new.history ≡ old.history)
    ⊎ TurnRan moment actor index old new
step_broke old mid new moment actor index is (inl same) = inl (same ∙ ap (λ v. v.history) is)
step_broke old mid new moment actor index is (inr t) =
    inr (ran_as old new true moment actor index (subst (λ v. TurnRan moment actor index v new) is t))
