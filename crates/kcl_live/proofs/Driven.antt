-- A worker's answered commands stay the turns of its pass, through calls, commands and answers.
use Rattle.std.proofs.Common.{◌≡◌, ℕ, ◌+◌, List, [], ◌∷◌, length, Option, Some, Result, refl, sym, ap, ap₂, subst, ◌∙◌}
use Rattle.std.proofs.Common.{inl, inr}
use Rattle.std.specs.Prelude.{◌↔◌, ◌^◌, IsSome}
use Rattle.kds_defs.specs.declared.command.Command.{Command}
use Rattle.kds_defs.specs.declared.command.Turn.{Turn}
use Rattle.kds_defs.specs.declared.reply.Refusal.{Refusal}
use Rattle.kds_defs.specs.declared.reply.Reply.{Reply}
use Rattle.kds_defs.specs.Histories.{answer}
use Rattle.kcl_defs.specs.declared.consumer.Ask.{Ask}
use Rattle.kcl_defs.specs.declared.consumer.Call.{Call}
use Rattle.kcl_defs.specs.declared.consumer.WorkerMade.{WorkerMade}
use Rattle.kcl_defs.specs.Lives.{Deal}
use Rattle.kcl_defs.specs.Workers.{Gave_command, Got_answer, Pending, Stopped, WorkerPast, deals_after, next_pending}
use Rattle.kcl_defs.specs.Workers.{with_deal, worker_after}
use Rattle.kcl_worker.specs.Adding.{AddsAnswer, AddsCommand}
use Rattle.kcl_worker.specs.Standing.{StandsFor, WorkerStanding}
use Rattle.kds_turn.specs.declared.pass.TurnErr.{TurnErr}
use Rattle.kds_turn.specs.declared.pass.TurnErr.TheVariants as failed
use Rattle.kds_turn.specs.Known.{Continues, turns_by}
use Rattle.kds_turn.specs.Passes.{IsAnswered, PassValue}
use Rattle.kds_turn.proofs.Turns.{continues_all}
use Rattle.kcl_live.specs.Records.{IsAtOnce, IsDriven, turns_in, with_calls, with_turn}
use Rattle.kcl_live.specs.Runs.{WasCut}
use Rattle.kcl_live.specs.Steps.{HasTurned}
use Rattle.kcl_live.proofs.Histories.{before_own, none_told, told_more}

-- ---- Events that aren't turns

-- No command was answered between the two traces.
record IsQuiet (actor : ℕ) (made : WorkerMade) (past later : WorkerPast) : Type 0 where
  turns : turns_in actor made later ≡ turns_in actor made past
  deals : deals_after made later ≡ deals_after made past
  once : IsAtOnce past → IsAtOnce later

quiet_calls : (actor : ℕ) (made : WorkerMade) (asked : List Ask) (past : WorkerPast)
    → IsQuiet actor made past (with_calls asked past)
quiet_calls actor made [] past = record { turns = refl; deals = refl; once = λ o. o }
quiet_calls actor made (a ∷ asked) past =
    let q = quiet_calls actor made asked past in
    record { turns = q.turns; deals = q.deals; once = q.once }

module _ {P F : Type 0} (stands : P → List Call → Type 0) (actor : ℕ) (seen own : List Turn) where
  driven_quiet : (w v : WorkerStanding P F) (past later : WorkerPast) → v.made ≡ w.made
      → IsQuiet actor w.made past later
      → StandsFor stands v later → IsDriven stands actor seen own w past → IsDriven stands actor seen own v later
  driven_quiet w v past later made q stood d = record {
    stood = stood;
    own_are = d.own_are ∙ sym q.turns ∙ ap (λ m. turns_in actor m later) (sym made);
    at_once = q.once d.at_once;
    told = λ h c alone. d.told h c alone ∙ sym q.deals ∙ ap (λ m. deals_after m later) (sym made);
  }

  -- A call is no turn.
  pub driven_called : (w v : WorkerStanding P F) (past : WorkerPast) (asked : List Ask) → v.made ≡ w.made
      → StandsFor stands v (with_calls asked past) → IsDriven stands actor seen own w past
      → IsDriven stands actor seen own v (with_calls asked past)
  driven_called w v past asked made stood d =
      driven_quiet w v past (with_calls asked past) made (quiet_calls actor w.made asked past) stood d

  -- A stop is no turn.
  pub driven_stopped : (w v : WorkerStanding P F) (past : WorkerPast) → v.made ≡ w.made
      → StandsFor stands v (Stopped ∷ past) → IsDriven stands actor seen own w past
      → IsDriven stands actor seen own v (Stopped ∷ past)
  driven_stopped w v past made stood d =
      driven_quiet w v past (Stopped ∷ past) made (record { turns = refl; deals = refl; once = λ o. o }) stood d

  pub driven_asked : (w v : WorkerStanding P F) (past : WorkerPast) (moment : ℕ) → v.made ≡ w.made
      → StandsFor stands v (Gave_command moment ∷ past) → IsDriven stands actor seen own w past
      → IsDriven stands actor seen own v (Gave_command moment ∷ past)
  driven_asked w v past moment made stood d =
      driven_quiet w v past (Gave_command moment ∷ past) made (record { turns = refl; deals = refl; once = λ o. o })
      stood d

  pub driven_later : (w : WorkerStanding P F) (past : WorkerPast) (later : List Turn) → Continues later seen
      → IsDriven stands actor seen own w past → IsDriven stands actor later own w past
  driven_later w past later c d = record {
    stood = d.stood;
    own_are = d.own_are;
    at_once = d.at_once;
    told = λ h k same. d.told h (continues_all h later seen k c) same;
  }

  pub driven_new : (w : WorkerStanding P F) → StandsFor stands w [] → own ≡ [] → IsDriven stands actor seen own w []
  driven_new w stood none =
      record { stood = stood; own_are = none; at_once = tt; told = λ h c same. none_told actor h (same ∙ none) }

-- ---- A command that is answered

with_answer : (actor moment : ℕ) (command : Command) (o : Option Pending) (p : Pending) (turns : List Turn) → o ≡ Some p
    → p.what ≡ command → with_turn actor moment o turns ≡ record { by = actor; at = moment; what = command } ∷ turns
with_answer actor moment command o p turns is same =
    ap (λ x. with_turn actor moment x turns) is
    ∙ ap (λ (c : Command). record { by = actor; at = moment; what = c } ∷ turns) same

deal_answer : (command : Command) (a : Result Reply Refusal) (o : Option Pending) (p : Pending) (deals : List Deal)
    → o ≡ Some p → p.what ≡ command → with_deal o a deals ≡ record { what = command; answer = a } ∷ deals
deal_answer command a o p deals is same =
    ap (λ x. with_deal x a deals) is ∙ ap (λ (c : Command). record { what = c; answer = a } ∷ deals) same

-- `IsDriven` holds for `w`, which gave `what` at the moment `at` and became `u`.
module _ {P F : Type 0} (stands : P → List Call → Type 0) (actor : ℕ) (seen own : List Turn)
    (w u v : WorkerStanding P F)
    (past : WorkerPast) (moment : ℕ) (command : Command) (is_given : u.made ≡ w.made)
    (d : IsDriven stands actor seen own w past)
    (adds : AddsCommand stands w u moment command) where
  turn : Turn
  turn = record { by = actor; at = moment; what = command }

  pub asked_driven : IsDriven stands actor seen own u (Gave_command moment ∷ past)
  asked_driven = driven_asked stands actor seen own w u past moment is_given (adds past d.stood).3 d

  waits : (worker_after u.made (Gave_command moment ∷ past)).waiting ≡ Some (adds past d.stood).0
  waits = ap (λ m. next_pending m moment (worker_after m past)) is_given ∙ (adds past d.stood).1

  pub last_turn : (old : List Turn)
      → with_turn actor moment (worker_after u.made (Gave_command moment ∷ past)).waiting old
      ≡ record { by = actor; at = moment; what = command } ∷ old
  last_turn old = with_answer actor moment command (worker_after u.made (Gave_command moment ∷ past)).waiting
      (adds past d.stood).0
      old waits (adds past d.stood).2

  pub answered_driven : (older : List Turn) → Continues older seen
      → turns_by actor (record { by = actor; at = moment; what = command } ∷ older) ≡ record {
        by = actor;
        at = moment;
        what = command;
      } ∷ own
      → v.made ≡ u.made
      → StandsFor stands v (Got_answer moment (answer older (record { by = actor; at = moment; what = command }))
      ∷ (Gave_command moment ∷ past))
      → IsDriven stands actor (record { by = actor; at = moment; what = command } ∷ older)
      (record { by = actor; at = moment; what = command }
      ∷ own) v (Got_answer moment (answer older (record { by = actor; at = moment; what = command }))
      ∷ (Gave_command moment ∷ past))
  unfolding turn
  answered_driven older c all same stood =
      let a = answer older turn in
      let p = (adds past d.stood).0 in
      record {
        stood = stood;
        own_are = ap (λ (l : List Turn). turn ∷ l) (d.own_are ∙ ap (λ m. turns_in actor m past) (sym is_given))
            ∙ sym (ap (λ m. with_turn actor moment (worker_after m (Gave_command moment ∷ past)).waiting
            (turns_in actor m past)) same
            ∙ last_turn (turns_in actor u.made past));
        at_once = (refl, d.at_once);
        told = λ h k alone. told_more turn older own h (deals_after w.made past) all k alone
            (d.told older c (before_own turn older own all))
            ∙ sym (ap (λ m. deals_after m (Got_answer moment a ∷ (Gave_command moment ∷ past))) same
            ∙ deal_answer command a (worker_after u.made (Gave_command moment ∷ past)).waiting p
            (deals_after u.made past)
            waits (adds past d.stood).2
            ∙ ap (λ m. record { what = command; answer = a } ∷ deals_after m past) is_given);
      }

-- ---- A turn of the pass

-- `IsDriven` holds for `w` with the pass `before`; `w` gave `what` and became `u`, and `after` is the pass later.
module _ {P F : Type 0} (stands : P → List Call → Type 0) (w u : WorkerStanding P F) (old new : PassValue)
    (past : WorkerPast) (moment : ℕ) (command : Command) (is_given : u.made ≡ w.made)
    (d : IsDriven stands old.by old.seen old.own w past) (adds : AddsCommand stands w u moment command)
    (same : new.by ≡ old.by) where
  asked_last : (n : ℕ) (turns : List Turn) → n ≡ old.by
      → with_turn n moment (worker_after u.made (Gave_command moment ∷ past)).waiting turns ≡ record {
        by = old.by;
        at = moment;
        what = command;
      } ∷ turns
  asked_last n turns e =
      ap (λ k. with_turn k moment (worker_after u.made (Gave_command moment ∷ past)).waiting turns) e
      ∙ last_turn stands old.by old.seen old.own w u u past moment command is_given d adds turns

  asked : IsDriven stands old.by old.seen old.own u (Gave_command moment ∷ past)
  asked = asked_driven stands old.by old.seen old.own w u u past moment command is_given d adds

  pub has_turned : (v : WorkerStanding P F) (a : Result Reply Refusal)
      → IsAnswered (record { by = old.by; at = moment; what = command }) a old new → v.made ≡ u.made
      → AddsAnswer stands u v moment a → HasTurned stands new v moment past
  has_turned v a t took absorbed =
      let turn : Turn = record { by = old.by; at = moment; what = command } in
      let later : WorkerPast = Got_answer moment (answer t.older turn) ∷ (Gave_command moment ∷ past) in
      let all : turns_by old.by (turn ∷ t.older) ≡ turn ∷ old.own =
      sym (ap₂ turns_by same t.seen) ∙ t.all_own ∙ t.own in
      let stood : StandsFor stands v later =
      subst (λ x. StandsFor stands v (Got_answer moment x ∷ (Gave_command moment ∷ past))) t.answered
      (absorbed (Gave_command moment ∷ past) (adds past d.stood).3) in
      let base : IsDriven stands old.by (turn ∷ t.older) (turn ∷ old.own) v later =
      answered_driven stands old.by old.seen old.own w u v past moment command is_given d adds t.older t.later all
      took stood in
      record {
        answer = answer t.older turn;
        driven = subst (λ n. IsDriven stands n new.seen new.own v later) (sym same)
            (subst (λ s. IsDriven stands old.by s new.own v later) (sym t.seen)
            (subst (λ o. IsDriven stands old.by (turn ∷ t.older) o v later) (sym t.own) base));
        alone = t.all_own;
      }

  -- Memory ran out while the answer to a turn was taken.
  pub answer_failed : (v : WorkerStanding P F) (a : Result Reply Refusal)
      → IsAnswered (record { by = old.by; at = moment; what = command }) a old new → v ≡ u → IsSome u.waiting
      → (e : TurnErr) → e ≡ failed.Memory → WasCut stands v new e
  answer_failed v a t kept some e is =
      let turn : Turn = record { by = old.by; at = moment; what = command } in
      let all : turns_by old.by (turn ∷ t.older) ≡ turn ∷ old.own =
      sym (ap₂ turns_by same t.seen) ∙ t.all_own ∙ t.own in
      let there : IsDriven stands old.by t.older old.own u (Gave_command moment ∷ past) =
      driven_later stands old.by old.seen old.own u (Gave_command moment ∷ past) t.older t.later asked in
      subst (λ x. WasCut stands x new e) (sym kept) (inr (inr (record {
        error = is;
        waits = some;
        past = past;
        at = moment;
        last = turn;
        older = t.older;
        before = old.own;
        seen = t.seen;
        own = t.own;
        alone = ap (λ n. turns_by n t.older) same ∙ before_own turn t.older old.own all;
        is_last = asked_last new.by old.own same;
        driven = subst (λ n. IsDriven stands n t.older old.own u (Gave_command moment ∷ past)) (sym same) there;
      })))

  -- The command became no turn.
  pub turn_failed : (e : TurnErr) → Continues new.seen old.seen → new.own ≡ old.own → (e ≡ failed.Spent)
      ↔ (length new.seen + 1 ≡ 2 ^ 64) → IsSome u.waiting → WasCut stands u new e
  turn_failed e seen own spent some =
      let there : IsDriven stands old.by new.seen old.own u (Gave_command moment ∷ past) =
      driven_later stands old.by old.seen old.own u (Gave_command moment ∷ past) new.seen seen asked in
      inr (inl (record {
        spent = spent;
        waits = some;
        past = past;
        at = moment;
        driven = subst (λ n. IsDriven stands n new.seen new.own u (Gave_command moment ∷ past)) (sym same)
            (subst (λ o. IsDriven stands old.by new.seen o u (Gave_command moment ∷ past)) (sym own) there);
      }))
