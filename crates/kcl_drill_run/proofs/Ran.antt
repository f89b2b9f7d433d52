-- What a drill's threads have done, derived from the contracts of the functions that run them.
use Rattle.std.proofs.Common.{◌≡◌, ◌⊎◌, inl, inr, ℕ, zero, suc, ◌+◌, ◌≤◌, List, [], ◌∷◌, length, sym, ap, subst, ◌∙◌}
use Rattle.std.proofs.Common.{arith}
use Rattle.std.specs.Prelude.{◌/◌, IsOk}
use Rattle.std.specs.List.{All, AllByRecursion}
use Rattle.kds_base.proofs.Facts.{ok_value}
use Rattle.kcl_drill_laws.proofs.Drills.{fed_so_far}
use Rattle.kcl_drill_laws.specs.Closed.{AreDrillTurns, IsFew, IsMemberAccount}
use Rattle.kcl_drill_threads.specs.Asking.{IsKept}
use Rattle.kcl_drill_threads.specs.Feeding.{HasFed, HasFedSoFar}
use Rattle.kcl_drill_threads.specs.Running.{HaveEnded, HaveEndedOrNot}
use Rattle.kcl_defs.specs.Workers.{WorkerPast}
use Rattle.kcl_defs.specs.declared.consumer.WorkerMade.{WorkerMade}
use Rattle.kds_defs.specs.declared.command.Origin.TheVariants as origin
use Rattle.kcl_live.specs.Members.{HasEnded, IsReady}
use Rattle.kcl_live.specs.Records.{turns_in}
use Rattle.kcl_live.specs.Runs.{HasRun}
use Rattle.kcl_live.specs.declared.crew.Member.{Member}
use Rattle.kcl_proc.specs.Stocks.{StandsFor as StockStandsFor}
use Rattle.kcl_proc.specs.declared.stock.Kind.{Kind}
use Rattle.kcl_proc.specs.declared.stock.Stock.{Stock}
use Rattle.kds_turn.specs.Passes.{HallValue, PassValue, new_pass}
use Rattle.kcl_drill_run.specs.Ends.{AllEnded}
use Rattle.kcl_drill_run.specs.Participants.{AreDealt, AreMembersOf, IsMemberOf, new_passes}
use Rattle.kcl_drill_run.specs.Running.{HasPass, HavePasses, HaveRun, HaveStopped, account_in}
use Rattle.kcl_drill_run.specs.declared.participants.Participants.{Participants}

-- The law, taken as given, that a worker whose settings have the origin TRIM_HORIZON makes turns of a drill.
abbrev pub FromHorizon : Type 0
FromHorizon = (actor : ℕ) (made : WorkerMade) (past : WorkerPast) → made.settings.from ≡ origin.TrimHorizon
    → AreDrillTurns (turns_in actor made past)

-- ---- The workers

module _ {M G : Type 0} (hall : HallValue) where
  -- New workers with new passes of the hall are ready to run.
  pub all_ready : (name start n : ℕ) (ms : List (Member M Stock Kind G))
      → AreMembersOf name (new_passes hall start n) ms
      → All (IsReady StockStandsFor hall) ms
  all_ready name start n [] are k d below = absurd (omega arith)
  all_ready name start zero (m ∷ ms) are k d below = absurd are
  all_ready name start (suc n) (m ∷ ms) are zero d below =
      (ap (λ (p : PassValue). p.hall) are.0.pass_is, ap (λ (p : PassValue). p.own) are.0.pass_is, are.0.stands)
  all_ready name start (suc n) (m ∷ ms) are (suc k) d below =
      all_ready (name + 1) (start + 1) n ms are.1 k d (omega arith)

  module _ (records : ℕ) where
    -- The worker's run has ended, or it is unchanged, as if its run hadn't begun.
    abbrev EndedOrNot : Member M Stock Kind G → Member M Stock Kind G → Type 0
    EndedOrNot b a = HasEnded StockStandsFor (200 + records / 100) 50 b a ⊎ (a ≡ b)

    one_passed : (name start : ℕ) (b a : Member M Stock Kind G) → IsMemberOf name (new_pass hall.id start) b
        → EndedOrNot b a
        → HasPass hall start a × IsFew records (account_in a)
    one_passed name start b a is (inl ended) = (
      record {
        at = ended.kept.0 ∙ ap (λ (p : PassValue). p.hall) is.pass_is;
        by = ended.kept.1 ∙ ap (λ (p : PassValue). p.by) is.pass_is;
        alone = ended.kept.2 ∙ ap (λ (p : PassValue). p.joined) is.pass_is;
      },
      ended.most,
    )
    one_passed name start b a is (inr same) =
        let pass : a.pass ≡ new_pass hall.id start = ap (λ (m : Member M Stock Kind G). m.pass) same ∙ is.pass_is in
        let none : length a.pass.own ≡ 0 = ap (λ (p : PassValue). length p.own) pass in (
          record {
            at = ap (λ (p : PassValue). p.hall) pass;
            by = ap (λ (p : PassValue). p.by) pass;
            alone = ap (λ (p : PassValue). p.joined) pass;
          },
          omega arith,
        )

    pub all_passed : (name start n : ℕ) (old new : List (Member M Stock Kind G))
        → AreMembersOf name (new_passes hall start n) old
        → length new ≡ length old
        → HaveEndedOrNot StockStandsFor (200 + records / 100) old new
        → HavePasses hall start new × AllByRecursion (λ m. IsFew records (account_in m)) new
    all_passed name start n [] [] are same ended = (tt, tt)
    all_passed name start n [] (a ∷ new) are same ended = absurd (omega arith)
    all_passed name start n (b ∷ old) [] are same ended = absurd (omega arith)
    all_passed name start zero (b ∷ old) (a ∷ new) are same ended = absurd are
    all_passed name start (suc n) (b ∷ old) (a ∷ new) are same ended =
        let one = one_passed name start b a are.0 (ended 0 b (omega arith)) in
        let more = all_passed (name + 1) (start + 1) n old new are.1 (omega arith)
        (λ i m below. ended (suc i) m (omega arith)) in
        ((one.0, more.0), (one.1, more.1))

    module _ (law : FromHorizon) where
      one_made : (name start : ℕ) (b a : Member M Stock Kind G) → IsMemberOf name (new_pass hall.id start) b
          → IsOk a.outcome
          → HasEnded StockStandsFor (200 + records / 100) 50 b a → IsMemberAccount records (account_in a)
      one_made name start b a is ran ended =
          let run = ok_value a.outcome (HasRun StockStandsFor a.worker a.pass) ran ended.ok in
          let made : a.worker.made.settings.from ≡ origin.TrimHorizon =
          ap (λ (m : WorkerMade). m.settings.from) (ended.made ∙ is.made) in
          record {
            moments = ended.moments;
            most = ended.most;
            horizon = subst AreDrillTurns (sym run.driven.own_are) (law a.pass.by a.worker.made run.past made);
          }

      pub all_made : (name start n : ℕ) (old new : List (Member M Stock Kind G))
          → AreMembersOf name (new_passes hall start n) old
          → length new ≡ length old → AllEnded new
          → HaveEnded StockStandsFor (200 + records / 100) old new
          → AllByRecursion (λ m. IsMemberAccount records (account_in m)) new
      all_made name start n [] [] are same ran ended = tt
      all_made name start n [] (a ∷ new) are same ran ended = absurd (omega arith)
      all_made name start n (b ∷ old) [] are same ran ended = absurd (omega arith)
      all_made name start zero (b ∷ old) (a ∷ new) are same ran ended = absurd are
      all_made name start (suc n) (b ∷ old) (a ∷ new) are same ran ended = (
        one_made name start b a are.0 ran.0 (ended 0 b (omega arith)),
        all_made (name + 1) (start + 1) n old new are.1 (omega arith) ran.1
            (λ i m below. ended (suc i) m (omega arith)),
      )

-- ---- All threads

-- The hall's passes were dealt out to `before`, and `after` are the participants after their threads have ended.
module _ (hall : HallValue) (number records : ℕ) (old new : Participants) (dealt : AreDealt hall old)
    (limit : records ≤ 1000000)
    (root : IsKept old.root new.root) (feeder : IsKept old.feeder new.feeder)
    (same : length new.members.items ≡ length old.members.items) where
  -- Commands made up to some command, and runs that ended or weren't begun, amount to `HaveStopped`.
  pub have_stopped : HasFedSoFar number records new.root new.feeder
      → HaveEndedOrNot StockStandsFor (200 + records / 100) old.members.items new.members.items
      → HaveStopped hall number records new
  have_stopped begun ended =
      let passed = all_passed hall records 1 3 (length old.members.items) old.members.items new.members.items
      dealt.members same ended in
      record {
        limit = limit;
        at = (
          root.hall ∙ ap (λ (p : PassValue). p.hall) dealt.root,
          feeder.hall ∙ ap (λ (p : PassValue). p.hall) dealt.feeder,
        );
        by = (root.by ∙ ap (λ (p : PassValue). p.by) dealt.root, feeder.by ∙ ap (λ (p : PassValue). p.by) dealt.feeder);
        alone = (
          root.joined ∙ ap (λ (p : PassValue). p.joined) dealt.root,
          feeder.joined ∙ ap (λ (p : PassValue). p.joined) dealt.feeder,
        );
        begun = begun;
        passes = passed.0;
        turns = passed.1;
        all = omega (arith, dealt.all, same);
        few = omega (arith, dealt.few, same);
      }

  module _ (fed : HasFed number records new.root new.feeder)
      (ended : HaveEnded StockStandsFor (200 + records / 100) old.members.items new.members.items) where
    pub have_stopped_all : HaveStopped hall number records new
    have_stopped_all = have_stopped (fed_so_far number records new.root new.feeder fed)
        (λ i m below. inl (ended i m below))

    pub have_run : (law : FromHorizon) → AllEnded new.members.items → HaveRun hall number records new
    have_run law ran = record {
      stopped = have_stopped_all;
      fed = fed;
      made = all_made hall records law 1 3 (length old.members.items) old.members.items new.members.items
          dealt.members same ran ended;
    }
