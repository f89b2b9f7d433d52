-- The root makes the generator's first command as its only turn, and the feeder makes the others.
use Rattle.std.proofs.Common.{◌≡◌, ◌⊎◌, inl, inr, ℕ, ◌<◌, Bool, true, false, List, [], ◌∷◌, ◌++◌, length, refl, sym, ap}
use Rattle.std.proofs.Common.{subst, ◌∙◌, arith, append_assoc, Result, Ok, Err}
use Rattle.std.specs.Prelude.{take, drop, IfErr, OnErr, OnOk}
use Rattle.kds_defs.specs.declared.command.Command.{Command}
use Rattle.kds_defs.specs.declared.command.Turn.{Turn}
use Rattle.kds_turn.specs.declared.pass.TurnErr.{TurnErr}
use Rattle.kds_turn.specs.Known.{Continues, turns_by}
use Rattle.kds_turn.specs.Passes.{PassValue}
use Rattle.kds_turn.proofs.Turns.{continues_all}
use Rattle.kcl_drill.specs.Generated.{generated}
use Rattle.kcl_drill_threads.specs.Asking.{Asks, HasAsked, HasBegun, IsAskErr, IsKept, turn_of}
use Rattle.kcl_drill_threads.specs.Feeding.{Feeds, HasFed, HasFedSoFar, IsAfter, IsAtOwn, IsCrowdErr, IsFeedErr}
use Rattle.kcl_drill_threads.proofs.Passing.{asked_more, asked_same, begun_by, kept_all, kept_same, none_before}
use Rattle.kcl_drill_threads.proofs.Passing.{none_before_one}

-- ---- The root

-- The root made the first of `coming`, if any, as its only turn and the newest it has seen; `left` are the others.
pub record HasMadeFirst (coming left : List Command) (p : PassValue) : Type 0 where
  pub asked : HasAsked (take 1 coming) p
  pub left_are : left ≡ drop 1 coming
  pub older : List Turn
  pub seen : p.seen ≡ p.own ++ older

-- A new pass after the generator's next command, if any, has made the first (`HasMadeFirst`).
pub made_first : (more : Bool) (coming left : List Command) (a b : PassValue) → a.own ≡ [] → IsKept a b
    → Asks more coming left a b → HasMadeFirst coming left b
made_first true coming left a b new kept (command, first, answer, is) =
    let own : b.own ≡ turn_of a.by command ∷ [] = is.own ∙ ap (λ ts. turn_of a.by command ∷ ts) new in
    record {
      asked = subst (λ cs. HasAsked (take 1 cs) b) (sym first) (asked_more [] command a b kept.by new is.own);
      left_are = ap (drop 1) (sym first);
      older = is.older;
      seen = is.seen ∙ ap (λ ts. ts ++ is.older) (sym own);
    }
made_first false coming left a b new kept (first, none, same) =
    let own : b.own ≡ [] = ap (λ (p : PassValue). p.own) same ∙ new in
    record {
      asked = subst (λ cs. HasAsked (take 1 cs) b) (sym first) own;
      left_are = none ∙ ap (drop 1) (sym first);
      older = b.seen;
      seen = ap (λ ts. ts ++ b.seen) (sym own);
    }

-- A feeder without turns that has seen all that the root has comes after it (`IsAfter`).
pub learned : (root feeder : PassValue) (older : List Turn) → root.seen ≡ root.own ++ older
    → Continues feeder.seen root.seen → feeder.own ≡ [] → IsAfter root feeder
learned root feeder older seen later none =
    record {
      newer = later.0;
      older = older;
      around = later.1 ∙ ap (λ ts. later.0 ++ ts) seen;
      none = λ some. absurd (omega (arith, some, ap length none));
    }

-- ---- The feeder

-- The feeder made the commands of `all` before `left`, in order, and its last turn is the newest it has seen.
pub record IsFeeding (all left : List Command) (old now : PassValue) : Type 0 where
  pub kept : IsKept old now
  pub made : List Command
  pub parts : all ≡ made ++ left
  pub asked : HasAsked made now
  pub none : 0 < length now.own → turns_by now.by old.seen ≡ []
  pub last : (now.own ≡ []) ⊎ IsAtOwn now

-- A feeder without turns has made none of the commands.
pub feeding_first : (all : List Command) (p : PassValue) → p.own ≡ [] → IsFeeding all all p p
feeding_first all p new =
    record {
      kept = kept_same p;
      made = [];
      parts = refl;
      asked = new;
      none = λ some. absurd (omega (arith, some, ap length new));
      last = inl new;
    }

none_at_first : (coming left : List Command) (old a b : PassValue) → IsKept old a → IsKept a b → a.own ≡ []
    → Asks true coming left a b → turns_by b.by old.seen ≡ []
none_at_first coming left old a b kept next new (command, first, answer, is) =
    let turn = turn_of a.by command in
    let one : turns_by b.by (turn ∷ is.older) ≡ turn ∷ [] = ap (turns_by b.by) (sym is.seen) ∙ is.all_own ∙ is.own
    ∙ ap (λ ts. turn ∷ ts) new in
    let none = none_before_one b.by turn is.older (sym next.by) one in
    none_before b.by is.older old.seen (continues_all is.older a.seen old.seen is.later kept.seen) none

none_still : (old a b : PassValue) → b.by ≡ a.by → IsAtOwn a → (0 < length a.own → turns_by a.by old.seen ≡ [])
    → turns_by b.by old.seen ≡ []
none_still old a b is_by is_at none =
    ap (λ n. turns_by n old.seen) is_by ∙ none (omega (arith, ap length is_at.own))

none_by : (coming left : List Command) (old a b : PassValue) → IsKept old a → IsKept a b
    → (a.own ≡ []) ⊎ IsAtOwn a
    → (0 < length a.own → turns_by a.by old.seen ≡ []) → Asks true coming left a b → turns_by b.by old.seen ≡ []
none_by coming left old a b kept next (inl new) none asks = none_at_first coming left old a b kept next new asks
none_by coming left old a b kept next (inr is_at) none asks = none_still old a b next.by is_at none

-- After the feeder's next command, it has made one command more.
pub feeding_more : (all coming left : List Command) (old a b : PassValue) → IsFeeding all coming old a
    → IsKept a b
    → Asks true coming left a b → IsFeeding all left old b
feeding_more all coming left old a b inv next (command, first, answer, is) =
    record {
      kept = kept_all old a b inv.kept next;
      made = inv.made ++ command ∷ [];
      parts = inv.parts ∙ ap (λ cs. inv.made ++ cs) first ∙ sym (append_assoc inv.made (command ∷ []) left);
      asked = asked_more inv.made command a b next.by inv.asked is.own;
      none = λ _. none_by coming left old a b inv.kept next inv.last inv.none (command, first, answer, is);
      last = inr (record {
        last = turn_of a.by command;
        older = is.older;
        before = a.own;
        seen = is.seen;
        own = is.own;
      });
    }

pub fed_some : (all coming : List Command) (old a b : PassValue) → IsFeeding all coming old a → IsKept a b
    → b.own ≡ a.own → HasBegun all b
fed_some all coming old a b inv next own =
    begun_by inv.made coming all b inv.parts (asked_same inv.made a b next.by own inv.asked)

pub none_after : (all coming : List Command) (old a b : PassValue) → IsFeeding all coming old a → IsKept a b
    → b.own ≡ a.own → 0 < length b.own → turns_by b.by old.seen ≡ []
none_after all coming old a b inv next own some =
    ap (λ n. turns_by n old.seen) next.by ∙ inv.none (omega (arith, some, ap length own))

pub feed_err : (all coming : List Command) (old a b : PassValue) (e : TurnErr) → IsFeeding all coming old a
    → IsAskErr a b e → IsFeedErr b e
feed_err all coming old a b e inv (inl (is, same)) =
    inl (is, subst (λ (p : PassValue). (p.own ≡ []) ⊎ IsAtOwn p) (sym same) inv.last)
feed_err all coming old a b e inv (inr is) = inr is

-- ---- The feeder's turns as a whole

-- A failed command of the feeder leaves its turns as `Feeds` says for this error.
pub feeds_some : (all coming : List Command) (old a b : PassValue) (e : TurnErr) → IsFeeding all coming old a
    → IsKept a b → b.own ≡ a.own → IsAskErr a b e → Feeds {A = Unit {0}} all old b (Err e)
feeds_some all coming old a b e inv next own is =
    record {
      kept = kept_all old a b inv.kept next;
      asked = tt;
      begun = fed_some all coming old a b inv next own;
      none = none_after all coming old a b inv next own;
      err = feed_err all coming old a b e inv is;
    }

-- ---- The root and the feeder together

pub after_feeding : (root mid feeder : PassValue) → IsAfter root mid → IsKept mid feeder
    → (0 < length feeder.own → turns_by feeder.by mid.seen ≡ []) → IsAfter root feeder
after_feeding root mid feeder is kept none =
    record {
      newer = kept.seen.0 ++ is.newer;
      older = is.older;
      around = kept.seen.1 ∙ ap (λ ts. kept.seen.0 ++ ts) is.around
          ∙ sym (append_assoc kept.seen.0 is.newer (root.own ++ is.older));
      none = λ some. none_before feeder.by mid.seen is.older (
        is.newer ++ root.own,
        is.around ∙ sym (append_assoc is.newer root.own is.older),
      ) (none some);
    }

pub has_fed : {A : Type 0} (number records : ℕ) (gen left : List Command) (root mid feeder : PassValue)
    (result : Result A TurnErr) → gen ≡ generated number records → HasAsked (take 1 gen) root → left ≡ drop 1 gen
    → IsAfter root mid → Feeds left mid feeder result → OnOk result (HasFed number records root feeder)
has_fed number records gen left root mid feeder (Err e) is asked rest after feeds = tt
has_fed number records gen left root mid feeder (Ok a) is asked rest after feeds =
    record {
      of_root = subst (λ cs. HasAsked (take 1 cs) root) is asked;
      of_feeder = subst (λ cs. HasAsked cs feeder) (rest ∙ ap (drop 1) is) feeds.asked;
      after = after_feeding root mid feeder after feeds.kept feeds.none;
    }

pub has_fed_so_far : {A : Type 0} (number records : ℕ) (gen left : List Command) (root mid feeder : PassValue)
    (result : Result A TurnErr) → gen ≡ generated number records → HasAsked (take 1 gen) root → left ≡ drop 1 gen
    → IsAfter root mid → Feeds left mid feeder result → OnErr result (HasFedSoFar number records root feeder)
has_fed_so_far number records gen left root mid feeder (Ok a) is asked rest after feeds = tt
has_fed_so_far number records gen left root mid feeder (Err e) is asked rest after feeds =
    record {
      of_root = (1, subst (λ cs. HasAsked (take 1 cs) root) is asked);
      of_feeder = subst (λ cs. HasBegun cs feeder) (rest ∙ ap (drop 1) is) feeds.begun;
      after = λ some. after_feeding root mid feeder after feeds.kept feeds.none;
    }

pub none_fed : (number records : ℕ) (root feeder : PassValue) → root.own ≡ [] → feeder.own ≡ []
    → HasFedSoFar number records root feeder
none_fed number records root feeder first second =
    record {
      of_root = (0, first);
      of_feeder = (0, second);
      after = λ some. absurd (omega (arith, some, ap length second));
    }

pub crowd_err : {A : Type 0} (number records : ℕ) (gen left : List Command) (old root mid feeder : PassValue)
    (result : Result A TurnErr) → gen ≡ generated number records → HasAsked (take 1 gen) root
    → Feeds left mid feeder result → IfErr result (IsCrowdErr old root feeder)
crowd_err number records gen left old root mid feeder (Ok a) is asked feeds = tt
crowd_err number records gen left old root mid feeder (Err e) is asked feeds =
    let first : HasAsked (take 1 (generated number records)) root = subst (λ cs. HasAsked (take 1 cs) root) is asked in
    let one : length root.own ≡ 1 = ap length first in
    inr (omega arith, feeds.err)
