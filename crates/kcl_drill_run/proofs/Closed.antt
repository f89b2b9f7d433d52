-- After the hall was closed, a drill's history is short, and if no thread failed, it is the drill's.
use Rattle.std.proofs.Common.{◌≡◌, ℕ, ◌<◌, ◌^◌, List, [], ◌∷◌, ◌++◌, length, map, sym, ap, subst, ◌∙◌, arith}
use Rattle.std.proofs.Common.{length-append}
use Rattle.std.specs.Prelude.{◌==◌}
use Rattle.std.specs.List.{AllByRecursion}
use Rattle.kds_defs.specs.declared.command.Turn.{Turn}
use Rattle.kds_defs.specs.Histories.{journal}
use Rattle.kds_defs.specs.Lawful.{IsHistory}
use Rattle.kds_turn.specs.declared.view.Account.{Account}
use Rattle.kds_turn.specs.Known.{Continues, account, times}
use Rattle.kds_turn.specs.Passes.{AreAllBy, HasAll, IsSplitInto, HallValue, PassValue, accounts_of}
use Rattle.kcl_drill_laws.specs.Closed.{AreFromHorizon, IsClosed, IsFew, IsMemberAccount, IsStopped, all_accounts}
use Rattle.kcl_drill.specs.Fed.{IsDrill}
use Rattle.kcl_live.specs.declared.crew.Member.{Member}
use Rattle.kcl_world.specs.Standing.{StandsFor, WorldValue}
use Rattle.kds_turn.proofs.Turns.{continues_all}
use Rattle.kcl_drill_run.specs.Running.{AreShort, HasDrilled, HasTaken, HaveRun, HaveStopped, IsShort, account_in}
use Rattle.kcl_drill_run.specs.declared.participants.Participants.{Participants}
use Rattle.kcl_drill_run.proofs.Accounts.{count_accounts, counted, each_alone, has_each, of_accounts}

-- Two laws taken as given: without failed threads the history is the drill's, and its rows are from TRIM_HORIZON.
pub record HasLaws : Type 0 where
  pub drill : (number records : ℕ) (root feeder : PassValue) (members : List Account) (h : List Turn)
      → IsClosed number records root feeder members h
      → IsDrill h number records
  pub horizon : (number records : ℕ) (root feeder : PassValue) (members : List Account) (h : List Turn)
      → IsClosed number records root feeder members h
      → AreFromHorizon (journal h)

-- The law, taken as given, that a drill whose threads have ended, perhaps early, has fewer than 2^32 turns.
abbrev pub StoppedIsShort : Type 0
StoppedIsShort = (number records : ℕ) (root feeder : PassValue) (members : List Account) (h : List Turn)
    → IsStopped number records root feeder members h
    → length h < 2 ^ 32

short_of : (h seen : List Turn) → Continues h seen → length h < 2 ^ 32 → length seen < 2 ^ 32
short_of h seen more short = omega (arith, short, ap length more.1, length-append more.0 seen)

short_members : {M P F G : Type 0} (h last : List Turn) (ms : List (Member M P F G)) → Continues h last
    → length h < 2 ^ 32
    → AllByRecursion (λ m. Continues last m.pass.seen) ms → AllByRecursion (λ m. IsShort m.pass) ms
short_members h last [] more short are = tt
short_members h last (m ∷ ms) more short are = (
  short_of h m.pass.seen (continues_all h last m.pass.seen more are.0) short,
  short_members h last ms more short are.1,
)

-- The threads have ended, perhaps early, and all other passes were joined into `last`.
module _ (hall : HallValue) (number records : ℕ) (p : Participants) (is : HaveStopped hall number records p)
    (last : PassValue) (taken : HasTaken p last) where
  -- The accounts of the workers.
  abbrev xs : List Account
  xs = map account_in p.members.items

  long : length xs ≡ length p.members.items
  long = count_accounts p.members.items

  accounts_are : accounts_of last ≡ all_accounts p.root p.feeder xs
  accounts_are =
      ap (λ n. account n last.own ∷ last.joined) taken.by
      ∙ ap (λ turns. account p.root.by turns ∷ last.joined) taken.own
      ∙ ap (λ (as' : List Account). account p.root.by p.root.own ∷ as') taken.joined
      ∙ ap (λ (ys : List Account). account p.root.by p.root.own ∷ (p.root.joined ++ (accounts_of p.feeder ++ ys)))
      (each_alone hall 3 p.members.items is.passes)
      ∙ ap (λ (js : List Account). account p.root.by p.root.own ∷ (js ++ (accounts_of p.feeder ++ xs))) is.alone.0
      ∙ ap (λ (js : List Account). account p.root.by p.root.own ∷ account p.feeder.by p.feeder.own ∷ (js ++ xs))
      is.alone.1

  -- The pass `last` has an account for each pass of the hall.
  pub has_all : HasAll hall.passes last
  has_all n least most =
      subst (λ (accounts : List Account). 0 < times n accounts) (sym accounts_are)
      (has_each p.root p.feeder xs is.by.0 is.by.1 (counted hall 3 p.members.items is.passes) n least
      (omega (arith, most, is.all, long)))

  -- `h` is the history of the closed hall: its turns are exactly the turns of the accounts of `last`.
  module _ (h : List Turn) (all : AreAllBy (accounts_of last) h) (own : IsSplitInto (accounts_of last) h) where
    is_stopped : IsStopped number records p.root p.feeder xs h
    is_stopped = record {
      limit = is.limit;
      few = omega (arith, is.few, long);
      fed = is.begun;
      ran = of_accounts (IsFew records) p.members.items is.turns;
      all = subst (λ accounts. AreAllBy accounts h) accounts_are all;
      own = subst (λ accounts. IsSplitInto accounts h) accounts_are own;
    }

    module _ (law : StoppedIsShort) (seen : Continues h last.seen) where
      pub is_short : length h < 2 ^ 32
      is_short = law number records p.root p.feeder xs h is_stopped

      pub are_short : AreShort p
      are_short = record {
        root = short_of h p.root.seen (continues_all h last.seen p.root.seen seen taken.seen_root) is_short;
        feeder = short_of h p.feeder.seen (continues_all h last.seen p.feeder.seen seen taken.seen) is_short;
        members = short_members h last.seen p.members.items seen is_short taken.seen_members;
      }

-- No thread failed (`HaveRun`), and `h` is the history of the closed hall.
module _ (hall : HallValue) (number records : ℕ) (p : Participants) (ran : HaveRun hall number records p)
    (last : PassValue)
    (taken : HasTaken p last)
    (h : List Turn) (lawful : IsHistory h) (seen : Continues h last.seen) (all : AreAllBy (accounts_of last) h)
    (own : IsSplitInto (accounts_of last) h) where
  is_closed : IsClosed number records p.root p.feeder (map account_in p.members.items) h
  is_closed =
      let is = is_stopped hall number records p ran.stopped last taken h all own in
      record {
        limit = is.limit;
        few = is.few;
        apart = ap (λ n. n == p.feeder.by) ran.stopped.by.0 ∙ ap (λ n. 1 == n) ran.stopped.by.1;
        fed = ran.fed;
        ran = of_accounts (IsMemberAccount records) p.members.items ran.made;
        history = lawful;
        seen = continues_all h last.seen p.feeder.seen seen taken.seen;
        all = is.all;
        own = is.own;
      }

  pub has_drilled : (laws : HasLaws) (law : StoppedIsShort) (w : WorldValue) → StandsFor w h
      → HasDrilled number records w
  has_drilled laws law w stands =
      let members : List Account = map account_in p.members.items in
      record {
        turns = h;
        stands = stands;
        drill = laws.drill number records p.root p.feeder members h is_closed;
        few = is_short hall number records p ran.stopped last taken h all own law seen;
        horizon = laws.horizon number records p.root p.feeder members h is_closed;
      }
