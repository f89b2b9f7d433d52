-- A drill's history once its threads have ended: short, before 24 hours, with the generator's commands.
use Rattle.std.proofs.Common.{◌≡◌, ℕ, zero, suc, ◌+◌, ◌*◌, ◌<◌, ◌≤◌, false, List, [], ◌∷◌, ◌++◌, length, map, Option}
use Rattle.std.proofs.Common.{Some, None, refl, sym, ap}
use Rattle.std.proofs.Common.{subst, ◌∙◌, arith, append_assoc, le_refl, length-append, length-take, take_all}
use Rattle.std.specs.Prelude.{◌==◌, ◌^◌, reverse, drop, take}
use Rattle.std.specs.List.{AllByRecursion}
use Rattle.std.proofs.lemmas.List.{length-map, length-reverse, nil_from_length, reverse-append}
use Rattle.std.proofs.lemmas.List.Elements.{filter-append}
use Rattle.kds_base.proofs.Facts.{is_itself}
use Rattle.kds_defs.specs.declared.command.Command.{Command}
use Rattle.kds_defs.specs.declared.command.Command.TheVariants as command
use Rattle.kds_defs.specs.declared.command.Turn.{Turn}
use Rattle.kds_defs.specs.Histories.{clock}
use Rattle.kds_defs.specs.Kinds.{is_service}
use Rattle.kds_turn.specs.declared.view.Account.{Account}
use Rattle.kds_turn.specs.Known.{is_by, turns_by}
use Rattle.kds_turn.specs.Passes.{PassValue}
use Rattle.kcl_live.specs.Records.{AreOnLeasesAt}
use Rattle.kcl_drill.specs.declared.limits.TheConstants.{FIRST_SHARDS}
use Rattle.kcl_drill.specs.declared.plan.Plan.{Plan}
use Rattle.kcl_drill.specs.declared.plan.Plan.TheVariants.{Split, Merge}
use Rattle.kcl_drill.specs.Apart.{LEAST_RETENTION}
use Rattle.kcl_drill.specs.Fed.{IsFed, commands_in}
use Rattle.kcl_drill.specs.Generated.{Opens, draw, drill_name, first_open, from_record, generated, opens_then, plan}
use Rattle.kcl_drill.specs.Generated.{with_plan}
use Rattle.kcl_drill_threads.specs.Asking.{HasAsked, HasBegun, turn_of, turns_of}
use Rattle.kcl_drill_threads.specs.Feeding.{HasFed, HasFedSoFar}
use Rattle.kcl_drill_laws.specs.Closed.{AreDrillTurns, IsClosed, IsDrillCommand, IsFew, IsMemberAccount, IsStopped}
use Rattle.kcl_drill_laws.specs.Closed.{all_accounts}
use Rattle.kcl_drill_laws.proofs.Accounts.{all_turns, clock_by, count_of, few_turns}
use Rattle.kcl_laws.proofs.Batches.{all_push}

-- ---- The commands of turns

commands_of : (actor : ℕ) (cs : List Command) → commands_in (map (turn_of actor) cs) ≡ cs
commands_of actor [] = refl
commands_of actor (c ∷ cs) = ap (λ xs. c ∷ xs) (commands_of actor cs)

all_asked : (P : Turn → Type 0) (actor : ℕ) (cs : List Command) → AllByRecursion (λ asked. P (turn_of actor asked)) cs
    → AllByRecursion P (map (turn_of actor) cs)
all_asked P actor [] are = tt
all_asked P actor (c ∷ cs) are = (are.0, all_asked P actor cs are.1)

all_reverse : (P : Command → Type 0) (xs : List Command) → AllByRecursion P xs → AllByRecursion P (reverse xs)
all_reverse P [] are = tt
all_reverse P (x ∷ xs) are =
    subst (AllByRecursion P) (sym (reverse-append (x ∷ []) xs))
    (all_push P (reverse xs) x (all_reverse P xs are.1) are.0)

always : (P : Command → Type 0) (xs : List Command) → ((asked : Command) → P asked) → AllByRecursion P xs
always P [] is = tt
always P (x ∷ xs) is = (is x, always P xs is)

plan_is : (o : Option Plan) (more : List Command) → AllByRecursion IsDrillCommand more
    → AllByRecursion IsDrillCommand (with_plan o more)
plan_is None more are = are
plan_is (Some (Split x)) more are = (tt, are)
plan_is (Some (Merge x y)) more are = (tt, are)

-- The commands of a generator after CreateStream are commands that a drill may give.
records_are : (i left x : ℕ) (opens : Opens) → AllByRecursion IsDrillCommand (from_record i left x opens)
records_are i zero x opens = tt
records_are i (suc left) x opens = (
  tt,
  plan_is (plan (i + 1) (draw x) opens) _
      (records_are (i + 1) left (draw x) (opens_then opens (plan (i + 1) (draw x) opens))),
)

-- ---- The turns of the members

at_most : (P : Turn → Type 0) (n : ℕ) (turns : List Turn) → length turns ≤ n → AreOnLeasesAt 50 turns
    → ((t : Turn) → t.at ≤ n * 50 → is_service t.what ≡ false → P t) → AllByRecursion P turns
at_most P n [] few is_on is = tt
at_most P n (t ∷ turns) few is_on is =
    (is t (omega (arith, few, is_on.0.0)) is_on.0.1, at_most P n turns (omega arith) is_on.1 is)

member_turns : (P : Turn → Type 0) (records : ℕ) (members : List Account) → records ≤ 1000000
    → AllByRecursion (IsMemberAccount records) members
    → ((t : Turn) → t.at ≤ 30600 * 50 → is_service t.what ≡ false → P t)
    → AllByRecursion (λ a. AllByRecursion P a.turns) members
member_turns P records [] limit ran is = tt
member_turns P records (a ∷ rest) limit ran is = (
  at_most P 30600 a.turns (omega (arith, ran.0.most, limit)) ran.0.moments is,
  member_turns P records rest limit ran.1 is,
)

members_count : (records : ℕ) (members : List Account) → records ≤ 1000000 → AllByRecursion (IsFew records) members
    → count_of members ≤ length members * 30600
members_count records [] limit ran = omega arith
members_count records (a ∷ rest) limit ran =
    let more = members_count records rest limit ran.1 in
    omega (arith, ran.0, limit, more)

are_few : (records : ℕ) (members : List Account) → AllByRecursion (IsMemberAccount records) members
    → AllByRecursion (IsFew records) members
are_few records [] ran = tt
are_few records (a ∷ rest) ran = (ran.0.most, are_few records rest ran.1)

-- ---- The number of commands

with_one : (o : Option Plan) (more : List Command) → length (with_plan o more) ≤ length more + 1
with_one None more = omega arith
with_one (Some p) more = omega arith

pub few_commands : (i left x : ℕ) (opens : Opens) → length (from_record i left x opens) ≤ 2 * left
few_commands i zero x opens = omega arith
few_commands i (suc left) x opens =
    let next = opens_then opens (plan (i + 1) (draw x) opens) in
    let rest = few_commands (i + 1) left (draw x) next in
    let one = with_one (plan (i + 1) (draw x) opens) (from_record (i + 1) left (draw x) next) in
    omega (arith, rest)

length_asked : (actor : ℕ) (cs : List Command) → length (turns_of actor cs) ≡ length cs
length_asked actor cs = length-map (reverse cs) (turn_of actor) ∙ length-reverse cs

few_begun : (actor n : ℕ) (cs : List Command) (own : List Turn) → own ≡ turns_of actor (take n cs)
    → length own ≤ length cs
few_begun actor n cs own e =
    let asked : length own ≡ length (take n cs) = ap length e ∙ length_asked actor (take n cs) in
    omega (arith, asked, length-take n cs)

-- ---- A drill whose threads may have ended early

begun : (cs : List Command) (p : PassValue) → HasAsked cs p → HasBegun cs p
begun cs p asked = (
  length cs,
  subst (λ made. HasAsked made p) (sym (take_all (length cs) cs (le_refl (length cs)))) asked,
)

pub fed_so_far : (number records : ℕ) (root feeder : PassValue) → HasFed number records root feeder
    → HasFedSoFar number records root feeder
fed_so_far number records root feeder fed = record {
  of_root = begun (take 1 (generated number records)) root fed.of_root;
  of_feeder = begun (drop 1 (generated number records)) feeder fed.of_feeder;
  after = λ some. fed.after;
}

pub is_short_stopped : (number records : ℕ) (root feeder : PassValue) (members : List Account) (h : List Turn)
    → IsStopped number records root feeder members h
    → length h < 2 ^ 32
is_short_stopped number records root feeder members h is =
    let rest : List Command = from_record 0 records number first_open in
    let all = few_turns (all_accounts root feeder members) h is.own is.all in
    let first = few_begun root.by is.fed.of_root.0 (take 1 (generated number records)) root.own is.fed.of_root.1 in
    let others = few_begun feeder.by is.fed.of_feeder.0 rest feeder.own is.fed.of_feeder.1 in
    let ran = members_count records members is.limit is.ran in
    let few = few_commands 0 records number first_open in
    omega (arith, all, first, others, ran, few, is.few, is.limit)

-- ---- A drill whose threads ended without an error

none_before : (n : ℕ) (front seen : List Turn) → turns_by n (front ++ seen) ≡ [] → turns_by n seen ≡ []
none_before n front seen none =
    let total : length (turns_by n front ++ turns_by n seen) ≡ 0 =
    ap length (sym (filter-append (is_by n) front seen) ∙ none) in
    nil_from_length (turns_by n seen) (omega (arith, total, length-append (turns_by n front) (turns_by n seen)))

-- All threads of the drill ended without an error (`IsClosed`).
module _ (number records : ℕ) (root feeder : PassValue) (members : List Account) (h : List Turn)
    (is : IsClosed number records root feeder members h) where
  -- The command of the root, which makes the stream.
  abbrev create : Command
  create = command.Create drill_name FIRST_SHARDS

  -- The commands of the feeder.
  abbrev rest : List Command
  rest = from_record 0 records number first_open

  none_older : (own : List Turn) → feeder.own ≡ own → turns_by feeder.by is.fed.after.older ≡ []
  none_older [] e =
      let front = is.seen.0 ++ (is.fed.after.newer ++ root.own) in
      let whole : h ≡ front ++ is.fed.after.older =
      is.seen.1 ∙ ap (λ ts. is.seen.0 ++ ts) (is.fed.after.around
      ∙ sym (append_assoc is.fed.after.newer root.own is.fed.after.older))
      ∙ sym (append_assoc is.seen.0 (is.fed.after.newer ++ root.own) is.fed.after.older) in
      none_before feeder.by front is.fed.after.older (ap (turns_by feeder.by) (sym whole) ∙ is.own.1.0 ∙ e)
  none_older (t ∷ own) e = is.fed.after.none (omega (arith, ap length e))

  -- If the turn is by neither the root nor the feeder, it is on leases.
  abbrev IsOther : Turn → Type 0
  IsOther turn = (turn.by == root.by) ≡ false → (turn.by == feeder.by) ≡ false → is_service turn.what ≡ false

  not_root : (asked : Command) → IsOther (turn_of root.by asked)
  not_root asked a b = let t = sym a ∙ is_itself root.by in absurd cc

  not_feeder : (asked : Command) → IsOther (turn_of feeder.by asked)
  not_feeder asked a b = let t = sym b ∙ is_itself feeder.by in absurd cc

  each_turn : (P : Turn → Type 0) → P (turn_of root.by create)
      → AllByRecursion (λ asked. P (turn_of feeder.by asked)) rest
      → AllByRecursion (λ a. AllByRecursion P a.turns) members → AllByRecursion P h
  each_turn P of_root of_feeder of_members =
      let first : AllByRecursion P root.own = subst (AllByRecursion P) (sym is.fed.of_root) (of_root, tt) in
      let others : AllByRecursion P feeder.own = subst (AllByRecursion P) (sym is.fed.of_feeder)
      (all_asked P feeder.by (reverse rest) (all_reverse (λ asked. P (turn_of feeder.by asked)) rest of_feeder)) in
      all_turns P (all_accounts root feeder members) h is.own is.all (first, (others, of_members))

  leased : (P : Turn → Type 0) → ((t : Turn) → t.at ≤ 30600 * 50 → is_service t.what ≡ false → P t)
      → AllByRecursion (λ a. AllByRecursion P a.turns) members
  leased P is_of = member_turns P records members is.limit is.ran is_of

  -- The root made the first command, and the feeder made the others after it, in order.
  pub is_fed : IsFed number records root.by feeder.by h
  is_fed =
      record {
        newer = is.seen.0 ++ is.fed.after.newer;
        first = turn_of root.by (command.Create drill_name FIRST_SHARDS);
        older = is.fed.after.older;
        around =
            is.seen.1
            ∙ ap (λ ts. is.seen.0 ++ ts) (is.fed.after.around
            ∙ ap (λ own. is.fed.after.newer ++ (own ++ is.fed.after.older)) is.fed.of_root)
            ∙ sym (append_assoc is.seen.0 is.fed.after.newer (turn_of root.by (command.Create drill_name FIRST_SHARDS)
            ∷ is.fed.after.older));
        of_root = refl;
        made = ap commands_in (is.own.0 ∙ is.fed.of_root);
        fed = ap commands_in (is.own.1.0 ∙ is.fed.of_feeder) ∙ commands_of feeder.by (reverse rest);
        after = none_older feeder.own refl;
        others = each_turn IsOther (not_root create)
            (always (λ asked. IsOther (turn_of feeder.by asked)) rest not_feeder)
            (leased IsOther (λ t below service a b. service));
      }

  pub is_short : length h < 2 ^ 32
  is_short = is_short_stopped number records root feeder members h (record {
    limit = is.limit;
    few = is.few;
    fed = fed_so_far number records root feeder is.fed;
    ran = are_few records members is.ran;
    all = is.all;
    own = is.own;
  })

  -- The clock is below 24 hours, so nothing is trimmed.
  pub is_below : clock h < LEAST_RETENTION
  is_below =
      let most = clock_by 1530000 h
      (each_turn (λ t. t.at ≤ 1530000) (omega arith) (always (λ asked. 0 ≤ 1530000) rest (λ _. omega arith))
      (leased (λ t. t.at ≤ 1530000) (λ t below service. below))) in
      omega arith

  horizons : (xs : List Account) → AllByRecursion (IsMemberAccount records) xs
      → AllByRecursion (λ a. AreDrillTurns a.turns) xs
  horizons [] ran = tt
  horizons (a ∷ xs) ran = (ran.0.horizon, horizons xs ran.1)

  pub are_drill_turns : AreDrillTurns h
  are_drill_turns = each_turn (λ t. IsDrillCommand t.what) tt (records_are 0 records number first_open)
      (horizons members is.ran)
