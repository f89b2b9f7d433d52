-- After CreateStream, a generator's commands are puts, splits and merges, so all its commands are basic.
use Rattle.std.proofs.Common.{◌≡◌, ℕ, zero, suc, ◌+◌, Bool, true, false, List, [], ◌∷◌, Option, Some, None, refl, sym}
use Rattle.std.proofs.Common.{subst}
use Rattle.std.specs.Prelude.{map, cond, reverse}
use Rattle.std.specs.List.{AllByRecursion}
use Rattle.std.proofs.lemmas.List.{reverse-append}
use Rattle.kds_base.proofs.Facts.{all_append, all_weaker}
use Rattle.kds_defs.specs.declared.command.Command.{Command}
use Rattle.kds_defs.specs.declared.command.Command.TheVariants as command
use Rattle.kds_defs.specs.declared.command.Turn.{Turn}
use Rattle.kds_defs.specs.Kinds.{is_service}
use Rattle.kcl_drill.specs.declared.limits.TheConstants.{FIRST_SHARDS}
use Rattle.kcl_drill.specs.declared.plan.Plan.{Plan}
use Rattle.kcl_drill.specs.declared.plan.Plan.TheVariants.{Split, Merge}
use Rattle.kcl_drill.specs.Apart.{AreBasic, is_basic, service_turns}
use Rattle.kcl_drill.specs.Generated.{Opens, draw, drill_name, first_open, generated, from_record, plan, opens_then}
use Rattle.kcl_drill.specs.Generated.{with_plan}

-- The command is a put of one record, a split or a merge.
abbrev pub IsInner : Command → Type 0
IsInner (command.Put name item) = Unit {0}
IsInner (command.Split name sh hash) = Unit {0}
IsInner (command.Merge name sh other) = Unit {0}
IsInner _ = ⊥

plan_inner : (o : Option Plan) (more : List Command) → AllByRecursion IsInner more
    → AllByRecursion IsInner (with_plan o more)
plan_inner None more are = are
plan_inner (Some (Split x)) more are = (tt, are)
plan_inner (Some (Merge x y)) more are = (tt, are)

pub generated_inner : (i left x : ℕ) (opens : Opens) → AllByRecursion IsInner (from_record i left x opens)
generated_inner i zero x opens = tt
generated_inner i (suc left) x opens = (
  tt,
  plan_inner (plan (i + 1) (draw x) opens) _
      (generated_inner (i + 1) left (draw x) (opens_then opens (plan (i + 1) (draw x) opens))),
)

pub all_reverse : (xs : List Command) → AllByRecursion IsInner xs → AllByRecursion IsInner (reverse xs)
all_reverse [] are = tt
all_reverse (x ∷ xs) are =
    subst (AllByRecursion IsInner) (sym (reverse-append (x ∷ []) xs))
    (all_append IsInner (reverse xs) (x ∷ []) (all_reverse xs are.1) (are.0, tt))

-- ---- A history whose commands for the stream service are a generator's

inner_basic : (asked : Command) → IsInner asked → is_basic asked ≡ true
inner_basic (command.Put name item) is = refl
inner_basic (command.Split name sh hash) is = refl
inner_basic (command.Merge name sh other) is = refl
inner_basic _ is = absurd is

-- Each of the commands is basic.
abbrev AreBasicCommands : List Command → Type 0
AreBasicCommands cs = AllByRecursion (λ asked. is_basic asked ≡ true) cs

generated_basic : (number records : ℕ) → AreBasicCommands (reverse (generated number records))
generated_basic number records =
    let rest = from_record 0 records number first_open in
    subst AreBasicCommands (sym (reverse-append (command.Create drill_name FIRST_SHARDS ∷ []) rest))
    (all_append (λ asked. is_basic asked ≡ true) (reverse rest) (command.Create drill_name FIRST_SHARDS ∷ [])
    (all_weaker IsInner (λ asked. is_basic asked ≡ true) inner_basic (reverse rest)
    (all_reverse rest (generated_inner 0 records number first_open)))
    (refl, tt))

turns_basic : (ts : List Turn) → AreBasicCommands (map (λ turn. turn.what) ts) → AreBasic ts
turns_basic [] are = tt
turns_basic (turn ∷ ts) are = (are.0, turns_basic ts are.1)

pub lease_basic : (asked : Command) → is_service asked ≡ false → is_basic asked ≡ true
lease_basic (command.Scale name target) is = cc
lease_basic _ is = cc

all_basic : (h : List Turn) → AreBasic (service_turns h) → AreBasic h
all_basic [] are = tt
all_basic (turn ∷ h) are = either (is_service turn.what) refl are (all_basic h)
  where
    either : (b : Bool) → is_service turn.what ≡ b → AreBasic (cond b (turn ∷ service_turns h) (service_turns h))
        → (AreBasic (service_turns h) → AreBasic h)
        → AreBasic (turn ∷ h)
    either true is are rest = (are.0, rest are.1)
    either false is are rest = (lease_basic turn.what is, rest are)

pub basic_if_generated : (h : List Turn) (number records : ℕ)
    → map (λ turn. turn.what) (service_turns h) ≡ reverse (generated number records) → AreBasic h
basic_if_generated h number records is =
    all_basic h (turns_basic (service_turns h) (subst AreBasicCommands (sym is) (generated_basic number records)))
