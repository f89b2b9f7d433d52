-- In a drill's history (`IsFed`), the stream service's commands are the generator's, in order.
use Rattle.std.proofs.Common.{◌≡◌, ℕ, suc, ◌+◌, Bool, true, false, List, [], ◌∷◌, ◌++◌, length, refl, sym, ap, subst}
use Rattle.std.proofs.Common.{◌∙◌, arith}
use Rattle.std.specs.Prelude.{◌==◌, cond, reverse}
use Rattle.std.specs.List.{filter, AllByRecursion}
use Rattle.std.proofs.lemmas.List.Elements.{filter-append}
use Rattle.std.proofs.lemmas.List.{append-nil, length-append, length-map, map-append, nil_from_length, reverse-append}
use Rattle.kds_base.proofs.Facts.{is_equal}
use Rattle.kds_defs.specs.declared.command.Command.{Command}
use Rattle.kds_defs.specs.declared.command.Command.TheVariants as command
use Rattle.kds_defs.specs.declared.command.Turn.{Turn}
use Rattle.kds_defs.specs.Kinds.{is_service}
use Rattle.kcl_drill.specs.declared.limits.TheConstants.{FIRST_SHARDS}
use Rattle.kcl_drill.specs.Apart.{service_turns}
use Rattle.kcl_drill.specs.Fed.{IsFed, commands_in, is_by, turns_by}
use Rattle.kcl_drill.specs.Generated.{drill_name, first_open, from_record, generated}
use Rattle.kcl_drill.proofs.Inner.{IsInner, all_reverse, generated_inner}

-- ---- Filtered lists

none_around : (xs : List Turn) (x : Turn) (ys : List Turn) → length (xs ++ x ∷ ys) ≡ 1 → (xs ≡ []) × (ys ≡ [])
none_around xs x ys is =
    let n : length (xs ++ x ∷ ys) ≡ length xs + suc (length ys) = length-append xs (x ∷ ys) in
    (nil_from_length xs (omega arith), nil_from_length ys (omega arith))

none_by : (b : Bool) (p : Turn → Bool) (x : Turn) (xs : List Turn) → p x ≡ b
    → cond b (x ∷ filter p xs) (filter p xs) ≡ [] → (p x ≡ false) × (filter p xs ≡ [])
none_by true p x xs is none = absurd cc
none_by false p x xs is none = (is, none)

-- ---- The turns for the stream service

-- If the turn is by neither the root nor the feeder, its command is on leases.
abbrev OnLeases : ℕ → ℕ → Turn → Type 0
OnLeases root feeder turn = (turn.by == root) ≡ false → (turn.by == feeder) ≡ false → is_service turn.what ≡ false

all_left : (P : Turn → Type 0) (xs ys : List Turn) → AllByRecursion P (xs ++ ys) → AllByRecursion P xs
all_left P [] ys are = tt
all_left P (x ∷ xs) ys are = (are.0, all_left P xs ys are.1)

all_right : (P : Turn → Type 0) (xs ys : List Turn) → AllByRecursion P (xs ++ ys) → AllByRecursion P ys
all_right P [] ys are = are
all_right P (x ∷ xs) ys are = all_right P xs ys are.1

fed_alone : (root feeder : ℕ) (ts : List Turn) → turns_by root ts ≡ [] → AllByRecursion (OnLeases root feeder) ts
    → AllByRecursion (λ turn. is_service turn.what ≡ true) (turns_by feeder ts) → service_turns ts ≡ turns_by feeder ts
fed_alone root feeder [] none others are = refl
fed_alone root feeder (turn ∷ ts) none others are =
    let apart = none_by (turn.by == root) (is_by root) turn ts refl none in
    either (turn.by == feeder) refl apart.0 are (fed_alone root feeder ts apart.1 others.1)
  where
    either : (b : Bool) → (turn.by == feeder) ≡ b → (turn.by == root) ≡ false
        → AllByRecursion (λ turn. is_service turn.what ≡ true) (cond b (turn ∷ turns_by feeder ts) (turns_by feeder ts))
        → (AllByRecursion (λ turn. is_service turn.what ≡ true) (turns_by feeder ts)
        → service_turns ts ≡ turns_by feeder ts)
        → service_turns (turn ∷ ts) ≡ cond b (turn ∷ turns_by feeder ts) (turns_by feeder ts)
    either true is not_root are so = ap (λ b. cond b (turn ∷ service_turns ts) (service_turns ts)) are.0
        ∙ ap (λ xs. turn ∷ xs) (so are.1)
    either false is not_root are so =
        ap (λ b. cond b (turn ∷ service_turns ts) (service_turns ts)) (others.0 not_root is) ∙ so are

-- ---- The generator's commands are for the stream service

inner_service : (asked : Command) → IsInner asked → is_service asked ≡ true
inner_service (command.Put name item) is = refl
inner_service (command.Split name sh hash) is = refl
inner_service (command.Merge name sh other) is = refl
inner_service _ is = absurd is

services_of : (ts : List Turn) (commands : List Command) → commands_in ts ≡ commands → AllByRecursion IsInner commands
    → AllByRecursion (λ turn. is_service turn.what ≡ true) ts
services_of ts commands is are = cases ts (subst (AllByRecursion IsInner) (sym is) are)
  where
    cases : (ts : List Turn) → AllByRecursion IsInner (commands_in ts)
        → AllByRecursion (λ turn. is_service turn.what ≡ true) ts
    cases [] are = tt
    cases (turn ∷ ts) are = (inner_service turn.what are.0, cases ts are.1)

-- ---- The order of the commands

same_head : (a b : Command) → a ∷ [] ≡ b ∷ [] → a ≡ b
same_head a b is = cc (is)

ordered : (number records root feeder : ℕ) (newer older : List Turn) (first : Turn) → first.by ≡ root
    → commands_in (turns_by root (newer ++ first ∷ older)) ≡ command.Create drill_name FIRST_SHARDS ∷ []
    → commands_in (turns_by feeder (newer ++ first ∷ older)) ≡ reverse (from_record 0 records number first_open)
    → turns_by feeder older ≡ [] → (root == feeder) ≡ false
    → AllByRecursion (OnLeases root feeder) (newer ++ first ∷ older)
    → commands_in (service_turns (newer ++ first ∷ older)) ≡ reverse (generated number records)
ordered number records root feeder newer older first of_root made fed after apart others =
    let mine : (first.by == root) ≡ true = is_equal first.by root of_root in
    let not_fed : (first.by == feeder) ≡ false = ap (λ n. n == feeder) of_root ∙ apart in
    let cut : turns_by root (newer ++ first ∷ older) ≡ turns_by root newer ++ first ∷ turns_by root older =
    filter-append (is_by root) newer (first ∷ older)
    ∙ ap (λ b. turns_by root newer ++ cond b (first ∷ turns_by root older) (turns_by root older)) mine in
    let one : length (turns_by root newer ++ first ∷ turns_by root older) ≡ 1 =
    ap length (sym cut) ∙ sym (length-map (turns_by root (newer ++ first ∷ older)) (λ turn. turn.what))
    ∙ ap length made in
    let around = none_around (turns_by root newer) first (turns_by root older) one in
    let is_what : first.what ∷ [] ≡ command.Create drill_name FIRST_SHARDS ∷ [] =
    ap (λ xs. commands_in (xs ++ first ∷ [])) (sym around.0)
    ∙ ap (λ ys. commands_in (turns_by root newer ++ first ∷ ys)) (sym around.1)
    ∙ ap commands_in (sym cut) ∙ made in
    let fed_cut : turns_by feeder (newer ++ first ∷ older) ≡ turns_by feeder newer =
    filter-append (is_by feeder) newer (first ∷ older)
    ∙ ap (λ b. turns_by feeder newer ++ cond b (first ∷ turns_by feeder older) (turns_by feeder older)) not_fed
    ∙ ap (λ ys. turns_by feeder newer ++ ys) after ∙ append-nil (turns_by feeder newer) in
    let commands : commands_in (turns_by feeder newer) ≡ reverse (from_record 0 records number first_open) =
    ap commands_in (sym fed_cut) ∙ fed in
    let services = services_of (turns_by feeder newer) _ commands
    (all_reverse (from_record 0 records number first_open) (generated_inner 0 records number first_open)) in
    let new = fed_alone root feeder newer around.0 (all_left (OnLeases root feeder) newer (first ∷ older) others)
    services in
    let old =
    fed_alone root feeder older around.1 (all_right (OnLeases root feeder) newer (first ∷ older) others).1
    (subst (AllByRecursion (λ turn. is_service turn.what ≡ true)) (sym after) tt) ∙ after in
    let first_service : is_service first.what ≡ true =
    ap is_service (same_head first.what (command.Create drill_name FIRST_SHARDS) is_what) in
    ap commands_in (filter-append (λ t. is_service t.what) newer (first ∷ older)
    ∙ ap (λ b. service_turns newer ++ cond b (first ∷ service_turns older) (service_turns older)) first_service
    ∙ ap (λ ys. service_turns newer ++ first ∷ ys) old
    ∙ ap (λ xs. xs ++ first ∷ []) new)
    ∙ map-append (λ turn. turn.what) (turns_by feeder newer) (first ∷ [])
    ∙ ap (λ xs. xs ++ first.what ∷ []) commands
    ∙ ap (λ xs. reverse (from_record 0 records number first_open) ++ xs) is_what
    ∙ sym (reverse-append (command.Create drill_name FIRST_SHARDS ∷ []) (from_record 0 records number first_open))

pub in_order : (number records root feeder : ℕ) (h : List Turn) → (root == feeder) ≡ false
    → IsFed number records root feeder h → commands_in (service_turns h) ≡ reverse (generated number records)
in_order number records root feeder h apart is =
    ap (λ ts. commands_in (service_turns ts)) is.around
    ∙ ordered number records root feeder is.newer is.older is.first is.of_root
    (ap (λ ts. commands_in (turns_by root ts)) (sym is.around) ∙ is.made)
    (ap (λ ts. commands_in (turns_by feeder ts)) (sym is.around) ∙ is.fed)
    is.after apart (subst (AllByRecursion (OnLeases root feeder)) is.around is.others)
