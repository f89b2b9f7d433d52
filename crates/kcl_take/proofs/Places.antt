-- A worker has a lease of a row exactly if the search by key found the index of such a lease.
use Rattle.std.proofs.Common.{◌≡◌, ℕ, Bool, true, false, List, is_some, map, refl}
use Rattle.std.specs.Prelude.{◌&&◌, ◌==◌, slice_get}
use Rattle.std.specs.List.{position}
use Rattle.std.proofs.lemmas.Bool.{and_parts}
use Rattle.kds_defs.specs.Keys.{same_key}
use Rattle.kcl_defs.specs.declared.plans.Held.{Held}
use Rattle.kds_defs.specs.declared.reply.Row.{Row}
use Rattle.kcl_defs.specs.Places.{insertion_index, passes}
use Rattle.kcl_defs.specs.Plans.{AreRising, is_held_at, is_mine}
use Rattle.kcl_defs.proofs.PlaceLemmas.{any_from, any_there, anywhere}

pub mine_anywhere : (r : Row) (held : List Held) → is_some (position (is_held_at r) held) ≡ is_mine held r
mine_anywhere r held = anywhere (is_held_at r) held

pub mine_there : (r : Row) (held : List Held) → AreRising (map (λ (h : Held). h.key) held) → is_mine held r
    ≡ passes (is_held_at r) (slice_get held (insertion_index (λ (h : Held). h.key) r.key held))
mine_there r held rising =
    any_there (λ (h : Held). h.key) r.key (is_held_at r)
    (λ h is. (and_parts (same_key h.key r.key) (h.tenure == r.tenure) is).0) held rising

pub mine_at : (r : Row) (held : List Held) (i : ℕ) → passes (is_held_at r) (slice_get held i) ≡ true
    → is_mine held r ≡ true
mine_at r held i h = any_from (is_held_at r) held i h

pub both_ways : (a b : Bool) → (a && b) ≡ (b && a)
both_ways true true = refl
both_ways true false = refl
both_ways false true = refl
both_ways false false = refl
