-- The judge's test of entries is equality.
use Rattle.std.proofs.Common.{◌≡◌, ℕ, Bool, true, false, List, [], ◌∷◌, refl, sym, ap, arith}
use Rattle.std.specs.Prelude.{◌==◌}
use Rattle.std.proofs.lemmas.Bool.{and_parts}
use Rattle.std.proofs.lemmas.Bool.Decides.{nat_tests}
use Rattle.kds_base.proofs.Facts.{equal_so, is_itself}
use Rattle.kds_defs.specs.declared.command.Origin.{Origin}
use Rattle.kds_defs.specs.declared.command.Origin.TheVariants as origin
use Rattle.kds_defs.specs.declared.command.Target.{Target}
use Rattle.kds_defs.specs.declared.command.Target.TheVariants as target
use Rattle.kds_defs.specs.declared.entry.Entry.{Entry}
use Rattle.kds_defs.specs.declared.entry.Entry.TheVariants as entry
use Rattle.kds_defs.proofs.Keys.{key_itself, same_ref}
use Rattle.kcl_audit_streams.specs.Verdict.{same_entry, same_flag, same_list, same_origin, same_target}

pub list : (ns : List ℕ) → same_list ns ns ≡ true
list [] = refl
list (n ∷ ns) = rw (is_itself n, list ns) refl

pub flag : (b : Bool) → same_flag b b ≡ true
flag true = refl
flag false = refl

aim : (goal : Target) → same_target goal goal ≡ true
aim target.End = refl
aim (target.At q) = is_itself q

start : (beginning : Origin) → same_origin beginning beginning ≡ true
start origin.TrimHorizon = refl
start origin.Latest = refl
start (origin.Time m) = is_itself m

pub same_refl : (e : Entry) → same_entry e e ≡ true
same_refl (entry.Gone s) = is_itself s
same_refl _ = simp (is_itself, list, flag, aim, start, key_itself) refl

-- ---- What passes the test is equal

pub list_so : (a b : List ℕ) → same_list a b ≡ true → a ≡ b
list_so [] [] h = refl
list_so [] (y ∷ b) h = absurd cc
list_so (x ∷ a) [] h = absurd cc
list_so (x ∷ a) (y ∷ b) h = let p = and_parts (x == y) (same_list a b) h in λ i. equal_so x y p.0 i ∷ list_so a b p.1 i

pub flag_so : (a b : Bool) → same_flag a b ≡ true → a ≡ b
flag_so true b h = sym h
flag_so false _ h = grind arith

aim_so : (a b : Target) → same_target a b ≡ true → a ≡ b
aim_so (target.At q) (target.At p) h = ap target.At (equal_so q p h)
aim_so _ _ h = grind arith

pub origin_so : (a b : Origin) → same_origin a b ≡ true → a ≡ b
origin_so (origin.Time m) (origin.Time n) h = ap origin.Time (equal_so m n h)
origin_so _ _ h = grind arith

pub same_so : (a b : Entry) → same_entry a b ≡ true → a ≡ b
same_so (entry.Made s name count) (entry.Made s' name' count') h = grind (arith, nat_tests, list_so name name')
same_so (entry.Read t limit ended ns) (entry.Read t' limit' ended' ns') h =
    grind (arith, nat_tests, flag_so, list_so ns ns')
same_so _ _ h = grind (arith, nat_tests, flag_so, aim_so, origin_so, same_ref)
