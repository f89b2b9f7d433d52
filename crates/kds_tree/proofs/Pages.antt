-- A page with room for all listed shards lacks none, and a number that no shard has adds nothing.
use Rattle.std.proofs.Common.{◌≡◌, ℕ, zero, suc, ◌≤◌, false, List, [], ◌∷◌, ◌++◌, length, take, Option, None, refl, sym}
use Rattle.std.proofs.Common.{ap, subst, arith}
use Rattle.std.specs.Prelude.{nat_lt, slice_get}
use Rattle.std.proofs.lemmas.Bool.Decides.{nat_tests}
use Rattle.std.proofs.lemmas.List.{append-nil}
use Rattle.std.proofs.lemmas.Option.{slice_get_past}
use Rattle.kds_base.specs.declared.lease_key.ShardRef.{ShardRef}
use Rattle.kds_defs.specs.declared.reply.Shard.{Shard}
use Rattle.kds_defs.specs.Listings.{refs_of}
use Rattle.kds_defs.specs.Shards.{ShardState, listed_among}
use Rattle.kds_tree.specs.Front.{Lists, listing, picked_before}

take_whole : (n : ℕ) (xs : List Shard) → length xs ≤ n → take n xs ≡ xs
take_whole zero [] le = refl
take_whole zero (x ∷ xs) le = absurd (omega arith)
take_whole (suc n) [] le = refl
take_whole (suc n) (x ∷ xs) le = ap (λ us. x ∷ us) (take_whole n xs (omega arith))

false_lt : (n m : ℕ) → m ≤ n → false ≡ nat_lt n m
false_lt n m h = grind (arith, nat_tests)

whole : (limit : ℕ) (listed : List Shard) → length listed ≤ limit → Lists limit listed listed false
whole limit listed few =
    record { shards = sym (take_whole limit listed few); told = false_lt limit (length listed) few }

lt_false : (n m : ℕ) → false ≡ nat_lt n m → m ≤ n
lt_false n m e = grind (arith, nat_tests)

pub none_there : (xs : List ShardState) (i number : ℕ) → i ≡ number → false ≡ nat_lt i (length xs)
    → slice_get xs number ≡ None
none_there xs i number is e = slice_get_past xs number (omega (arith, is, lt_false i (length xs) e))

pub none_more : (limit : ℕ) (cut : Option ℕ) (listed : List Shard) (o : Option ShardState) → o ≡ None
    → length listed ≤ limit
    → Lists limit (listed ++ listing cut (picked_before o [])) listed false
none_more limit cut listed o none few =
    subst (λ (p : Option ShardState). Lists limit (listed ++ listing cut (picked_before p [])) listed false) (sym none)
    (subst (λ (us : List Shard). Lists limit us listed false) (sym (append-nil listed)) (whole limit listed few))

pub no_key : (s floor : ℕ) (keys : List ShardRef) (o : Option ShardState) → o ≡ None
    → keys ≡ keys ++ refs_of s (listed_among floor (picked_before o []))
no_key s floor keys o none =
    subst (λ (p : Option ShardState). keys ≡ keys ++ refs_of s (listed_among floor (picked_before p []))) (sym none)
    (sym (append-nil keys))
