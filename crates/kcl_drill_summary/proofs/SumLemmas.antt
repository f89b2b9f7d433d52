-- The entries that the code makes, key by key, are the summary of the drill's shards.
use Rattle.std.proofs.Common.{◌≡◌, ℕ, ◌+◌, ◌<◌, zero, suc, arith, Bool, true, false, List, [], ◌∷◌, ◌++◌, length, map}
use Rattle.std.proofs.Common.{drop, get_or, Option, Some, None, refl, sym, ap, subst, ◌∙◌}
use Rattle.std.specs.Prelude.{◌==◌, cond}
use Rattle.std.specs.List.{AllByRecursion}
use Rattle.std.proofs.Math.Seq.{drop-cons}
use Rattle.std.proofs.lemmas.Bool.Decides.{nat_tests}
use Rattle.std.proofs.lemmas.List.{append_assoc}
use Rattle.kds_base.specs.declared.lease_key.Checkpoint.{Checkpoint}
use Rattle.kds_base.specs.declared.lease_key.ShardRef.{ShardRef}
use Rattle.kds_defs.specs.declared.reply.Row.{Row}
use Rattle.kds_defs.specs.Journal.{Journal}
use Rattle.kds_defs.specs.Leases.{rows, checkpoint_in}
use Rattle.kds_defs.specs.Records.{records}
use Rattle.kcl_drill.specs.Summed.{Summed, bytes_of}
use Rattle.kcl_drill_summary.specs.declared.counting.Count.{Count}
use Rattle.kcl_drill_summary.specs.Counting.{CountsKey, of_stream, row_among, summed_key, told_of}
use Rattle.kcl_drill_summary.proofs.RowLookups.{row_found}

pub all_at : {A : Type 0} (P : A → Type 0) (xs : List A) (i : ℕ) (x : A) → i < length xs → x ≡ get_or xs i x
    → AllByRecursion P xs → P x
all_at P [] i x below is h = absurd (omega arith)
all_at P (y ∷ ys) zero x below is h = subst P (sym is) h.0
all_at P (y ∷ ys) (suc i) x below is h = all_at P ys i x (omega arith) is h.1

-- The entry of a summary for the shard `n`.
abbrev sum : ℕ → ℕ → ℕ → Checkpoint → Summed
sum n count bytes mark = record { no = n; count = count; bytes = bytes; checkpoint = mark }

same_sum : (n count count' bytes bytes' : ℕ) (mark mark' : Checkpoint) → count ≡ count' → bytes ≡ bytes' → mark ≡ mark'
    → sum n count bytes mark ≡ sum n count' bytes' mark'
same_sum n count count' bytes bytes' mark mark' p q r =
    λ i. record { no = n; count = p i; bytes = q i; checkpoint = r i }

-- The summary of the key's shard, as a list; empty if the key is of another stream than `s`.
abbrev first_of : Journal → ℕ → ShardRef → List Summed
first_of log s key = map (summed_key log) (of_stream s (key ∷ []))

same_stream : (a b : ℕ) → (a == b) ≡ true → b ≡ a
same_stream a b h = grind (arith, nat_tests)

pub told_is : (log : Journal) (s : ℕ) (key : ShardRef) (among : List Row) (found : Option Count)
    (checkpoint : Checkpoint)
    → among ≡ rows log → CountsKey log s key found → checkpoint ≡ checkpoint_in (row_among among key)
    → told_of key found checkpoint ≡ first_of log s key
told_is log s key among None checkpoint are other is = ap (λ b. map (summed_key log) (cond b (key ∷ []) [])) (sym other)
told_is log s key among (Some n) checkpoint are counts is =
    let here = same_stream key.stream s counts.0 in
    let rs = λ (t : ℕ). records log t key.shard in
    ap (λ x. x ∷ []) (same_sum key.shard n.count _ n.bytes _ checkpoint _ (counts.1 ∙ ap (λ t. length (rs t)) here)
    (counts.2
    ∙ ap (λ t. bytes_of (rs t)) here)
    (is ∙ ap (λ xs. checkpoint_in (row_among xs key)) are ∙ ap checkpoint_in (row_found log key)))
    ∙ ap (λ b. map (summed_key log) (cond b (key ∷ []) [])) (sym counts.0)

first_rest : (log : Journal) (s : ℕ) (key : ShardRef) (keys : List ShardRef)
    → map (summed_key log) (of_stream s (key ∷ keys)) ≡ first_of log s key ++ map (summed_key log) (of_stream s keys)
first_rest log s key keys = either (key.stream == s)
  where
    either : (b : Bool) → map (summed_key log) (cond b (key ∷ of_stream s keys) (of_stream s keys))
        ≡ map (summed_key log) (cond b (key ∷ []) []) ++ map (summed_key log) (of_stream s keys)
    either true = refl
    either false = refl

-- With the entry of the key at `i` added, entries and remaining keys still make up the summary.
pub told_more : (log : Journal) (s : ℕ) (so_far now : List Summed) (keys : List ShardRef) (i : ℕ) (key : ShardRef)
    (found : Option Count) (checkpoint : Checkpoint) → i < length keys → key ≡ get_or keys i key
    → told_of key found checkpoint ≡ first_of log s key → now ≡ so_far ++ told_of key found checkpoint
    → so_far ++ map (summed_key log) (of_stream s (drop i keys)) ≡ map (summed_key log) (of_stream s keys)
    → now ++ map (summed_key log) (of_stream s (drop (i + 1) keys)) ≡ map (summed_key log) (of_stream s keys)
told_more log s so_far now keys i key found checkpoint below is is_told now_is so =
    let next : suc i ≡ i + 1 = omega arith in
    let f = λ (ks : List ShardRef). map (summed_key log) (of_stream s ks) in
    subst (λ n. now ++ f (drop n keys) ≡ f keys) next
    (ap (λ xs. xs ++ f (drop (suc i) keys)) (now_is ∙ ap (λ ys. so_far ++ ys) is_told)
    ∙ append_assoc so_far (first_of log s key) (f (drop (suc i) keys))
    ∙ ap (λ ys. so_far ++ ys) (sym (first_rest log s key (drop (suc i) keys)))
    ∙ sym (ap (λ ks. so_far ++ f ks) (drop-cons keys i key below ∙ ap (λ k. k ∷ drop (suc i) keys) (sym is)))
    ∙ so)
