-- A good entry's stream is live, and is the one that the judge reads and changes.
use Rattle.std.proofs.Common.{◌≡◌, ◌≢◌, ℕ, zero, suc, ◌-◌, ◌≤◌, Bool, true, false, List, [], ◌∷◌, slice_get, slice_set}
use Rattle.std.proofs.Common.{slice_index_or, Option, Some, None, refl, sym, ap, ◌∙◌, arith}
use Rattle.std.specs.Prelude.{if◌then◌else◌, Result, Ok, Err, OnOk}
use Rattle.std.proofs.lemmas.Bool.Decides.{nat_tests}
use Rattle.std.proofs.lemmas.Option.{get_or_from_slice_get}
use Rattle.kds_defs.specs.declared.reply.Refusal.{Refusal}
use Rattle.kds_defs.specs.StreamCommands.{last_number}
use Rattle.kds_tree.specs.Tree.{merge_refusal, split_refusal}
use Rattle.kcl_audit_streams.specs.Judging.{agrees, changed_at, in_live, merge_verdict, refused_by}
use Rattle.kcl_audit_streams.specs.Judging.{split_verdict}
use Rattle.kcl_audit_streams.specs.Standing.{StreamValue, if_live, live_at}
use Rattle.kcl_audit_streams.specs.Verdict.{Verdict}

-- ---- The stream of a good entry

-- The stream `s` exists and is live, and the verdict on it is Ok.
pub record IsOf (vs : List StreamValue) (s : ℕ) (f : StreamValue → Verdict) : Type 0 where
  pub value : StreamValue
  pub some : 1 ≤ s
  pub at : slice_get vs (s - 1) ≡ Some value
  pub live : value.live ≡ true
  pub good : f value ≡ Ok tt

by_state : (vs : List StreamValue) (i : ℕ) (f : StreamValue → Verdict) (v : StreamValue) (b : Bool)
    → slice_get vs i ≡ Some v → v.live ≡ b → in_live (if b then Some v else None) f ≡ Ok tt → IsOf vs (suc i) f
by_state vs i f v true is live good =
    let same : suc i - 1 ≡ i = omega arith in
    record { value = v; some = omega arith; at = ap (slice_get vs) same ∙ is; live = live; good = good }
by_state vs i f v false is live good = absurd cc

by_index : (vs : List StreamValue) (i : ℕ) (f : StreamValue → Verdict) (o : Option StreamValue) → slice_get vs i ≡ o
    → in_live (if_live o) f ≡ Ok tt → IsOf vs (suc i) f
by_index vs i f None is good = absurd cc
by_index vs i f (Some v) is good = by_state vs i f v v.live is refl good

pub is_of : (vs : List StreamValue) (s : ℕ) (f : StreamValue → Verdict) → in_live (live_at vs s) f ≡ Ok tt → IsOf vs s f
is_of vs zero f good = absurd cc
is_of vs (suc i) f good = by_index vs i f (slice_get vs i) refl good

-- ---- The stream that is read and changed

changed_get : (vs : List StreamValue) (i : ℕ) (g : StreamValue → StreamValue) (v : StreamValue)
    → slice_get vs i ≡ Some v → slice_set vs i (g v) ≡ changed_at i g vs
changed_get [] i g v is = absurd cc
changed_get (u ∷ vs) zero g v is = let same : u ≡ v = cc in ap (λ (x : StreamValue). g x ∷ vs) (sym same)
changed_get (u ∷ vs) (suc i) g v is = ap (λ xs. u ∷ xs) (changed_get vs i g v is)

-- The verdict `f` on the live stream `s` is Ok, and `old` is the stream that is read.
module _ (vs : List StreamValue) (s : ℕ) (f : StreamValue → Verdict) (good : in_live (live_at vs s) f ≡ Ok tt) (i : ℕ)
    (is : i ≡ s) where
  module _ (old : StreamValue) (read : old ≡ slice_index_or vs (i - 1) old) where
    same_value : old ≡ (is_of vs s f good).value
    same_value = let o = is_of vs s f good in
        read ∙ get_or_from_slice_get vs (i - 1) o.value old (ap (λ n. slice_get vs (n - 1)) is ∙ o.at)

    pub good_there : f old ≡ Ok tt
    good_there = let o = is_of vs s f good in ap f same_value ∙ o.good

    pub changed_there : (g : StreamValue → StreamValue) (new : StreamValue) → new ≡ g old
        → slice_set vs (i - 1) new ≡ changed_at (s - 1) g vs
    changed_there g new e =
        let o = is_of vs s f good in
        ap (λ n. slice_set vs (n - 1) new) is
        ∙ ap (slice_set vs (s - 1)) (e ∙ ap g same_value)
        ∙ changed_get vs (s - 1) g o.value o.at

    pub changed_if : {E : Type 0} (r : Result (Unit {0}) E) (g : StreamValue → StreamValue) (new : StreamValue)
        → OnOk r (new ≡ g old) → OnOk r (slice_set vs (i - 1) new ≡ changed_at (s - 1) g vs)
    changed_if (Ok u) g new e = changed_there g new e
    changed_if (Err x) g new e = tt

-- ---- What follows from a good entry

pub agrees_so : (b : Bool) → agrees b ≡ Ok tt → b ≡ true
agrees_so true h = refl
agrees_so false h = absurd cc

pub past_by : (o : Option Refusal) (next : Verdict) → refused_by o next ≡ Ok tt → (o ≡ None) × (next ≡ Ok tt)
past_by (Some r) next h = absurd cc
past_by None next h = (refl, h)

-- `number` is the stream's next sequence number, and not the last possible one.
abbrev pub Draws : StreamValue → ℕ → Type 0
Draws v number = (number ≡ v.next) × (v.next ≢ last_number)

pub split_draws : (v : StreamValue) (clock sh hash : ℕ) (full : Bool) (number low high : ℕ)
    → split_verdict v clock sh hash full number low high ≡ Ok tt → (split_refusal v.tree sh hash ≡ None)
    × Draws v number
split_draws v clock sh hash full number low high h =
    (grind (arith, nat_tests, h), (grind (arith, nat_tests, h), grind (arith, nat_tests, h)))

pub merge_draws : (v : StreamValue) (clock sh other number child : ℕ)
    → merge_verdict v clock sh other number child ≡ Ok tt → (merge_refusal v.tree sh other ≡ None) × Draws v number
merge_draws v clock sh other number child h =
    (grind (arith, nat_tests, h), (grind (arith, nat_tests, h), grind (arith, nat_tests, h)))
