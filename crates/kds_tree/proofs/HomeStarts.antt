-- The home of a hash key is the open shard with the last start at or below the key.
use Rattle.std.proofs.Common.{◌≡◌, ℕ, zero, suc, ◌-◌, ◌^◌, ◌<◌, ◌≤◌, Bool, true, false, List, [], ◌∷◌, length, get_or}
use Rattle.std.proofs.Common.{Some, leb, leb-true, refl, sym, ap, subst, ◌∙◌, arith}
use Rattle.std.specs.Prelude.{slice_get}
use Rattle.std.specs.List.{AllByRecursion, filter}
use Rattle.std.specs.List.Sorted.{IsPartitionPoint}
use Rattle.std.proofs.lemmas.Bool.Decides.{nat_tests}
use Rattle.std.proofs.lemmas.List.{get_or_default}
use Rattle.kds_base.specs.Span.{Covers}
use Rattle.kds_defs.specs.Shards.{ShardState, is_open, home_among}
use Rattle.kds_defs.specs.Tiled.{IsOrdered}
use Rattle.kds_tree.specs.Starts.{AreStarts, IsStart, open_start_of}
use Rattle.kds_tree.specs.Tree.{IsTree, IsHome}
use Rattle.kds_tree.specs.declared.start.OpenStart.{OpenStart}
use Rattle.kds_tree.proofs.Homes.{home_is, only}

all_made : (P : ShardState → Type 0) (xs : List ShardState) (i : ℕ) (x : ShardState) → AllByRecursion P xs
    → slice_get xs i ≡ Some x → P x
all_made P [] i x h is = absurd cc
all_made P (y ∷ ys) zero x h is = let e : y ≡ x = cc in subst P e h.0
all_made P (y ∷ ys) (suc i) x h is = all_made P ys i x h.1 is

at_most : (key k : ℕ) → leb key k ≡ true → key ≤ k
at_most key k h = leb-true key k h

below_point : (key k : ℕ) → leb key k ≡ false → key ≤ k → ⊥
below_point key k h le = absurd (grind (arith, nat_tests))

below_unless : (a b : ℕ) (t : Bool) → leb b a ≡ t → (b ≤ a → ⊥) → a < b
below_unless a b true e h = absurd (h (leb-true b a e))
below_unless a b false e h = grind (arith, nat_tests)

module _ (xs : List ShardState) (ss : List OpenStart) (k i : ℕ) (tree : IsTree xs) (starts : AreStarts ss xs)
    (below : k < 2 ^ 128)
    (point : IsPartitionPoint (λ (y : OpenStart). leb y.key k ≡ true) (λ (y : OpenStart). leb y.key k ≡ false) ss i)
    (bound : i ≤ length ss) where
  before_point : (j : ℕ) (d : OpenStart) → j < length ss → (get_or ss j d).key ≤ k → j < i
  before_point j d lt le =
      below_unless j i (leb i j) refl (λ over. below_point (get_or ss j d).key k (point.1 j d over lt) le)

  pub found : (s : OpenStart) → (hash : ℕ) → hash ≡ i - 1 → hash < length ss → s ≡ get_or ss hash s
      → IsHome xs k s.shard
  found s hash is_at within is =
      let h = home_is xs k tree below in
      let member = starts.of.whole (home_among (filter is_open xs) k) h.state h.made h.is_open_now in
      let first = open_start_of h.state (home_among (filter is_open xs) k) in
      let e : (get_or ss member.0 first).key ≡ h.state.range.start = ap (λ (t : OpenStart). t.key) member.2 in
      let low : h.state.range.start ≤ k = h.contains.0 in
      let high : k ≤ h.state.range.end = h.contains.1 in
      let is_before : member.0 < i = before_point member.0 first member.1 (omega arith) in
      let le : s.key ≤ k = at_most s.key k
      (subst (λ (t : OpenStart). leb t.key k ≡ true) (sym is)
      (point.0 hash s (omega arith) (omega arith))) in
      let rises : (get_or ss member.0 s).key ≤ (get_or ss hash s).key =
      starts.order member.0 hash s (omega arith) within in
      let same_default : get_or ss member.0 first ≡ get_or ss member.0 s =
      get_or_default ss member.0 first s member.1 in
      let e' : (get_or ss member.0 s).key ≡ h.state.range.start = ap (λ (t : OpenStart). t.key) (sym same_default)
      ∙ e in
      let top : (get_or ss hash s).key ≡ s.key = ap (λ (t : OpenStart). t.key) (sym is) in
      let stands = subst (λ (t : OpenStart). IsStart xs t) (sym is) (starts.of.each hash s within) in
      let ordered : IsOrdered stands.state =
      all_made IsOrdered xs s.shard stands.state tree.tiled.ordered stands.made in
      let key_below : s.key < 2 ^ 128 = omega arith in
      let in_s : Covers stands.state.range s.key =
      (omega (arith, stands.begins), omega (arith, stands.begins, ordered)) in
      let in_h : Covers h.state.range s.key = (omega arith, omega arith) in
      let same = only xs s.key s.shard (home_among (filter is_open xs) k) stands.state h.state
      (omega (arith, tree.tiled.times s.key key_below)) stands.made stands.is_open_now in_s h.made h.is_open_now
      in_h in
      subst (IsHome xs k) (sym same) h

  pub some_start : (hash : ℕ) → hash ≡ i - 1 → hash < length ss
  some_start hash is_at =
      let h = home_is xs k tree below in
      let member = starts.of.whole (home_among (filter is_open xs) k) h.state h.made h.is_open_now in
      let first = open_start_of h.state (home_among (filter is_open xs) k) in
      let e : (get_or ss member.0 first).key ≡ h.state.range.start = ap (λ (t : OpenStart). t.key) member.2 in
      let low : h.state.range.start ≤ k = h.contains.0 in
      let is_before : member.0 < i = before_point member.0 first member.1 (omega arith) in
      omega (arith, is_at, is_before, member.1, bound)
