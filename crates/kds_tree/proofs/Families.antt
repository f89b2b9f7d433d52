-- The index of first children fits a new stream's shards, and again after each split and merge.
use Rattle.std.proofs.Common.{◌≡◌, inl, inr, ℕ, zero, suc, ◌+◌, ◌<◌, ◌≤◌, Bool, true, false, refl, sym, ap, subst, ◌∙◌}
use Rattle.std.proofs.Common.{arith}
use Rattle.std.proofs.Common.{List, [], ◌∷◌, ◌++◌, length, drop, take, Option, Some, None}
use Rattle.std.specs.Prelude.{◌≢◌, ◌⊎◌, ◌==◌, ◌||◌, cond, replicate, slice_get, slice_set}
use Rattle.std.specs.List.{filter}
use Rattle.std.proofs.lemmas.Bool.{false_from_ne_true}
use Rattle.std.proofs.lemmas.Bool.Decides.{nat_tests}
use Rattle.std.proofs.lemmas.List.{append_assoc, length-append, length-replicate, length-set}
use Rattle.std.proofs.lemmas.Option.{slice_get_within}
use Rattle.kds_base.specs.Span.{Span}
use Rattle.kds_base.proofs.Facts.{apart}
use Rattle.kds_defs.specs.Shards.{ShardState, Closing, children_among, first_shards, is_child, is_open, new_shard}
use Rattle.kds_defs.specs.Shards.{with_closed}
use Rattle.kds_tree.specs.Families.{AreFamilies, MayStandAt, flat}
use Rattle.kds_tree.proofs.OpenStarts.{Closes, IsBehind, closes_one, closes_two, get_back, get_cases, get_front}

-- ---- A shard's children are among the two shards that the index gives

none_passes : (p : ShardState → Bool) (xs : List ShardState)
    → ((index : ℕ) (x : ShardState) → slice_get xs index ≡ Some x → p x ≡ false) → filter p xs ≡ []
none_passes p [] none = refl
none_passes p (x ∷ xs) none =
    ap (λ (b : Bool). cond b (x ∷ filter p xs) (filter p xs)) (none 0 x refl)
    ∙ none_passes p xs (λ index y is. none (suc index) y is)

near : (p : ShardState → Bool) (first : ℕ) (xs : List ShardState)
    → ((index : ℕ) (x : ShardState) → slice_get xs index ≡ Some x → p x ≡ true → (first ≤ index) × (index ≤ first + 1))
    → filter p (take 2 (drop first xs)) ≡ filter p xs
near p zero [] only = refl
near p zero (x ∷ []) only = refl
near p zero (x ∷ y ∷ ys) only =
    let none = none_passes p ys
    (λ index z is. false_from_ne_true (p z) (λ t. absurd (omega (arith, (only (suc (suc index)) z is t).1)))) in
    ap (λ zs. cond (p x) (x ∷ cond (p y) (y ∷ zs) zs) (cond (p y) (y ∷ zs) zs)) (sym none)
near p (suc first) [] only = refl
near p (suc first) (x ∷ xs) only =
    near p first xs (λ index y is t. let h = only (suc index) y is t in (omega (arith, h.0), omega (arith, h.1)))
    ∙ sym (ap (λ (b : Bool). cond b (x ∷ filter p xs) (filter p xs))
    (false_from_ne_true (p x) (λ t. absurd (omega (arith, (only 0 x refl t).0)))))

pub all_near : (firsts : List (Option ℕ)) (xs pair : List ShardState) (parent first : ℕ) → AreFamilies firsts xs
    → Some first ≡ flat (slice_get firsts parent) → pair ≡ take 2 (drop first xs)
    → children_among parent pair ≡ children_among parent xs
all_near firsts xs pair parent first families is is_pair =
    ap (children_among parent) is_pair
    ∙ near (is_child parent) first xs (λ index x there child.
    subst (λ o. MayStandAt o index) (sym is) (families.each parent index x there child))

pub none_known : (firsts : List (Option ℕ)) (xs : List ShardState) (parent : ℕ) → AreFamilies firsts xs
    → None ≡ flat (slice_get firsts parent)
    → [] ≡ children_among parent xs
none_known firsts xs parent families is =
    sym (none_passes (is_child parent) xs
    (λ index x there. false_from_ne_true (is_child parent x)
    (λ t. subst (λ o. MayStandAt o index) (sym is) (families.each parent index x there t))))

-- ---- Lists in which an element is replaced

set_keeps : (l : List (Option ℕ)) (i j : ℕ) (v : Option ℕ) → i ≢ j → slice_get (slice_set l j v) i ≡ slice_get l i
set_keeps [] i j v apart = refl
set_keeps (a ∷ l) zero zero v apart = absurd (apart refl)
set_keeps (a ∷ l) zero (suc j) v apart = refl
set_keeps (a ∷ l) (suc i) zero v apart = refl
set_keeps (a ∷ l) (suc i) (suc j) v apart = set_keeps l i j v (λ e. apart (ap suc e))

set_there : (l : List (Option ℕ)) (i : ℕ) (w v : Option ℕ) → slice_get l i ≡ Some w
    → slice_get (slice_set l i v) i ≡ Some v
set_there [] i w v is = absurd cc
set_there (a ∷ l) zero w v is = refl
set_there (a ∷ l) (suc i) w v is = set_there l i w v is

set_stays : (l : List (Option ℕ)) (i j : ℕ) (v : Option ℕ) → slice_get l i ≡ Some v
    → slice_get (slice_set l j v) i ≡ Some v
set_stays [] i j v is = absurd cc
set_stays (a ∷ l) zero zero v is = refl
set_stays (a ∷ l) zero (suc j) v is = is
set_stays (a ∷ l) (suc i) zero v is = is
set_stays (a ∷ l) (suc i) (suc j) v is = set_stays l i j v is

set_filled : (l : List (Option ℕ)) (i j : ℕ) (w v : Option ℕ) → slice_get l i ≡ Some w → (u : Option ℕ)
    × (slice_get (slice_set l j v) i ≡ Some u)
set_filled [] i j w v is = absurd cc
set_filled (a ∷ l) zero zero w v is = (v, refl)
set_filled (a ∷ l) zero (suc j) w v is = (w, is)
set_filled (a ∷ l) (suc i) zero w v is = (w, is)
set_filled (a ∷ l) (suc i) (suc j) w v is = set_filled l i j w v is

stood : (o : Option (Option ℕ)) (index : ℕ) → MayStandAt (flat o) index → (w : Option ℕ) × (o ≡ Some w)
stood None index h = absurd h
stood (Some w) index h = (w, refl)

-- ---- A new stream

unrelated : (n start : ℕ) (ranges : List Span) (parent index : ℕ) (x : ShardState)
    → slice_get (first_shards n start ranges) index ≡ Some x
    → is_child parent x ≡ false
unrelated n start [] parent index x is = absurd cc
unrelated n start (r ∷ ranges) parent zero x is = let e : new_shard n r None None start ≡ x = cc in
    ap (is_child parent) (sym e)
unrelated n start (r ∷ ranges) parent (suc index) x is = unrelated (n + 1) start ranges parent index x is

nones : ℕ → List (Option ℕ)
nones n = replicate n None

none_at : (n index : ℕ) → index < n → slice_get (nones n) index ≡ Some None
unfolding nones
none_at zero index below = absurd (omega arith)
none_at (suc n) zero below = refl
none_at (suc n) (suc index) below = none_at n index (omega arith)

pub families_made : (count n start : ℕ) (ranges : List Span) → length (first_shards n start ranges) ≡ count
    → AreFamilies (replicate count None) (first_shards n start ranges)
unfolding nones
families_made count n start ranges long = record {
  long = (let none : Option ℕ = None in length-replicate count none ∙ sym long);
  each = λ parent index x is child.
      absurd (apart (is_child parent x) child (unrelated n start ranges parent index x is));
  young = λ index x is open_now.
      none_at count index (omega (arith, long, slice_get_within (first_shards n start ranges) index x is));
}

-- ---- Shards are closed, and others are added at the end

-- No shard of `closed` has a parent that the shard at its index of `xs` doesn't have.
abbrev pub Kin : List ShardState → List ShardState → Type 0
Kin xs closed = (parent index : ℕ) (y : ShardState) → slice_get closed index ≡ Some y → is_child parent y ≡ true
    → (x : ShardState) × ((slice_get xs index ≡ Some x) × (is_child parent x ≡ true))

pub kin_closed : (xs : List ShardState) (sh : ℕ) (closing : Closing) → Kin xs (with_closed sh closing xs)
kin_closed [] sh closing parent index y is child = absurd cc
kin_closed (x ∷ xs) zero closing parent zero y is child =
    let x' : ShardState = record x { closing = Some closing } in
    let e : x' ≡ y = cc in
    (x, (refl, ap (is_child parent) e ∙ child))
kin_closed (x ∷ xs) zero closing parent (suc index) y is child = (y, (is, child))
kin_closed (x ∷ xs) (suc sh) closing parent zero y is child = (y, (is, child))
kin_closed (x ∷ xs) (suc sh) closing parent (suc index) y is child = kin_closed xs sh closing parent index y is child

pub kin_twice : (xs : List ShardState) (sh other : ℕ) (closing : Closing)
    → Kin xs (with_closed other closing (with_closed sh closing xs))
kin_twice xs sh other closing parent index y is child =
    let once = kin_closed (with_closed sh closing xs) other closing parent index y is child in
    kin_closed xs sh closing parent index once.0 once.1.0 once.1.1

-- The index after `sh` and `other` got the first child `child`, with entries for new shards.
abbrev pub after_birth : List (Option ℕ) → ℕ → ℕ → ℕ → List (Option ℕ) → List (Option ℕ)
after_birth firsts sh other child more = slice_set (slice_set firsts sh (Some child)) other (Some child) ++ more

-- The entries give no first child.
abbrev AreNone : List (Option ℕ) → Type 0
AreNone more = (i : ℕ) → i < length more → slice_get more i ≡ Some None

module _ (firsts more : List (Option ℕ)) (xs closed born : List ShardState) (sh other child : ℕ)
    (families : AreFamilies firsts xs) (closes : Closes xs closed sh other) (kin : Kin xs closed)
    (few : length born ≤ 2) (as_many : length more ≡ length born) (none : AreNone more) (is_first : child ≡ length xs)
    (young : slice_get firsts sh ≡ Some None) (young_other : slice_get firsts other ≡ Some None)
    (parents : (parent index : ℕ) (y : ShardState) → slice_get born index ≡ Some y → is_child parent y ≡ true
    → (parent ≡ sh) ⊎ (parent ≡ other)) where
  long_sets : length (slice_set (slice_set firsts sh (Some child)) other (Some child)) ≡ length closed
  long_sets = length-set (slice_set firsts sh (Some child)) other (Some child) ∙ length-set firsts sh (Some child)
      ∙ families.long ∙ sym closes.long

  kept : (i : ℕ) (w : Option ℕ) → i ≢ sh → i ≢ other → slice_get firsts i ≡ Some w
      → slice_get (after_birth firsts sh other child more) i ≡ Some w
  kept i w apart apart' is =
      get_front (slice_set (slice_set firsts sh (Some child)) other (Some child)) more i w
      (set_keeps (slice_set firsts sh (Some child)) i other (Some child) apart'
      ∙ set_keeps firsts i sh (Some child) apart ∙ is)

  written : (i : ℕ) → (i ≡ sh) ⊎ (i ≡ other) → slice_get (after_birth firsts sh other child more) i ≡ Some (Some child)
  written i (inl e) =
      let once : slice_get (slice_set firsts sh (Some child)) i ≡ Some (Some child) =
      ap (slice_get (slice_set firsts sh (Some child))) e ∙ set_there firsts sh None (Some child) young in
      get_front (slice_set (slice_set firsts sh (Some child)) other (Some child)) more i (Some child)
      (set_stays (slice_set firsts sh (Some child)) i other (Some child) once)
  written i (inr e) =
      let once = set_filled firsts other sh None (Some child) young_other in
      get_front (slice_set (slice_set firsts sh (Some child)) other (Some child)) more i (Some child)
      (ap (slice_get (slice_set (slice_set firsts sh (Some child)) other (Some child))) e
      ∙ set_there (slice_set firsts sh (Some child)) other once.0 (Some child) once.1)

  not_yet : (i parent index : ℕ) → slice_get firsts i ≡ Some None → MayStandAt (flat (slice_get firsts parent)) index
      → parent ≢ i
  not_yet i parent index is h e = subst (λ o. MayStandAt (flat o) index) (ap (slice_get firsts) e ∙ is) h

  each_by : (parent index : ℕ) (y : ShardState) → is_child parent y ≡ true → (slice_get closed index ≡ Some y)
      ⊎ IsBehind born (length closed) index y
      → MayStandAt (flat (slice_get (after_birth firsts sh other child more) parent)) index
  each_by parent index y is_its (inl h) =
      let k = kin parent index y h is_its in
      let was = families.each parent index k.0 k.1.0 k.1.1 in
      let w = stood (slice_get firsts parent) index was in
      let now = kept parent w.0 (not_yet sh parent index young was) (not_yet other parent index young_other was) w.1 in
      subst (λ o. MayStandAt (flat o) index) (w.1 ∙ sym now) was
  each_by parent index y is_its (inr h) =
      let now = written parent (parents parent h.index y h.at is_its) in
      let within = slice_get_within born h.index y h.at in
      subst (λ o. MayStandAt (flat o) index) (sym now) (
        omega (arith, is_first, h.is, closes.long),
        omega (arith, is_first, h.is, closes.long, within, few),
      )

  young_by : (index : ℕ) (y : ShardState) → is_open y ≡ true → (slice_get closed index ≡ Some y)
      ⊎ IsBehind born (length closed) index y
      → slice_get (after_birth firsts sh other child more) index ≡ Some None
  young_by index y open_now (inl h) =
      let was = closes.back index y h open_now in
      kept index None was.1 was.2 (families.young index y was.0 open_now)
  young_by index y open_now (inr h) =
      let within = slice_get_within born h.index y h.at in
      let sets = slice_set (slice_set firsts sh (Some child)) other (Some child) in
      let e : index ≡ length sets + h.index = omega (arith, h.is, long_sets) in
      ap (slice_get (sets ++ more)) e ∙ get_back sets more h.index ∙ none h.index (omega arith)

  pub born_families : AreFamilies (after_birth firsts sh other child more) (closed ++ born)
  born_families = record {
    long =
        length-append (slice_set (slice_set firsts sh (Some child)) other (Some child)) more
        ∙ ap (λ n. n + length more) long_sets
        ∙ ap (λ n. length closed + n) as_many
        ∙ sym (length-append closed born);
    each = λ parent index y is is_its. each_by parent index y is_its (get_cases closed born index y is);
    young = λ index y is open_now. young_by index y open_now (get_cases closed born index y is);
  }

-- ---- Splits and merges

one_parent : (sh parent : ℕ) → ((sh == parent) || false) ≡ true → parent ≡ sh
one_parent sh parent h = grind (arith, nat_tests)

two_parents : (b c : Bool) (sh other parent : ℕ) → (sh == parent) ≡ b → (other == parent) ≡ c → (b || c) ≡ true
    → (parent ≡ sh) ⊎ (parent ≡ other)
two_parents true c sh other parent is_b is_c h = inl (grind (arith, nat_tests))
two_parents false true sh other parent is_b is_c h = inr (grind (arith, nat_tests))
two_parents false false sh other parent is_b is_c h = absurd cc

of_split : (sh a b start : ℕ) (r q : Span) (parent index : ℕ) (y : ShardState)
    → slice_get (new_shard a r (Some sh) None start ∷ new_shard b q (Some sh) None start ∷ []) index ≡ Some y
    → is_child parent y ≡ true → (parent ≡ sh) ⊎ (parent ≡ sh)
of_split sh a b start r q parent zero y is child =
    let e : new_shard a r (Some sh) None start ≡ y = cc in
    inl (one_parent sh parent (ap (is_child parent) e ∙ child))
of_split sh a b start r q parent (suc zero) y is child =
    let e : new_shard b q (Some sh) None start ≡ y = cc in
    inl (one_parent sh parent (ap (is_child parent) e ∙ child))
of_split sh a b start r q parent (suc (suc index)) y is child = absurd cc

of_merge : (sh other a start : ℕ) (r : Span) (parent index : ℕ) (y : ShardState)
    → slice_get (new_shard a r (Some sh) (Some other) start ∷ []) index ≡ Some y → is_child parent y ≡ true
    → (parent ≡ sh) ⊎ (parent ≡ other)
of_merge sh other a start r parent zero y is child =
    let e : new_shard a r (Some sh) (Some other) start ≡ y = cc in
    two_parents (sh == parent) (other == parent) sh other parent refl refl (ap (is_child parent) e ∙ child)
of_merge sh other a start r parent (suc index) y is child = absurd cc

none_in_one : AreNone (None ∷ [])
none_in_one zero below = refl
none_in_one (suc i) below = absurd (omega arith)

none_in_two : AreNone (None ∷ None ∷ [])
none_in_two zero below = refl
none_in_two (suc zero) below = refl
none_in_two (suc (suc i)) below = absurd (omega arith)

pub split_families : (firsts : List (Option ℕ)) (xs : List ShardState) (sh a b start : ℕ) (r q : Span)
    (closing : Closing) (x : ShardState)
    → slice_get xs sh ≡ Some x → is_open x ≡ true → AreFamilies firsts xs
    → AreFamilies (after_birth firsts sh sh (length xs) (None ∷ None ∷ []))
    (with_closed sh closing xs ++ (new_shard a r (Some sh) None start ∷ new_shard b q (Some sh) None start ∷ []))
split_families firsts xs sh a b start r q closing x made open_now families =
    let young = families.young sh x made open_now in
    born_families firsts (None ∷ None ∷ []) xs (with_closed sh closing xs)
    (new_shard a r (Some sh) None start ∷ new_shard b q (Some sh) None start ∷ []) sh sh (length xs)
    families (closes_one xs sh closing) (kin_closed xs sh closing) (omega arith) refl none_in_two refl young young
    (of_split sh a b start r q)

pub merge_families : (firsts : List (Option ℕ)) (xs : List ShardState) (sh other a start : ℕ) (r : Span)
    (closing : Closing) (x y : ShardState)
    → slice_get xs sh ≡ Some x → is_open x ≡ true → slice_get xs other ≡ Some y → is_open y ≡ true
    → AreFamilies firsts xs
    → AreFamilies (after_birth firsts sh other (length xs) (None ∷ []))
    (with_closed other closing (with_closed sh closing xs) ++ (new_shard a r (Some sh) (Some other) start ∷ []))
merge_families firsts xs sh other a start r closing x y made open_now other_made other_open families =
    born_families firsts (None ∷ []) xs (with_closed other closing (with_closed sh closing xs))
    (new_shard a r (Some sh) (Some other) start ∷ []) sh other (length xs)
    families (closes_two xs sh other closing) (kin_twice xs sh other closing) (omega arith) refl none_in_one refl
    (families.young sh x made open_now) (families.young other y other_made other_open) (of_merge sh other a start r)

-- ---- How the code changes the index

-- The index that the code makes for a merge.
pub one_place : (fs kept set more : List (Option ℕ)) (sh other a n : ℕ) → kept ≡ fs
    → set ≡ slice_set (slice_set kept sh (Some a)) other (Some a) → a ≡ n
    → more ≡ set ++ None ∷ []
    → more ≡ after_birth fs sh other n (None ∷ [])
one_place fs kept set more sh other a n is_kept is_set is is_more =
    is_more
    ∙ ap (λ (us : List (Option ℕ)). us ++ None ∷ []) (
    is_set
    ∙ ap (λ (us : List (Option ℕ)). slice_set (slice_set us sh (Some a)) other (Some a)) is_kept
    ∙ ap (λ (m : ℕ). slice_set (slice_set fs sh (Some m)) other (Some m)) is)

-- The index that the code makes for a split.
pub two_places : (fs kept set next more : List (Option ℕ)) (sh other a n : ℕ) → kept ≡ fs
    → set ≡ slice_set (slice_set kept sh (Some a)) other (Some a)
    → a ≡ n → next ≡ set ++ None ∷ [] → more ≡ next ++ None ∷ []
    → more ≡ after_birth fs sh other n (None ∷ None ∷ [])
two_places fs kept set next more sh other a n is_kept is_set is is_next is_more =
    is_more
    ∙ ap (λ (us : List (Option ℕ)). us ++ None ∷ []) (one_place fs kept set next sh other a n is_kept is_set is is_next)
    ∙ append_assoc (slice_set (slice_set fs sh (Some n)) other (Some n)) (None ∷ []) (None ∷ [])
