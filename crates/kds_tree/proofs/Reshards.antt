-- Splits and merges as the code makes them have the defined result and keep the shard tree's invariants.
use Rattle.std.proofs.Common.{◌≡◌, ℕ, zero, suc, ◌+◌, ◌-◌, ◌*◌, ◌/◌, ◌^◌, ◌<◌, ◌≤◌, Bool, true, false, List, [], ◌∷◌}
use Rattle.std.proofs.Common.{◌++◌, length, map, Option, Some, None, refl, sym, ap, subst, ◌∙◌, arith}
use Rattle.std.specs.Prelude.{Result, Ok, Err, slice_get, slice_set, slice_index_or, not, is_some, if◌then◌else◌}
use Rattle.std.proofs.lemmas.Option.{slice_get_within, get_or_from_slice_get}
use Rattle.std.proofs.lemmas.List.{get_or_append_left, length-append}
use Rattle.std.proofs.lemmas.Bool.Decides.{nat_tests}
use Rattle.kds_base.specs.Span.{Span, is_inside, lower_part, upper_part, are_adjacent, is_followed_by, joined}
use Rattle.kds_base.specs.Span.{uniform_from}
use Rattle.kds_defs.specs.declared.reply.Refusal.{Refusal}
use Rattle.kds_defs.specs.Shards.{ShardState, Closing, first_shards, is_open, new_shard, range_of, with_closed}
use Rattle.kds_defs.specs.Shards.{split_shards, merged_shards, made_shards}
use Rattle.kds_defs.specs.StreamCommands.{is_open_at}
use Rattle.kds_defs.specs.Tiled.{AreNumbered, IsTiled}
use Rattle.kds_defs.proofs.Numbers.{numbered-closed, numbered-append, length-closed, numbered-first}
use Rattle.kds_defs.proofs.Tiles.{tiled_split, tiled_merge, tiled_new}
use Rattle.kds_base.specs.Span.{uniform}
use Rattle.std.specs.List.{AllByRecursion, filter}
use Rattle.std.specs.List.Sorted.{IsNonDecreasingBy, IsPermutation}
use Rattle.std.proofs.lemmas.Bool.{and_parts}
use Rattle.kds_tree.specs.Families.{AreFamilies}
use Rattle.kds_tree.specs.Front.{AreLeft}
use Rattle.kds_tree.proofs.FrontLemmas.{left_append, left_set, left_sets}
use Rattle.kds_tree.specs.Starts.{AreStarts, own_start, stays}
use Rattle.kds_tree.specs.declared.start.OpenStart.{OpenStart}
use Rattle.kds_tree.proofs.Families.{after_birth, merge_families, split_families}
use Rattle.kds_tree.proofs.OpenStarts.{get_front, reshaped, closes_one, closes_two}
use Rattle.kds_tree.specs.Tree.{IsTree, IsWithinKeys, split_refusal, merge_refusal, answer_by, value_by}

-- ---- What is known of a split or a merge that isn't refused

pub passed : (b : Bool) (r : Refusal) (o : Option Refusal) → (if not b then Some r else o) ≡ None
    → (b ≡ true) × (o ≡ None)
passed true r o h = (refl, h)
passed false r o h = absurd cc

there : (o : Option ShardState) → is_some o ≡ true → (x : ShardState) × (o ≡ Some x)
there None h = absurd cc
there (Some x) h = (x, refl)

-- Shard `sh` is open, and the key lies inside its range, so that neither part is empty.
pub record CanSplit (xs : List ShardState) (sh hash : ℕ) : Type 0 where
  pub state : ShardState
  pub made : slice_get xs sh ≡ Some state
  pub is_open_now : is_open state ≡ true
  pub inside : is_inside state.range hash ≡ true

pub can_split : (xs : List ShardState) (sh hash : ℕ) → split_refusal xs sh hash ≡ None → CanSplit xs sh hash
can_split xs sh hash h =
    let a = passed _ _ _ h in
    let b = passed _ _ _ a.1 in
    let d = passed _ _ _ b.1 in
    let x = there (slice_get xs sh) a.0 in
    record {
      state = x.0;
      made = x.1;
      is_open_now = subst (λ o. is_open_at o ≡ true) x.1 b.0;
      inside = subst (λ o. is_inside (range_of o) hash ≡ true) x.1 d.0;
    }

-- Both shards are open, and their ranges are adjacent.
pub record CanMerge (xs : List ShardState) (sh other : ℕ) : Type 0 where
  pub state : ShardState
  pub beside : ShardState
  pub made : slice_get xs sh ≡ Some state
  pub other_made : slice_get xs other ≡ Some beside
  pub is_open_now : is_open state ≡ true
  pub other_open : is_open beside ≡ true
  pub touch : are_adjacent state.range beside.range ≡ true

pub can_merge : (xs : List ShardState) (sh other : ℕ) → merge_refusal xs sh other ≡ None → CanMerge xs sh other
can_merge xs sh other h =
    let a = passed _ _ _ h in
    let b = passed _ _ _ a.1 in
    let d = passed _ _ _ b.1 in
    let somes = and_parts _ _ a.0 in
    let opens = and_parts _ _ b.0 in
    let x = there (slice_get xs sh) somes.0 in
    let y = there (slice_get xs other) somes.1 in
    record {
      state = x.0;
      beside = y.0;
      made = x.1;
      other_made = y.1;
      is_open_now = subst (λ o. is_open_at o ≡ true) x.1 opens.0;
      other_open = subst (λ o. is_open_at o ≡ true) y.1 opens.1;
      touch = subst (λ o. are_adjacent x.0.range (range_of o) ≡ true) y.1
          (subst (λ o. are_adjacent (range_of o) (range_of (slice_get xs other)) ≡ true) x.1 d.0);
    }

-- ---- The invariant of the shards

numbered_two : (n : ℕ) (x y : ShardState) → x.no ≡ n → y.no ≡ n + 1 → AreNumbered n (x ∷ y ∷ [])
numbered_two n x y h g = (h, (g, tt))

within-closed : (xs : List ShardState) (sh : ℕ) (closing : Closing) → AllByRecursion IsWithinKeys xs
    → AllByRecursion IsWithinKeys (with_closed sh closing xs)
within-closed [] sh closing h = tt
within-closed (y ∷ ys) zero closing h = (h.0, h.1)
within-closed (y ∷ ys) (suc sh) closing h = (h.0, within-closed ys sh closing h.1)

within-append : (xs ys : List ShardState) → AllByRecursion IsWithinKeys xs → AllByRecursion IsWithinKeys ys
    → AllByRecursion IsWithinKeys (xs ++ ys)
within-append [] ys h g = g
within-append (x ∷ xs) ys h g = (h.0, within-append xs ys h.1 g)

within_at : (xs : List ShardState) (sh : ℕ) (x : ShardState) → slice_get xs sh ≡ Some x → AllByRecursion IsWithinKeys xs
    → x.range.end < 2 ^ 128
within_at [] sh x is h = absurd cc
within_at (y ∷ ys) zero x is h = let e : y ≡ x = cc in omega (arith, h.0, ap (λ (z : ShardState). z.range.end) e)
within_at (y ∷ ys) (suc sh) x is h = within_at ys sh x is h.1

chosen_within : (b : Bool) (x y : Span) → x.end < 2 ^ 128 → y.end < 2 ^ 128 → (if b then x else y).end < 2 ^ 128
chosen_within true x y h g = h
chosen_within false x y h g = g

lower_within : (r : Span) (hash : ℕ) → is_inside r hash ≡ true → r.end < 2 ^ 128 → hash - 1 < 2 ^ 128
lower_within r hash inside h = grind (arith, nat_tests)

within_last : (width start n : ℕ) → start + n * width ≤ 2 ^ 128 → (i s : ℕ)
    → AllByRecursion IsWithinKeys (first_shards i s (uniform_from width start n))
within_last width start zero fits i s = tt
within_last width start (suc zero) fits i s = (omega arith, tt)
within_last width start (suc (suc n)) fits i s =
    (before_key start width n fits, within_last width (start + width) (suc n) (omega arith) (i + 1) s)
  where
    before_key : (start width n : ℕ) → start + suc (suc n) * width ≤ 2 ^ 128 → start + width - 1 < 2 ^ 128
    before_key start width n fits = omega arith

pub tree_split : (xs : List ShardState) (sh hash start : ℕ) (closing : Closing) → split_refusal xs sh hash ≡ None
    → IsTree xs → IsTree (split_shards sh hash closing start xs)
tree_split xs sh hash start closing h tree =
    let can = can_split xs sh hash h in
    let low = new_shard (length xs) (lower_part (range_of (slice_get xs sh)) hash) (Some sh) None start in
    let high = new_shard (length xs + 1) (upper_part (range_of (slice_get xs sh)) hash) (Some sh) None start in
    let n : length (with_closed sh closing xs) ≡ length xs = length-closed sh closing xs in
    let goes_on : AreNumbered (0 + length (with_closed sh closing xs)) (low ∷ high ∷ []) =
    numbered_two (0 + length (with_closed sh closing xs)) low high (omega arith) (omega arith) in
    record {
      numbered = numbered-append 0 (with_closed sh closing xs) (low ∷ high ∷ [])
          (numbered-closed 0 sh closing xs tree.numbered) goes_on;
      tiled =
          subst (λ o. IsTiled (with_closed sh closing xs
          ++ (new_shard (length xs) (lower_part (range_of o) hash) (Some sh) None start
          ∷ new_shard (length xs + 1) (upper_part (range_of o) hash) (Some sh) None start ∷ []))) (sym can.made)
          (tiled_split xs sh (length xs) (length xs + 1) hash start closing (Some sh) None can.state can.made
          can.is_open_now can.inside tree.tiled);
      within =
          within-append (with_closed sh closing xs) (low ∷ high ∷ []) (within-closed xs sh closing tree.within) (
            subst (λ o. (lower_part (range_of o) hash).end < 2 ^ 128) (sym can.made)
                (lower_within can.state.range hash can.inside (within_at xs sh can.state can.made tree.within)),
            (
              subst (λ o. (upper_part (range_of o) hash).end < 2 ^ 128) (sym can.made)
                  (within_at xs sh can.state can.made tree.within),
              tt,
            ),
          );
    }

pub tree_merged : (xs : List ShardState) (sh other start : ℕ) (closing : Closing) → merge_refusal xs sh other ≡ None
    → IsTree xs → IsTree (merged_shards sh other closing start xs)
tree_merged xs sh other start closing h tree =
    let can = can_merge xs sh other h in
    let child = new_shard (length xs) (joined (range_of (slice_get xs sh)) (range_of (slice_get xs other))) (Some sh)
    (Some other) start in
    let closed = with_closed other closing (with_closed sh closing xs) in
    let n : length (with_closed other closing (with_closed sh closing xs)) ≡ length xs =
    length-closed other closing (with_closed sh closing xs) ∙ length-closed sh closing xs in
    let goes_on : AreNumbered (0 + length closed) (child ∷ []) = (omega arith, tt) in
    record {
      numbered = numbered-append 0 closed (child ∷ [])
          (numbered-closed 0 other closing (with_closed sh closing xs) (numbered-closed 0 sh closing xs tree.numbered))
          goes_on;
      tiled =
          subst (λ o. IsTiled (closed
          ++ (new_shard (length xs) (joined (range_of o) (range_of (slice_get xs other))) (Some sh) (Some other)
          start ∷ []))) (sym can.made)
          (subst (λ o. IsTiled (closed
          ++ (new_shard (length xs) (joined can.state.range (range_of o)) (Some sh) (Some other) start ∷ [])))
          (sym can.other_made)
          (tiled_merge xs sh other (length xs) start closing (Some sh) (Some other) can.state can.beside can.made
          can.other_made can.is_open_now can.other_open can.touch tree.tiled));
      within =
          let low : Span = range_of (slice_get xs sh) in
          let high : Span = range_of (slice_get xs other) in
          let a : low.end < 2 ^ 128 =
          subst (λ o. (range_of o).end < 2 ^ 128) (sym can.made) (within_at xs sh can.state can.made tree.within) in
          let b : high.end < 2 ^ 128 =
          subst (λ o. (range_of o).end < 2 ^ 128) (sym can.other_made)
          (within_at xs other can.beside can.other_made tree.within) in
          within-append closed (child ∷ [])
          (within-closed (with_closed sh closing xs) other closing (within-closed xs sh closing tree.within)) (
            chosen_within (is_followed_by low high) (record { start = low.start; end = high.end })
                (record { start = high.start; end = low.end }) b a,
            tt,
          );
    }

within_made : (n : ℕ) → n ≤ 500 → AllByRecursion IsWithinKeys (made_shards n 1)
within_made zero high = tt
within_made (suc n) high = within_last (2 ^ 128 / suc n) 0 (suc n) (omega arith) 0 1

pub tree_made : (n : ℕ) → 1 ≤ n → n ≤ 500 → IsTree (made_shards n 1)
tree_made n low high =
    record { numbered = numbered-first 0 1 (uniform n); tiled = tiled_new n 1 low high; within = within_made n high }

-- ---- A shard is closed after others were added at the end

closed_at : (xs ys : List ShardState) (i : ℕ) (x y : ShardState) (closing : Closing) → slice_get xs i ≡ Some x
    → y ≡ record x { closing = Some closing } → slice_set (xs ++ ys) i y ≡ with_closed i closing xs ++ ys
closed_at [] ys i x y closing is_at is = absurd cc
closed_at (z ∷ zs) ys zero x y closing is_at is =
    let e : z ≡ x = cc in
    ap (λ s. s ∷ zs ++ ys) (is ∙ ap (λ (k : ShardState). let s : ShardState = record k { closing = Some closing } in
    s) (sym e))
closed_at (z ∷ zs) ys (suc i) x y closing is_at is = ap (λ ss. z ∷ ss) (closed_at zs ys i x y closing is_at is)

-- ---- What the code does

-- A right list of starts for `xs`, without `sh` and `other` and with the starts of `born`, is right for `zs`.
abbrev pub StartsGo : List ShardState → ℕ → ℕ → List ShardState → List ShardState → Type 0
StartsGo xs sh other born zs = IsTree xs → (ss more ts : List OpenStart) → AreStarts ss xs
    → more ≡ filter (stays sh other) ss ++ map own_start born → IsPermutation more ts
    → IsNonDecreasingBy (λ (s : OpenStart). s.key) ts → AreStarts ts zs

-- An index that fits `xs` fits `zs`, once `sh` and `other` have the first new shard as their first child.
abbrev pub FamiliesGo : List ShardState → ℕ → ℕ → List (Option ℕ) → List ShardState → Type 0
FamiliesGo xs sh other more zs = (firsts : List (Option ℕ)) → AreFamilies firsts xs
    → AreFamilies (after_birth firsts sh other (length xs) more) zs

answered : {A : Type 0} (o : Option Refusal) (x y : A) → Ok x ≡ answer_by o y → (o ≡ None) × (x ≡ y)
answered None x y h = let e : x ≡ y = cc in (refl, e)
answered (Some r) x y h = absurd cc

pub refused_value : {A : Type 0} (o : Option Refusal) (r : Refusal) (x : A) (old new : List ShardState)
    → Err r ≡ answer_by o x → old ≡ value_by o old new
refused_value None r x old new h = absurd cc
refused_value (Some s) r x old new h = refl

same_refusal : {A : Type 0} (r q : Refusal)
    → (let a : Result A Refusal = Err r in let b : Result A Refusal = Err q in a ≡ b) → r ≡ q
same_refusal r q h = cc

pub refused_answer : {A B : Type 0} (o : Option Refusal) (r : Refusal) (x : A) (y : B) → Err r ≡ answer_by o x
    → Err r ≡ answer_by o y
refused_answer None r x y h = absurd cc
refused_answer (Some q) r x y h = ap Err (same_refusal r q h)

read_at : (xs ys zs : List ShardState) (i : ℕ) (x old : ShardState) → zs ≡ xs ++ ys → slice_get xs i ≡ Some x
    → old ≡ slice_index_or zs i old → x ≡ old
read_at xs ys zs i x old is is_at read =
    sym (
    read
    ∙ ap (λ (ss : List ShardState). slice_index_or ss i old) is
    ∙ get_or_append_left xs ys old i (slice_get_within xs i x is_at)
    ∙ get_or_from_slice_get xs i x old is_at
    )

-- The shards `zs` are `xs` after an allowed split, with all invariants kept.
pub record Splits (xs : List ShardState) (sh hash start : ℕ) (closing : Closing) (low high : ShardState)
    (zs : List ShardState) : Type 0 where
  pub allowed : split_refusal xs sh hash ≡ None
  pub value : zs ≡ split_shards sh hash closing start xs
  pub tree : IsTree xs → IsTree zs
  pub starts : StartsGo xs sh sh (low ∷ high ∷ []) zs
  pub families : FamiliesGo xs sh sh (None ∷ None ∷ []) zs

closed_in : (xs ys zs : List ShardState) (sh : ℕ) (x : ShardState) (closing : Closing) (old new : ShardState)
    → slice_get xs sh ≡ Some x → zs ≡ xs ++ ys → old ≡ slice_index_or zs sh old
    → new ≡ record old { closing = Some closing } → slice_set zs sh new ≡ with_closed sh closing xs ++ ys
closed_in xs ys zs sh x closing old new made is read close =
    let e = read_at xs ys zs sh x old is made read in
    ap (λ (ss : List ShardState). slice_set ss sh new) is
    ∙ closed_at xs ys sh x new closing made (close
    ∙ ap (λ (k : ShardState). let s : ShardState = record k { closing = Some closing } in s) (sym e))

still_there : (xs : List ShardState) (sh other : ℕ) (closing : Closing) (y : ShardState) → slice_get xs other ≡ Some y
    → (z : ShardState) × (slice_get (with_closed sh closing xs) other ≡ Some z)
still_there [] sh other closing y is = absurd cc
still_there (x ∷ xs) zero zero closing y is = (record x { closing = Some closing }, refl)
still_there (x ∷ xs) zero (suc other) closing y is = (y, is)
still_there (x ∷ xs) (suc sh) zero closing y is = (x, refl)
still_there (x ∷ xs) (suc sh) (suc other) closing y is = still_there xs sh other closing y is

-- The lower and the upper part of a range that is split at a key.
abbrev pub halves : Span → ℕ → Span × Span
halves r hash = (lower_part r hash, upper_part r hash)

pub splits : (xs zs : List ShardState) (sh i hash start a b s : ℕ) (closing : Closing) (ranges : Span × Span)
    (low high old new : ShardState)
    → Ok ranges ≡ answer_by (split_refusal xs sh hash) (halves (range_of (slice_get xs sh)) hash)
    → i ≡ sh → a ≡ length xs → b ≡ length xs → s ≡ start
    → low ≡ new_shard a ranges.0 (Some sh) None (s + 1)
    → high ≡ new_shard (b + 1) ranges.1 (Some sh) None (s + 1)
    → zs ≡ xs ++ low ∷ high ∷ []
    → old ≡ slice_index_or zs i old
    → new ≡ record old { closing = Some closing }
    → Splits xs sh hash (start + 1) closing low high (slice_set zs i new)
splits xs zs sh i hash start a b s closing ranges low high old new answer is_i is_a is_b is_s is_low is_high is read
    close =
    let r = range_of (slice_get xs sh) in
    let h = answered (split_refusal xs sh hash) ranges (halves r hash) answer in
    let can = can_split xs sh hash h.0 in
    let lower : ranges.0 ≡ lower_part r hash = ap (λ (p : Span × Span). p.0) h.1 in
    let upper : ranges.1 ≡ upper_part r hash = ap (λ (p : Span × Span). p.1) h.1 in
    let e_low : low ≡ new_shard (length xs) (lower_part r hash) (Some sh) None (start + 1) = cc in
    let e_high : high ≡ new_shard (length xs + 1) (upper_part r hash) (Some sh) None (start + 1) = cc in
    let value : slice_set zs i new ≡ split_shards sh hash closing (start + 1) xs =
    ap (λ (j : ℕ). slice_set zs j new) is_i
    ∙ closed_in xs (low ∷ high ∷ []) zs sh can.state closing old new can.made is (read
    ∙ ap (λ (j : ℕ). slice_index_or zs j old) is_i) close
    ∙ ap (λ (k : ShardState). with_closed sh closing xs ++ k ∷ high ∷ []) e_low
    ∙ ap (λ (k : ShardState). with_closed sh closing xs
    ++ new_shard (length xs) (lower_part r hash) (Some sh) None (start + 1) ∷ k ∷ []) e_high in
    record {
      allowed = h.0;
      value = value;
      tree = λ tree. subst IsTree (sym value) (tree_split xs sh hash (start + 1) closing h.0 tree);
      starts = λ tree ss more ts starts away same order.
          let lower_child = new_shard (length xs) (lower_part r hash) (Some sh) None (start + 1) in
          let upper_child = new_shard (length xs + 1) (upper_part r hash) (Some sh) None (start + 1) in
          let is_born : low ∷ high ∷ [] ≡ lower_child ∷ upper_child ∷ [] =
          ap (λ (x : ShardState). x ∷ high ∷ []) e_low ∙ ap (λ (x : ShardState). lower_child ∷ x ∷ []) e_high in
          let away' = away ∙ ap (λ (born : List ShardState). filter (stays sh sh) ss ++ map own_start born) is_born in
          subst (λ (us : List ShardState). AreStarts ts us) (sym value)
          (reshaped xs (with_closed sh closing xs) (lower_child ∷ upper_child ∷ []) sh sh (closes_one xs sh closing)
          (refl, (refl, tt)) tree.numbered ss more ts starts away' same order);
      families = λ firsts families.
          subst (AreFamilies (after_birth firsts sh sh (length xs) (None ∷ None ∷ []))) (sym value)
          (split_families firsts xs sh (length xs) (length xs + 1) (start + 1) (lower_part r hash) (upper_part r hash)
          closing
          can.state can.made can.is_open_now families);
    }

pub split_within : (xs zs : List ShardState) (sh i hash : ℕ) (ranges : Span × Span) (low high : ShardState)
    → Ok ranges ≡ answer_by (split_refusal xs sh hash) (halves (range_of (slice_get xs sh)) hash) → i ≡ sh
    → zs ≡ xs ++ low ∷ high ∷ [] → i < length zs
split_within xs zs sh i hash ranges low high answer is_i is =
    let h = answered (split_refusal xs sh hash) ranges (halves (range_of (slice_get xs sh)) hash) answer in
    let can = can_split xs sh hash h.0 in
    omega (arith, is_i, slice_get_within xs sh can.state can.made, ap length is, length-append xs (low ∷ high ∷ []))

pub split_known : (xs : List ShardState) (firsts kept : List (Option ℕ)) (sh hash : ℕ) (ranges : Span × Span)
    → Ok ranges ≡ answer_by (split_refusal xs sh hash) (halves (range_of (slice_get xs sh)) hash)
    → AreFamilies firsts xs → kept ≡ firsts → sh < length kept
split_known xs firsts kept sh hash ranges answer families is =
    let can = can_split xs sh hash
    (answered (split_refusal xs sh hash) ranges (halves (range_of (slice_get xs sh)) hash)
    answer).0 in
    omega (arith, slice_get_within xs sh can.state can.made, families.long, ap length is)

pub both_within : (xs zs : List ShardState) (sh other i j n : ℕ) (range joint : Span) (child : ShardState)
    → Ok range ≡ answer_by (merge_refusal xs sh other) joint → i ≡ sh → j ≡ other → n ≡ length zs
    → zs ≡ xs ++ child ∷ [] → (i < n) × (j < n)
both_within xs zs sh other i j n range joint child answer is_i is_j is_n more =
    let can = can_merge xs sh other (answered (merge_refusal xs sh other) range joint answer).0 in
    let a : sh < length xs = slice_get_within xs sh can.state can.made in
    let b : other < length xs = slice_get_within xs other can.beside can.other_made in
    let e : n ≡ length xs + 1 = is_n ∙ ap (λ (s : List ShardState). length s) more ∙ length-append xs (child ∷ []) in
    (omega arith, omega arith)

pub both_known : (xs : List ShardState) (firsts kept : List (Option ℕ)) (sh other : ℕ) (range joint : Span)
    → Ok range ≡ answer_by (merge_refusal xs sh other) joint
    → AreFamilies firsts xs → kept ≡ firsts → (sh < length kept) × (other < length kept)
both_known xs firsts kept sh other range joint answer families is =
    let can = can_merge xs sh other (answered (merge_refusal xs sh other) range joint answer).0 in
    let long : length kept ≡ length xs = ap length is ∙ families.long in (
      omega (arith, slice_get_within xs sh can.state can.made, long),
      omega (arith, slice_get_within xs other can.beside can.other_made, long),
    )

-- The closed shard was open, and so not expired.
pub front_split : (xs zs : List ShardState) (sh i hash f n : ℕ) (names : List ℕ) (ranges : Span × Span)
    (low high y : ShardState)
    → Ok ranges ≡ answer_by (split_refusal xs sh hash) (halves (range_of (slice_get xs sh)) hash) → i ≡ sh
    → zs ≡ xs ++ low ∷ high ∷ []
    → AreLeft f 0 n names xs → AreLeft f 0 n names (slice_set zs i y)
front_split xs zs sh i hash f n names ranges low high y answer is_i is front =
    let can = can_split xs sh hash
    (answered (split_refusal xs sh hash) ranges (halves (range_of (slice_get xs sh)) hash)
    answer).0 in
    let more = xs ++ low ∷ high ∷ [] in
    let made : slice_get more sh ≡ Some can.state = get_front xs (low ∷ high ∷ []) sh can.state can.made in
    subst (λ (us : List ShardState). AreLeft f 0 n names (slice_set us i y)) (sym is)
    (subst (λ (k : ℕ). AreLeft f 0 n names (slice_set more k y)) (sym is_i)
    (left_set f 0 n sh names more can.state y made can.is_open_now
    (left_append f 0 n names xs (low ∷ high ∷ []) front)))

pub front_merge : (xs zs : List ShardState) (sh other i j f n : ℕ) (names : List ℕ) (range joint : Span)
    (child y z : ShardState)
    → Ok range ≡ answer_by (merge_refusal xs sh other) joint → i ≡ sh → j ≡ other → zs ≡ xs ++ child ∷ []
    → AreLeft f 0 n names xs → AreLeft f 0 n names (slice_set (slice_set zs i y) j z)
front_merge xs zs sh other i j f n names range joint child y z answer is_i is_j is front =
    let can = can_merge xs sh other (answered (merge_refusal xs sh other) range joint answer).0 in
    let more = xs ++ child ∷ [] in
    let made : slice_get more sh ≡ Some can.state = get_front xs (child ∷ []) sh can.state can.made in
    let made' : slice_get more other ≡ Some can.beside = get_front xs (child ∷ []) other can.beside can.other_made in
    subst (λ (us : List ShardState). AreLeft f 0 n names (slice_set (slice_set us i y) j z)) (sym is)
    (subst (λ (k : ℕ). AreLeft f 0 n names (slice_set (slice_set more k y) j z)) (sym is_i)
    (subst (λ (k : ℕ). AreLeft f 0 n names (slice_set (slice_set more sh y) k z)) (sym is_j)
    (left_sets f 0 n sh other names more can.state can.beside y z made can.is_open_now made' can.other_open
    (left_append f 0 n names xs (child ∷ []) front))))

by_none : (o : Option Refusal) (old new zs : List ShardState) → o ≡ None → zs ≡ new
    → zs ≡ value_by o old new
by_none None old new zs none is = is
by_none (Some r) old new zs none is = absurd cc

pub split_value : (xs : List ShardState) (sh hash start : ℕ) (closing : Closing) (low high : ShardState)
    (zs : List ShardState) → Splits xs sh hash start closing low high zs
    → zs ≡ value_by (split_refusal xs sh hash) xs (split_shards sh hash closing start xs)
split_value xs sh hash start closing low high zs s =
    by_none (split_refusal xs sh hash) xs (split_shards sh hash closing start xs) zs s.allowed s.value

-- The shards `zs` are `xs` after an allowed merge, with all invariants kept.
pub record Merges (xs : List ShardState) (sh other start : ℕ) (closing : Closing) (child : ShardState)
    (zs : List ShardState) : Type 0 where
  pub allowed : merge_refusal xs sh other ≡ None
  pub value : zs ≡ merged_shards sh other closing start xs
  pub tree : IsTree xs → IsTree zs
  pub starts : StartsGo xs sh other (child ∷ []) zs
  pub families : FamiliesGo xs sh other (None ∷ []) zs

pub merge_value : (xs : List ShardState) (sh other start : ℕ) (closing : Closing) (child : ShardState)
    (zs : List ShardState) → Merges xs sh other start closing child zs
    → zs ≡ value_by (merge_refusal xs sh other) xs (merged_shards sh other closing start xs)
merge_value xs sh other start closing child zs s =
    by_none (merge_refusal xs sh other) xs (merged_shards sh other closing start xs) zs s.allowed s.value

pub merges : (xs zs : List ShardState) (sh other i j start a s : ℕ) (closing : Closing) (range : Span)
    (child old new old' new' : ShardState)
    → Ok range ≡ answer_by (merge_refusal xs sh other)
    (joined (range_of (slice_get xs sh)) (range_of (slice_get xs other)))
    → i ≡ sh → j ≡ other → a ≡ length xs → s ≡ start
    → child ≡ new_shard a range (Some sh) (Some other) (s + 1)
    → zs ≡ xs ++ child ∷ []
    → old ≡ slice_index_or zs i old
    → new ≡ record old { closing = Some closing }
    → old' ≡ slice_index_or (slice_set zs i new) j old'
    → new' ≡ record old' { closing = Some closing }
    → Merges xs sh other (start + 1) closing child (slice_set (slice_set zs i new) j new')
merges xs zs sh other i j start a s closing range child old new old' new' answer is_i is_j is_a is_s is_child is read
    close read' close' =
    let h = answered (merge_refusal xs sh other) range
    (joined (range_of (slice_get xs sh)) (range_of (slice_get xs other))) answer in
    let can = can_merge xs sh other h.0 in
    let kept = new_shard (length xs) (joined (range_of (slice_get xs sh)) (range_of (slice_get xs other))) (Some sh)
    (Some other) (start + 1) in
    let e_child : child ≡ kept = cc in
    let once = with_closed sh closing xs in
    let first : slice_set zs i new ≡ once ++ child ∷ [] =
    ap (λ (k : ℕ). slice_set zs k new) is_i
    ∙ closed_in xs (child ∷ []) zs sh can.state closing old new can.made is (read
    ∙ ap (λ (k : ℕ). slice_index_or zs k old) is_i) close in
    let still = still_there xs sh other closing can.beside can.other_made in
    let second : slice_set (slice_set zs i new) j new' ≡ with_closed other closing once ++ child ∷ [] =
    ap (λ (k : ℕ). slice_set (slice_set zs i new) k new') is_j
    ∙ closed_in once (child ∷ []) (slice_set zs i new) other still.0 closing old' new' still.1 first (read'
    ∙ ap (λ (k : ℕ). slice_index_or (slice_set zs i new) k old') is_j) close' in
    let value : slice_set (slice_set zs i new) j new' ≡ merged_shards sh other closing (start + 1) xs =
    second ∙ ap (λ (k : ShardState). with_closed other closing once ++ k ∷ []) e_child in
    record {
      allowed = h.0;
      value = value;
      tree = λ tree. subst IsTree (sym value) (tree_merged xs sh other (start + 1) closing h.0 tree);
      starts = λ tree ss more ts starts away same order.
          let away' = away ∙ ap (λ (born : ShardState). filter (stays sh other) ss ++ own_start born ∷ []) e_child in
          subst (λ (us : List ShardState). AreStarts ts us) (sym value)
          (reshaped xs (with_closed other closing once) (kept ∷ []) sh other (closes_two xs sh other closing) (
            refl,
            tt,
          ) tree.numbered ss more ts starts away' same order);
      families = λ firsts families.
          subst (AreFamilies (after_birth firsts sh other (length xs) (None ∷ []))) (sym value)
          (merge_families firsts xs sh other (length xs) (start + 1)
          (joined (range_of (slice_get xs sh)) (range_of (slice_get xs other))) closing
          can.state can.beside can.made can.is_open_now can.other_made can.other_open families);
    }
