-- The keys of the listed shards, in order of stream and shard: all are there, and none twice.
use Rattle.std.proofs.Common.{◌≡◌, ℕ, zero, suc, ◌+◌, ◌<◌, ◌≤◌, Bool, true, false, List, [], ◌∷◌, ◌++◌, length, Some}
use Rattle.std.proofs.Common.{refl, sym, ap, subst, ◌∙◌, arith, inl, inr}
use Rattle.std.specs.Prelude.{◌==◌, ◌⊎◌, cond, not, slice_get, if◌then◌else◌}
use Rattle.std.specs.List.{AllByRecursion, filter}
use Rattle.std.proofs.lemmas.Bool.Decides.{nat_tests}
use Rattle.std.proofs.lemmas.Bool.{and_left, and_right, cond_both}
use Rattle.std.proofs.lemmas.Option.{same_Some}
use Rattle.kds_base.specs.declared.lease_key.ShardRef.{ShardRef}
use Rattle.kds_base.proofs.Facts.{equal_so}
use Rattle.kds_defs.proofs.Rising.{lower}
use Rattle.kds_defs.specs.Journal.{Journal}
use Rattle.kds_defs.specs.Keys.{ref, same_key}
use Rattle.kds_defs.specs.Listings.{listed_in, refs_of}
use Rattle.kds_defs.specs.Scaling.{RiseFrom}
use Rattle.kds_defs.specs.Shards.{ShardState, is_closed_below, listed_among, listed_shards, shard_at, shards}
use Rattle.kds_defs.specs.Streams.{is_live, numbers_from, trim_floor}
use Rattle.kds_defs.specs.Tiled.{AreNumbered}
use Rattle.kcl_drill_drain.specs.Draining.{IsWhole}

-- ---- An index in two lists together

Place : {A : Type 0} → List A → List A → ℕ → A → Type 0
Place xs ys i x = ((i < length xs) × (slice_get xs i ≡ Some x))
    ⊎ ((j : ℕ) × (i ≡ length xs + j) × (slice_get ys j ≡ Some x))

index_next : {A : Type 0} (y x : A) (xs ys : List A) (i : ℕ) → Place xs ys i x → Place (y ∷ xs) ys (suc i) x
unfolding Place
index_next y x xs ys i (inl is_at) = inl (omega (arith, is_at.0), is_at.1)
index_next y x xs ys i (inr is_at) = inr (is_at.0, omega (arith, is_at.1), is_at.2)

index_in_both : {A : Type 0} (xs ys : List A) (i : ℕ) (x : A) → slice_get (xs ++ ys) i ≡ Some x → Place xs ys i x
unfolding Place
index_in_both [] ys i x is = inr (i, omega arith, is)
index_in_both (y ∷ xs) ys zero x is = inl (omega arith, is)
index_in_both (y ∷ xs) ys (suc i) x is = index_next y x xs ys i (index_in_both xs ys i x is)

in_left : {A : Type 0} (xs ys : List A) (i : ℕ) (x : A) → slice_get xs i ≡ Some x → slice_get (xs ++ ys) i ≡ Some x
in_left [] ys i x is = absurd cc
in_left (y ∷ xs) ys zero x is = is
in_left (y ∷ xs) ys (suc i) x is = in_left xs ys i x is

in_right : {A : Type 0} (xs ys : List A) (j : ℕ) (x : A) → slice_get ys j ≡ Some x → (i : ℕ) × (i ≡ length xs + j)
    × (slice_get (xs ++ ys) i ≡ Some x)
in_right [] ys j x is = (j, omega arith, is)
in_right (y ∷ xs) ys j x is = let rest = in_right xs ys j x is in (suc rest.0, omega (arith, rest.1), rest.2)

-- ---- The keys of one stream's shards

-- The key of the shard at the index `i` of `xs`, the shards of the stream `s`, numbered from `n`.
record IsRef (s n i : ℕ) (xs : List ShardState) (key : ShardRef) : Type 0 where
  stream : key.stream ≡ s
  shard : key.shard ≡ n + i
  state : ShardState
  there : slice_get xs i ≡ Some state

ref_next : (s n i : ℕ) (x : ShardState) (xs : List ShardState) (key : ShardRef) → IsRef s (n + 1) i xs key
    → IsRef s n (suc i) (x ∷ xs) key
ref_next s n i x xs key is_at =
    record { stream = is_at.stream; shard = omega (arith, is_at.shard); state = is_at.state; there = is_at.there }

ref_at : (s n i : ℕ) (xs : List ShardState) (key : ShardRef) → AreNumbered n xs → slice_get (refs_of s xs) i ≡ Some key
    → IsRef s n i xs key
ref_at s n i [] key numbers is = absurd cc
ref_at s n zero (x ∷ xs) key numbers is =
    let e = same_Some (ref s x.no) key is in
    record {
      stream = ap (λ (k : ShardRef). k.stream) (sym e);
      shard = plus key.shard (ap (λ (k : ShardRef). k.shard) (sym e) ∙ numbers.0);
      state = x;
      there = refl;
    }
  where
    plus : (m : ℕ) → m ≡ n → m ≡ n + 0
    plus m is = omega arith
ref_at s n (suc i) (x ∷ xs) key numbers is = ref_next s n i x xs key (ref_at s (n + 1) i xs key numbers.1 is)

at_ref : (s n i : ℕ) (xs : List ShardState) (x : ShardState) → AreNumbered n xs → slice_get xs i ≡ Some x
    → slice_get (refs_of s xs) i ≡ Some (ref s (n + i))
at_ref s n i [] x numbers is = absurd cc
at_ref s n zero (y ∷ xs) x numbers is = let e : y.no ≡ n + 0 = omega (arith, numbers.0) in ap (λ m. Some (ref s m)) e
at_ref s n (suc i) (y ∷ xs) x numbers is = let e : n + 1 + i ≡ n + suc i = omega arith in
    at_ref s (n + 1) i xs x numbers.1 is ∙ ap (λ m. Some (ref s m)) e

below_there : (p i : ℕ) (xs : List ShardState) (x : ShardState) → p < i → slice_get xs i ≡ Some x → (y : ShardState)
    × (slice_get xs p ≡ Some y)
below_there p i [] x below is = absurd cc
below_there p zero (y ∷ xs) x below is = absurd (omega arith)
below_there zero (suc i) (y ∷ xs) x below is = (y, refl)
below_there (suc p) (suc i) (y ∷ xs) x below is = below_there p i xs x (omega arith) is

-- ---- The keys of all streams' shards

-- The keys of all shards of the streams `ss`, in order.
abbrev pub keys_in : Journal → List ℕ → List ShardRef
keys_in log [] = []
keys_in log (s ∷ ss) = refs_of s (shards log s) ++ keys_in log ss

-- Each of the streams `ss` is live in the journal.
abbrev pub AreLive : Journal → List ℕ → Type 0
AreLive log ss = AllByRecursion (λ s. is_live log s ≡ true) ss

all_listed : (floor : ℕ) (xs : List ShardState)
    → AllByRecursion (λ (x : ShardState). is_closed_below floor x ≡ false) xs → listed_among floor xs ≡ xs
all_listed floor [] are = refl
all_listed floor (x ∷ xs) are =
    ap (λ b. cond (not b) (x ∷ listed_among floor xs) (listed_among floor xs)) are.0
    ∙ ap (λ ys. x ∷ ys) (all_listed floor xs are.1)

pub listed_whole : (log : Journal) (c s : ℕ) → is_live log s ≡ true → IsWhole log c s
    → listed_shards log c s ≡ shards log s
listed_whole log c s live whole =
    ap (λ b. if b then listed_among (trim_floor log c s) (shards log s) else []) live
    ∙ all_listed (trim_floor log c s) (shards log s) whole.listed

-- If no stream has lost records or shards (`IsWhole`), the listed keys are the keys of all shards.
pub keys_same : (log : Journal) (c : ℕ) (ss : List ℕ) → ((s : ℕ) → is_live log s ≡ true → IsWhole log c s)
    → AreLive log ss → listed_in log c ss ≡ keys_in log ss
keys_same log c [] whole live = refl
keys_same log c (s ∷ ss) whole live =
    ap (λ xs. refs_of s xs ++ listed_in log c ss) (listed_whole log c s live.0 (whole s live.0))
    ∙ ap (λ ks. refs_of s (shards log s) ++ ks) (keys_same log c ss whole live.1)

pub filtered : (p : ℕ → Bool) (ns : List ℕ) → AllByRecursion (λ n. p n ≡ true) (filter p ns)
filtered p [] = tt
filtered p (n ∷ ns) =
    let rest = filtered p ns in
    cond_both (p n) (n ∷ filter p ns) (filter p ns) (AllByRecursion (λ m. p m ≡ true)) (λ is. (is, rest)) (λ not. rest)

pub up_numbers : (p : ℕ → Bool) (n count : ℕ) → RiseFrom n (filter p (numbers_from n count))
up_numbers p n zero = tt
up_numbers p n (suc count) =
    let ns = filter p (numbers_from (n + 1) count) in
    let rest = up_numbers p (n + 1) count in
    cond_both (p n) (n ∷ ns) ns (RiseFrom n) (λ is. (omega arith, rest)) (λ not. lower n (n + 1) ns (omega arith) rest)

-- ---- One key among the listed ones

-- The key belongs to a shard of a live stream.
pub record IsKeyOf (log : Journal) (key : ShardRef) : Type 0 where
  pub live : is_live log key.stream ≡ true
  pub state : ShardState
  pub there : shard_at log key.stream key.shard ≡ Some state

module _ (log : Journal) (numbered : (s : ℕ) → AreNumbered 0 (shards log s)) where
  of_ref : (s i : ℕ) (key : ShardRef) → is_live log s ≡ true → IsRef s 0 i (shards log s) key → IsKeyOf log key
  of_ref s i key live is_at =
      let i_is : key.shard ≡ i = omega (arith, is_at.shard) in
      record {
        live = ap (is_live log) is_at.stream ∙ live;
        state = is_at.state;
        there = ap (λ t. shard_at log t key.shard) is_at.stream ∙ ap (shard_at log s) i_is ∙ is_at.there;
      }

  pub key_of_streams : (ss : List ℕ) (i : ℕ) (key : ShardRef) → AreLive log ss → slice_get (keys_in log ss) i ≡ Some key
      → IsKeyOf log key
  unfolding Place
  key_of_streams [] i key live is = absurd cc
  key_of_streams (s ∷ ss) i key live is =
      either (λ j there. key_of_streams ss j key live.1 there)
      (index_in_both (refs_of s (shards log s)) (keys_in log ss) i key is)
    where
      either : ((j : ℕ) → slice_get (keys_in log ss) j ≡ Some key → IsKeyOf log key)
          → Place (refs_of s (shards log s)) (keys_in log ss) i key → IsKeyOf log key
      either later (inl is_at) = of_ref s i key live.0 (ref_at s 0 i (shards log s) key (numbered s) is_at.1)
      either later (inr is_at) = later is_at.0 is_at.2

  from_streams : (ss : List ℕ) (n i : ℕ) (key : ShardRef) → RiseFrom n ss → slice_get (keys_in log ss) i ≡ Some key
      → n ≤ key.stream
  unfolding Place
  from_streams [] n i key up is = absurd cc
  from_streams (s ∷ ss) n i key up is =
      either up.0 (λ j there. from_streams ss (s + 1) j key up.1 there)
      (index_in_both (refs_of s (shards log s)) (keys_in log ss) i key is)
    where
      either : n ≤ s → ((j : ℕ) → slice_get (keys_in log ss) j ≡ Some key → s + 1 ≤ key.stream)
          → Place (refs_of s (shards log s)) (keys_in log ss) i key → n ≤ key.stream
      either le later (inl is_at) = let e = (ref_at s 0 i (shards log s) key (numbered s) is_at.1).stream in
          omega arith
      either le later (inr is_at) = let m = later is_at.0 is_at.2 in omega arith

  -- The keys of older shards of the same stream stand before the index `i`.
  pub older_in : (ss : List ℕ) (i p : ℕ) (key : ShardRef) → p < key.shard → slice_get (keys_in log ss) i ≡ Some key
      → (j : ℕ) × (j < i) × (slice_get (keys_in log ss) j ≡ Some (ref key.stream p))
  unfolding Place
  older_in [] i p key below is = absurd cc
  older_in (s ∷ ss) i p key below is =
      either (λ j there. older_in ss j p key below there)
      (index_in_both (refs_of s (shards log s)) (keys_in log ss) i key is)
    where
      either : ((k : ℕ) → slice_get (keys_in log ss) k ≡ Some key → (j : ℕ) × (j < k)
          × (slice_get (keys_in log ss) j ≡ Some (ref key.stream p)))
          → Place (refs_of s (shards log s)) (keys_in log ss) i key → (j : ℕ) × (j < i)
          × (slice_get (keys_in log (s ∷ ss)) j ≡ Some (ref key.stream p))
      either later (inl is_at) =
          let r = ref_at s 0 i (shards log s) key (numbered s) is_at.1 in
          let below' : p < i = omega (arith, below, r.shard) in
          let y = below_there p i (shards log s) r.state below' r.there in
          let e : 0 + p ≡ p = omega arith in
          let at_p = at_ref s 0 p (shards log s) y.0 (numbered s) y.1 ∙ ap (λ m. Some (ref s m)) e in (
            p,
            below',
            in_left (refs_of s (shards log s)) (keys_in log ss) p (ref s p) at_p
                ∙ ap (λ t. Some (ref t p)) (sym r.stream),
          )
      either later (inr is_at) =
          let rest = later is_at.0 is_at.2 in
          let here = in_right (refs_of s (shards log s)) (keys_in log ss) rest.0 (ref key.stream p) rest.2 in
          (here.0, omega (arith, here.1, is_at.1, rest.1), here.2)

  -- Keys at different indexes differ.
  pub unlike_in : (ss : List ℕ) (n i j : ℕ) (a b : ShardRef) → RiseFrom n ss → i < j
      → slice_get (keys_in log ss) i ≡ Some a
      → slice_get (keys_in log ss) j ≡ Some b → (same_key a b ≡ false) × (same_key b a ≡ false)
  unfolding Place
  unlike_in [] n i j a b up below is is' = absurd cc
  unlike_in (s ∷ ss) n i j a b up below is is' =
      either (λ p q lt there there'. unlike_in ss (s + 1) p q a b up.1 lt there there')
      (λ q there'. from_streams ss (s + 1) q b up.1 there')
      (index_in_both (refs_of s (shards log s)) (keys_in log ss) i a is)
      (index_in_both (refs_of s (shards log s)) (keys_in log ss) j b is')
    where
      other_shard : (p q m k : ℕ) → m ≡ 0 + p → k ≡ 0 + q → p < q → ((m == k) ≡ false) × ((k == m) ≡ false)
      other_shard p q m k e e' lt = (grind (arith, nat_tests), grind (arith, nat_tests))

      other_stream : (m k : ℕ) → m ≡ s → s + 1 ≤ k → ((m == k) ≡ false) × ((k == m) ≡ false)
      other_stream m k e lt = (grind (arith, nat_tests), grind (arith, nat_tests))

      either : ((p q : ℕ) → p < q → slice_get (keys_in log ss) p ≡ Some a → slice_get (keys_in log ss) q ≡ Some b
          → (same_key a b ≡ false) × (same_key b a ≡ false))
          → ((q : ℕ) → slice_get (keys_in log ss) q ≡ Some b → s + 1 ≤ b.stream)
          → Place (refs_of s (shards log s)) (keys_in log ss) i a
          → Place (refs_of s (shards log s)) (keys_in log ss) j b → (same_key a b ≡ false) × (same_key b a ≡ false)
      either later high (inl is_at) (inl is_at') =
          let e = other_shard i j a.shard b.shard (ref_at s 0 i (shards log s) a (numbered s) is_at.1).shard
          (ref_at s 0 j (shards log s) b (numbered s) is_at'.1).shard below in (
            and_right (a.stream == b.stream) (a.shard == b.shard) e.0,
            and_right (b.stream == a.stream) (b.shard == a.shard) e.1,
          )
      either later high (inl is_at) (inr is_at') =
          let e = other_stream a.stream b.stream (ref_at s 0 i (shards log s) a (numbered s) is_at.1).stream
          (high is_at'.0 is_at'.2) in (
            and_left (a.stream == b.stream) (a.shard == b.shard) e.0,
            and_left (b.stream == a.stream) (b.shard == a.shard) e.1,
          )
      either later high (inr is_at) (inl is_at') = absurd (omega (arith, is_at.1, is_at'.0, below))
      either later high (inr is_at) (inr is_at') =
          later is_at.0 is_at'.0 (omega (arith, is_at.1, is_at'.1, below)) is_at.2 is_at'.2

  -- ---- No shard is missing from the list

  pub IsIn : ℕ → List ℕ → Type 0
  IsIn s [] = ⊥
  IsIn s (t ∷ ss) = (t ≡ s) ⊎ IsIn s ss

  pub all_in : (ss : List ℕ) (s sh : ℕ) (x : ShardState) → IsIn s ss → slice_get (shards log s) sh ≡ Some x
      → (j : ℕ) × (slice_get (keys_in log ss) j ≡ Some (ref s sh))
  unfolding IsIn
  all_in [] s sh x among is = absurd among
  all_in (t ∷ ss) s sh x (inl e) is =
      let there = ap (λ u. slice_get (shards log u) sh) e ∙ is in
      let m : 0 + sh ≡ sh = omega arith in (
        sh,
        in_left (refs_of t (shards log t)) (keys_in log ss) sh (ref t sh)
            (at_ref t 0 sh (shards log t) x (numbered t) there ∙ ap (λ n. Some (ref t n)) m)
            ∙ ap (λ u. Some (ref u sh)) e,
      )
  all_in (t ∷ ss) s sh x (inr among) is =
      let rest = all_in ss s sh x among is in
      let here = in_right (refs_of t (shards log t)) (keys_in log ss) rest.0 (ref s sh) rest.1 in
      (here.0, here.2)

  pub in_numbers : (n count s : ℕ) → is_live log s ≡ true → n ≤ s → s < n + count
      → IsIn s (filter (is_live log) (numbers_from n count))
  unfolding IsIn
  in_numbers n zero s live le lt = absurd (omega arith)
  in_numbers n (suc count) s live le lt =
      either (λ high. in_numbers (n + 1) count s live high (omega arith)) (n == s) refl
    where
      rest : List ℕ
      rest = filter (is_live log) (numbers_from (n + 1) count)

      skip : (b : Bool) → IsIn s rest → IsIn s (cond b (n ∷ rest) rest)
      skip true among = inr among
      skip false among = among

      above : (n == s) ≡ false → n + 1 ≤ s
      above h = grind (arith, nat_tests)

      either : (n + 1 ≤ s → IsIn s rest) → (b : Bool) → (n == s) ≡ b → IsIn s (cond (is_live log n) (n ∷ rest) rest)
      either later true same = let e = equal_so n s same in
          subst (λ d. IsIn s (cond d (n ∷ rest) rest)) (sym (ap (is_live log) e ∙ live)) (inl e)
      either later false other = skip (is_live log n) (later (above other))
