-- The listed keys: their order, and that a shard's parents were read to their ends before its own row is drained.
use Rattle.std.proofs.Common.{◌≡◌, ℕ, zero, suc, ◌+◌, ◌*◌, ◌<◌, ◌≤◌, ◌^◌, max, Bool, true, false, List, [], ◌∷◌, length}
use Rattle.std.proofs.Common.{get_or, Option, Some, None, refl, sym, ap, subst, ◌∙◌, arith, inl, inr}
use Rattle.std.specs.Prelude.{◌⊎◌, ◌&&◌, not, slice_get, if◌then◌else◌, nat_lt}
use Rattle.std.proofs.lemmas.Bool.Decides.{nat_tests}
use Rattle.std.specs.List.{AllByRecursion}
use Rattle.std.specs.Option.{option_map}
use Rattle.std.proofs.lemmas.Option.{slice_get_read}
use Rattle.kds_base.specs.declared.lease_key.Checkpoint.{Checkpoint}
use Rattle.kds_base.specs.declared.lease_key.Checkpoint.TheVariants.{TrimHorizon, At, ShardEnd}
use Rattle.kds_base.specs.declared.lease_key.ShardRef.{ShardRef}
use Rattle.kds_defs.specs.declared.command.Turn.{Turn}
use Rattle.kds_defs.specs.declared.reply.Refusal.TheVariants as refusal
use Rattle.kds_defs.specs.declared.reply.Row.{Row}
use Rattle.kds_defs.specs.Decision.{Decision}
use Rattle.kds_defs.specs.Histories.{clock, journal}
use Rattle.kds_defs.specs.Journal.{Journal}
use Rattle.kds_defs.specs.Keys.{is_listed_key, ref, same_key}
use Rattle.kds_defs.specs.LeaseCommands.{is_unread, past_parent, past_parents}
use Rattle.kds_defs.specs.Leases.{is_marked_to_end, row, taken_count}
use Rattle.kds_defs.specs.Shards.{ShardState, is_closed_below, shard_at, shards}
use Rattle.kds_defs.specs.Streams.{is_live, live_streams, made_count, numbers_from, trim_floor}
use Rattle.kds_defs.specs.Tiled.{AreNumbered}
use Rattle.kds_defs.proofs.Decisions.{passed_if}
use Rattle.kcl_drill_laws.specs.Holding.{ArePast}
use Rattle.kcl_drill_laws.specs.Parents.{IsParentClosed}
use Rattle.kcl_drill.specs.Summed.{last_checkpoint}
use Rattle.kcl_drill_drain.specs.Draining.{CanDrain, IsDone, IsWhole, final_of, records_of}
use Rattle.kcl_drill_drain.specs.Keys.{AreDrainedTo, listed_keys}
use Rattle.kcl_drill_drain.specs.Laws.{HasLaws}
use Rattle.kcl_drill_drain.specs.Standing.{IsSpot, OthersWait, Spot, clock_at}
use Rattle.kcl_drill_drain.proofs.KeyLemmas.{IsKeyOf, all_in, filtered, in_numbers, key_of_streams, keys_in, keys_same}
use Rattle.kcl_drill_drain.proofs.KeyLemmas.{older_in, unlike_in, up_numbers}
use Rattle.kcl_drill_drain.proofs.Leading.{IsOver}
use Rattle.kcl_drill_drain.proofs.Overs.{is_listed_now, same_shard}

pub all_get : {A : Type 0} (P : A → Type 0) (xs : List A) (i : ℕ) (x : A) → AllByRecursion P xs
    → slice_get xs i ≡ Some x → P x
all_get P [] i x are is = absurd cc
all_get P (y ∷ xs) zero x are is = let e : y ≡ x = cc in subst P e are.0
all_get P (y ∷ xs) (suc i) x are is = all_get P xs i x are.1 is

pub number_at : (n i : ℕ) (xs : List ShardState) (x : ShardState) → AreNumbered n xs → slice_get xs i ≡ Some x
    → x.no ≡ n + i
number_at n i [] x numbers is = absurd cc
number_at n zero (y ∷ xs) x numbers is = let e : y ≡ x = cc in
    plus x.no (ap (λ (z : ShardState). z.no) (sym e) ∙ numbers.0)
  where
    plus : (m : ℕ) → m ≡ n → m ≡ n + 0
    plus m is = omega arith
number_at n (suc i) (y ∷ xs) x numbers is = let e = number_at (n + 1) i xs x numbers.1 is in omega arith

-- The spot of the key `key` at the index `i` of the listed keys.
abbrev pub spot_of : List Turn → List ShardRef → List Row → ℕ → ShardRef → Spot
spot_of h keys among i key = record { history = h; keys = keys; among = among; index = i; key = key }

pub is_spot : (h : List Turn) (moment : ℕ) (keys : List ShardRef) (among : List Row) (i : ℕ) (key : ShardRef)
    → CanDrain h moment → keys ≡ listed_keys h moment → i < length keys → key ≡ get_or keys i key
    → length keys * 16 < 2 ^ 63
    → IsSpot (spot_of h keys among i key) moment
is_spot h moment keys among i key can listed below is few =
    let here = slice_get_read keys (length keys) i key refl below is in
    record { can = can; listed = listed; here = here; few = omega arith }

-- ---- The listed keys of a history

pub keys_are : (h : List Turn) (moment : ℕ)
    → ((s : ℕ) → is_live (journal h) s ≡ true → IsWhole (journal h) (max (clock h) moment) s)
    → listed_keys h moment ≡ keys_in (journal h) (live_streams (journal h))
keys_are h moment whole =
    keys_same (journal h) (max (clock h) moment) (live_streams (journal h)) whole
    (filtered (is_live (journal h)) (numbers_from 1 (made_count (journal h))))

pub key_there : (h : List Turn) (index : ℕ) (s sh : ℕ) (x : ShardState)
    → ((s : ℕ) → is_live (journal h) s ≡ true → IsWhole (journal h) (max (clock h) index) s)
    → HasLaws h (max (clock h) index)
    → is_live (journal h) s ≡ true → shard_at (journal h) s sh ≡ Some x
    → (j : ℕ) × (slice_get (listed_keys h index) j ≡ Some (ref s sh))
key_there h index s sh x whole laws live there =
    let log = journal h in
    let n = laws.live s live in
    let among = in_numbers log laws.numbered 1 (made_count log) s live n.0 (omega (arith, n.1)) in
    let found = all_in log laws.numbered (live_streams log) s sh x among there in
    (found.0, ap (λ ks. slice_get ks found.0) (keys_are h index whole) ∙ found.1)

pub up_to : (j i : ℕ) → j < i + 1 → (j < i) ⊎ (j ≡ i)
up_to j i below = either (nat_lt j i) refl
  where
    lt : nat_lt j i ≡ true → j < i
    lt h = grind (arith, nat_tests)

    eq : nat_lt j i ≡ false → j ≡ i
    eq h = grind (arith, nat_tests)

    either : (b : Bool) → nat_lt j i ≡ b → (j < i) ⊎ (j ≡ i)
    either true is = inl (lt is)
    either false is = inr (eq is)

module _ (w : Spot) (moment : ℕ) (spot : IsSpot w moment) (laws : HasLaws w.history (clock_at w moment)) where
  all_keys : w.keys ≡ keys_in (journal w.history) (live_streams (journal w.history))
  all_keys = spot.listed ∙ keys_are w.history moment spot.can.whole

  in_streams : (j : ℕ) (key : ShardRef) → slice_get w.keys j ≡ Some key
      → slice_get (keys_in (journal w.history) (live_streams (journal w.history))) j ≡ Some key
  in_streams j key is = ap (λ ks. slice_get ks j) (sym all_keys) ∙ is

  pub key_is : IsKeyOf (journal w.history) w.key
  key_is = key_of_streams (journal w.history) laws.numbered (live_streams (journal w.history)) w.index w.key
      (filtered (is_live (journal w.history)) (numbers_from 1 (made_count (journal w.history))))
      (in_streams w.index w.key spot.here)

  pub whole_is : IsWhole (journal w.history) (clock_at w moment) w.key.stream
  whole_is = spot.can.whole w.key.stream key_is.live

  -- A key at another index is another key.
  pub apart : (j : ℕ) (key : ShardRef) → slice_get w.keys j ≡ Some key → (j < w.index) ⊎ (w.index < j)
      → same_key w.key key ≡ false
  apart j key is (inl below) =
      (unlike_in (journal w.history) laws.numbered (live_streams (journal w.history)) 1 j w.index key w.key
      (up_numbers (is_live (journal w.history)) 1 (made_count (journal w.history))) below (in_streams j key is)
      (in_streams w.index w.key spot.here)).1
  apart j key is (inr above) =
      (unlike_in (journal w.history) laws.numbered (live_streams (journal w.history)) 1 w.index j w.key key
      (up_numbers (is_live (journal w.history)) 1 (made_count (journal w.history))) above
      (in_streams w.index w.key spot.here) (in_streams j key is)).0

  pub before : (p : ℕ) → p < w.key.shard → (j : ℕ) × (j < w.index) × (slice_get w.keys j ≡ Some (ref w.key.stream p))
  before p below =
      let o = older_in (journal w.history) laws.numbered (live_streams (journal w.history)) w.index p w.key below
      (in_streams w.index w.key spot.here) in
      (o.0, o.1, ap (λ ks. slice_get ks o.0) all_keys ∙ o.2)

  pub listed : (now : Journal) → IsOver w.history (clock_at w moment) now
      → is_listed_key now (clock_at w moment) w.key ≡ true
  listed now is = is_listed_now w.history (clock_at w moment) now is w.key key_is.state key_is.live key_is.there
      (all_get (λ (x : ShardState). is_closed_below (trim_floor (journal w.history) (clock_at w moment) w.key.stream) x
      ≡ false) (shards (journal w.history) w.key.stream) w.key.shard key_is.state whole_is.listed key_is.there)

  -- ---- The parents of the key's shard were read to their ends

  ended_row : (o : Option Row) → option_map (λ (r : Row). r.checkpoint) o ≡ Some ShardEnd → is_marked_to_end o ≡ true
  ended_row None is = absurd cc
  ended_row (Some r) is = end_at r.checkpoint (cc)
    where
      end_at : (checkpoint : Checkpoint) → checkpoint ≡ ShardEnd
          → is_marked_to_end (Some (record r { checkpoint = checkpoint }))
          ≡ true
      end_at TrimHorizon e = absurd cc
      end_at (At q) e = absurd cc
      end_at ShardEnd e = refl

  none_unread : (a b : Bool) → b ≡ true → (a && not b) ≡ false
  none_unread true b e = ap not e
  none_unread false b e = refl

  past_one : (now : Journal) (o : Option ℕ) (next : Decision)
      → ((j : ℕ) (key : ShardRef) → j < w.index → slice_get w.keys j ≡ Some key → IsDone w.history key (row now key))
      → IsParentClosed (shards (journal w.history) w.key.stream) w.key.shard o
      → past_parent now (clock_at w moment) w.key.stream o next ≡ next
  past_one now None next done closed = refl
  past_one now (Some p) next done closed =
      let b = before p closed.0 in
      let k : ShardRef = ref w.key.stream p in
      let is = done b.0 k b.1 b.2 in
      let final : final_of (journal w.history) k ≡ ShardEnd = ap (λ d. if d then ShardEnd else last_of k) closed.1 in
      passed_if (refusal.ParentsOpen k) (is_unread now (clock_at w moment) k) next
      (none_unread (is_listed_key now (clock_at w moment) k) (is_marked_to_end (row now k))
      (ended_row (row now k) (is ∙ ap Some final)))
    where
      last_of : ShardRef → Checkpoint
      last_of k = last_checkpoint (records_of (journal w.history) k)

  -- The shard may be opened: each parent was read to its end, or isn't listed.
  pub past : (now : Journal) → IsOver w.history (clock_at w moment) now
      → ((j : ℕ) (key : ShardRef) → j < w.index → slice_get w.keys j ≡ Some key → IsDone w.history key (row now key))
      → ArePast now (clock_at w moment) w.key
  past now over done next =
      let x = key_is.state in
      let closed = all_get (λ (x : ShardState). IsParentClosed (shards (journal w.history) w.key.stream) x.no x.parent
      × IsParentClosed (shards (journal w.history) w.key.stream) x.no x.adjacent)
      (shards (journal w.history) w.key.stream) w.key.shard x (laws.parents w.key.stream) key_is.there in
      let no : x.no ≡ w.key.shard =
      number_at 0 w.key.shard (shards (journal w.history) w.key.stream) x (laws.numbered w.key.stream) key_is.there
      ∙ plain w.key.shard in
      ap (λ o. past_parents now (clock_at w moment) w.key.stream o next)
      (same_shard w.history (clock_at w moment) now over w.key.stream w.key.shard ∙ key_is.there)
      ∙ past_one now x.parent (past_parent now (clock_at w moment) w.key.stream x.adjacent next) done
      (subst (λ n. IsParentClosed (shards (journal w.history) w.key.stream) n x.parent) no closed.0)
      ∙ past_one now x.adjacent next done
      (subst (λ n. IsParentClosed (shards (journal w.history) w.key.stream) n x.adjacent) no closed.1)
    where
      plain : (n : ℕ) → 0 + n ≡ n
      plain n = omega arith

  -- ---- The other keys, as long as their rows stay

  pub others_stay : (old now : Journal) → OthersWait w old
      → ((key : ShardRef) → same_key w.key key ≡ false → row now key ≡ row old key) → taken_count now ≡ taken_count old
      → OthersWait w now
  others_stay old now others rows count = record {
    done = λ j key below is.
        subst (IsDone w.history key) (sym (rows key (apart j key is (inl below)))) (others.done j key below is);
    waits = λ j key above is.
        let f = others.waits j key above is in
        record { now = f.now; there = rows key (apart j key is (inr above)) ∙ f.there; seen = f.seen; fresh = f.fresh };
    few = subst (λ n. n ≤ length w.history + (w.index + 1)) (sym count) others.few;
  }

  pub same_here : (j : ℕ) (key : ShardRef) → j ≡ w.index → slice_get w.keys j ≡ Some key → key ≡ w.key
  same_here j key e is = let a : Some key ≡ Some w.key = sym is ∙ ap (slice_get w.keys) e ∙ spot.here in cc (a)

  done_by : (now : Journal)
      → ((j : ℕ) (key : ShardRef) → j < w.index → slice_get w.keys j ≡ Some key → IsDone w.history key (row now key))
      → IsDone w.history w.key (row now w.key)
      → (j : ℕ) (key : ShardRef) → slice_get w.keys j ≡ Some key → (j < w.index) ⊎ (j ≡ w.index)
      → IsDone w.history key (row now key)
  done_by now before here j key is (inl below) = before j key below is
  done_by now before here j key is (inr same) =
      subst (λ k. IsDone w.history k (row now k)) (sym (same_here j key same is)) here

  pub one_more : (now : Journal) → OthersWait w now → IsDone w.history w.key (row now w.key)
      → AreDrainedTo w.history w.keys w.among (w.index + 1) now
  one_more now others here = record {
    done = λ j key below is. done_by now others.done here j key is (up_to j w.index below);
    waits = λ j key above is. others.waits j key (omega arith) is;
    few = others.few;
  }

  pub none_yet : (now : Journal) → AreDrainedTo w.history w.keys w.among w.index now → OthersWait w now
  none_yet now drained = record {
    done = drained.done;
    waits = λ j key above is. drained.waits j key (omega arith) is;
    few = omega (arith, drained.few);
  }
