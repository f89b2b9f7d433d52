-- A key's shard and the listed keys are the same in a service as in each journal that it shows.
use Rattle.std.proofs.Common.{◌≡◌, ℕ, zero, suc, ◌+◌, Bool, true, false, ◌==◌, List, [], ◌∷◌, ◌++◌, drop, slice_get}
use Rattle.std.proofs.Common.{Option, Some, None, refl, sym, ap, subst, ◌∙◌}
use Rattle.std.specs.Prelude.{not, ◌||◌, if◌then◌else◌}
use Rattle.std.specs.List.{position_from}
use Rattle.std.proofs.lemmas.Bool.{eqb-true, or_from}
use Rattle.std.proofs.lemmas.List.{append_assoc}
use Rattle.std.proofs.lemmas.Option.{none-some, same_Some}
use Rattle.kds_base.specs.declared.lease_key.ShardRef.{ShardRef}
use Rattle.kds_defs.specs.Journal.{Journal}
use Rattle.kds_defs.specs.Keys.{is_listed_key}
use Rattle.kds_defs.specs.Listings.{listed_in, refs_of}
use Rattle.kds_defs.specs.Shards.{ShardState, is_closed_below, is_listed_state, listed_among, listed_shards, shard_at}
use Rattle.kds_defs.specs.Shards.{shards}
use Rattle.kds_defs.specs.Streams.{floor_of, is_live, live_streams, trim_floor}
use Rattle.kds_stream.specs.Showing.{Shows}
use Rattle.kds_stream.specs.Value.{StreamValue, is_listed_at}
use Rattle.kds_service.proofs.Lists.{drop_get}
use Rattle.kds_service.proofs.Readings.{first_passes, from_zero, later_fails, live_are, none_passes}
use Rattle.kds_service.specs.Keyed.{is_listed_in, is_listed_of, listed_keys, live_shard, state_in, state_of, stream_at}
use Rattle.kds_service.specs.Indexes.{index_by_number}
use Rattle.kds_service.specs.Shown.{AreAt, AreShown, ServiceValue, ShowsAll, is_among, numbers_of, service}

-- ---- The stream with a number

here_or_later : (v : StreamValue) (vs : List StreamValue) (s : ℕ) (b : Bool) → (v.no == s) ≡ b
    → stream_at (v ∷ vs) s ≡ (if b then Some v else stream_at vs s)
here_or_later v vs s b e = ap (λ b. if b then Some v else stream_at vs s) e

found_from : (n i s : ℕ) (vs : List StreamValue) (x : StreamValue)
    → position_from (λ m. m == s) n (numbers_of vs) ≡ Some (n + i) → slice_get vs i ≡ Some x → stream_at vs s ≡ Some x
found_from n i s [] x is here = absurd (none-some x here)
found_from n zero s (v ∷ vs) x is here =
    here_or_later v vs s true (first_passes (λ m. m == s) n v.no (numbers_of vs) is) ∙ here
found_from n (suc i) s (v ∷ vs) x is here =
    let rest = later_fails (λ m. m == s) n i v.no (numbers_of vs) is in
    here_or_later v vs s false rest.0 ∙ found_from (n + 1) i s vs x rest.1 here

pub stream_found : (i s : ℕ) (vs : List StreamValue) (x : StreamValue) → Some i ≡ index_by_number vs s
    → slice_get vs i ≡ Some x → Some x ≡ stream_at vs s
stream_found i s vs x found here = sym (found_from 0 i s vs x (sym found ∙ ap Some (from_zero i)) here)

none_from : (n s : ℕ) (vs : List StreamValue) → position_from (λ m. m == s) n (numbers_of vs) ≡ None
    → stream_at vs s ≡ None
none_from n s [] none = refl
none_from n s (v ∷ vs) none =
    let rest = none_passes (λ m. m == s) n v.no (numbers_of vs) none in
    here_or_later v vs s false rest.0 ∙ none_from (n + 1) s vs rest.1

pub none_found : (s : ℕ) (vs : List StreamValue) → None ≡ index_by_number vs s → None ≡ stream_at vs s
none_found s vs none = sym (none_from 0 s vs (sym none))

-- The stream has the number `s` and the clock `c`, and shows the journal.
pub record IsOf (log : Journal) (c s : ℕ) (x : StreamValue) : Type 0 where
  pub no : x.no ≡ s
  pub clock : x.clock ≡ c
  pub shown : Shows x log

of_here : (log : Journal) (c s : ℕ) (v : StreamValue) (vs : List StreamValue) (x : StreamValue) (b : Bool)
    → (v.no == s) ≡ b → v.clock ≡ c → Shows v log → (if b then Some v else stream_at vs s) ≡ Some x
    → (stream_at vs s ≡ Some x → IsOf log c s x) → IsOf log c s x
of_here log c s v vs x true e is_at shown is rest =
    subst (IsOf log c s) (same_Some v x is) (record { no = eqb-true v.no s e; clock = is_at; shown = shown })
of_here log c s v vs x false e is_at shown is rest = rest is

pub is_of : (log : Journal) (c s : ℕ) (vs : List StreamValue) (x : StreamValue) → AreAt c vs → AreShown log vs
    → stream_at vs s ≡ Some x → IsOf log c s x
is_of log c s [] x is_at shown is = absurd (none-some x is)
is_of log c s (v ∷ vs) x is_at shown is =
    of_here log c s v vs x (v.no == s) refl is_at.0 shown.0 is (is_of log c s vs x is_at.1 shown.1)

away_here : (v : StreamValue) (vs : List StreamValue) (s : ℕ) (b : Bool) → (v.no == s) ≡ b
    → (if b then Some v else stream_at vs s) ≡ None → (stream_at vs s ≡ None → is_among (numbers_of vs) s ≡ false)
    → is_among (numbers_of (v ∷ vs)) s ≡ false
away_here v vs s true e is rest = absurd (none-some v (sym is))
away_here v vs s false e is rest = or_from (v.no == s) (is_among (numbers_of vs) s) e (rest is)

away : (s : ℕ) (vs : List StreamValue) → stream_at vs s ≡ None → is_among (numbers_of vs) s ≡ false
away s [] is = refl
away s (v ∷ vs) is = away_here v vs s (v.no == s) refl is (away s vs)

-- ---- A shard of this stream

listed_by : (log : Journal) (c s floor : ℕ) (o : Option ShardState) → is_live log s ≡ true → trim_floor log c s ≡ floor
    → is_listed_at floor o ≡ is_listed_state log c s o
listed_by log c s floor None live is_at = refl
listed_by log c s floor (Some x) live is_at =
    sym (ap (λ b. not (not b || is_closed_below (trim_floor log c s) x)) live
    ∙ ap (λ f. not (is_closed_below f x)) is_at)

unlisted_by : (log : Journal) (c s : ℕ) (o : Option ShardState) → is_live log s ≡ false
    → false ≡ is_listed_state log c s o
unlisted_by log c s None dead = refl
unlisted_by log c s (Some x) dead = sym (ap (λ b. not (not b || is_closed_below (trim_floor log c s) x)) dead)

floor_by : (log : Journal) (c s : ℕ) (x : StreamValue) → IsOf log c s x → trim_floor log c s ≡ floor_of x.cut
floor_by log c s x is_own =
    ap (λ n. trim_floor log n s) (sym is_own.clock) ∙ ap (trim_floor log x.clock) (sym is_own.no)
    ∙ is_own.shown.stored.floor_is

live_by : (log : Journal) (c s : ℕ) (x : StreamValue) → IsOf log c s x → is_live log s ≡ true
live_by log c s x is_own = ap (is_live log) (sym is_own.no) ∙ is_own.shown.stored.live

shards_by : (log : Journal) (c s : ℕ) (x : StreamValue) → IsOf log c s x → shards log s ≡ x.tree
shards_by log c s x is_own = ap (shards log) (sym is_own.no) ∙ is_own.shown.stored.shards_are

module _ (w : ServiceValue) (log : Journal) (all : ShowsAll w log) (key : ShardRef) where
  listed_of : (o : Option StreamValue) → stream_at w.streams key.stream ≡ o
      → is_listed_of o key.shard ≡ is_listed_key log w.clock key
  listed_of None e = unlisted_by log w.clock key.stream (shard_at log key.stream key.shard)
      (all.others key.stream (away key.stream w.streams e))
  listed_of (Some x) e =
      let is_own = is_of log w.clock key.stream w.streams x all.at all.shown e in
      listed_by log w.clock key.stream (floor_of x.cut) (slice_get x.tree key.shard)
      (live_by log w.clock key.stream x is_own) (floor_by log w.clock key.stream x is_own)
      ∙ ap (λ xs. is_listed_state log w.clock key.stream (slice_get xs key.shard))
      (sym (shards_by log w.clock key.stream x is_own))

  -- The service and the journal agree on whether the shard with the key is listed.
  pub listed_is : is_listed_in w.streams key ≡ is_listed_key log w.clock key
  listed_is = listed_of (stream_at w.streams key.stream) refl

  state_by : (o : Option StreamValue) → stream_at w.streams key.stream ≡ o → state_of o key.shard ≡ live_shard log key
  state_by None e = sym
      (ap (λ b. if b then shard_at log key.stream key.shard else None)
      (all.others key.stream (away key.stream w.streams e)))
  state_by (Some x) e =
      let is_own = is_of log w.clock key.stream w.streams x all.at all.shown e in
      sym (ap (λ b. if b then shard_at log key.stream key.shard else None) (live_by log w.clock key.stream x is_own)
      ∙ ap (λ xs. slice_get xs key.shard) (shards_by log w.clock key.stream x is_own))

  -- The service and the journal agree on the state of the shard with the key.
  pub state_is : state_in w.streams key ≡ live_shard log key
  state_is = state_by (stream_at w.streams key.stream) refl

-- What holds at the clock and number of the stream found holds at the service's clock and the number sought.
pub at_key : (P : ℕ → ℕ → Type 0) (log : Journal) (c b n s : ℕ) (vs : List StreamValue) (x : StreamValue)
    → ShowsAll (service c b n vs) log → Some x ≡ stream_at vs s → (Shows x log → P x.clock x.no) → P c s
at_key P log c b n s vs x all found answered =
    let is_own = is_of log c s vs x all.at all.shown (sym found) in
    subst (λ t. P c t) is_own.no (subst (λ m. P m x.no) is_own.clock (answered is_own.shown))

-- ---- All listed shards

keys_by : (log : Journal) (c : ℕ) (vs : List StreamValue) → AreAt c vs → AreShown log vs
    → listed_keys vs ≡ listed_in log c (numbers_of vs)
keys_by log c [] is_at shown = refl
keys_by log c (v ∷ vs) is_at shown =
    let is_own : IsOf log c v.no v = record { no = refl; clock = is_at.0; shown = shown.0 } in
    let are : listed_shards log c v.no ≡ listed_among (floor_of v.cut) v.tree =
    ap (λ b. if b then listed_among (trim_floor log c v.no) (shards log v.no) else []) shown.0.stored.live
    ∙ ap (λ f. listed_among f (shards log v.no)) (floor_by log c v.no v is_own)
    ∙ ap (listed_among (floor_of v.cut)) shown.0.stored.shards_are in
    ap (λ xs. refs_of v.no xs ++ listed_keys vs) (sym are)
    ∙ ap (λ ks. refs_of v.no (listed_shards log c v.no) ++ ks) (keys_by log c vs is_at.1 shown.1)

-- The service and the journal have the same listed keys, in the same order.
pub keys_are : (w : ServiceValue) (log : Journal) → ShowsAll w log
    → listed_keys w.streams ≡ listed_in log w.clock (live_streams log)
keys_are w log all = keys_by log w.clock w.streams all.at all.shown
    ∙ ap (listed_in log w.clock) (sym (live_are w log all))

pub keys_step : (vs : List StreamValue) (i : ℕ) (x : StreamValue) (keys new : List ShardRef) → slice_get vs i ≡ Some x
    → new ≡ keys ++ refs_of x.no (listed_among (floor_of x.cut) x.tree)
    → new ++ listed_keys (drop (i + 1) vs) ≡ keys ++ listed_keys (drop i vs)
keys_step vs i x keys new here pushed =
    let own = refs_of x.no (listed_among (floor_of x.cut) x.tree) in
    ap (λ ks. ks ++ listed_keys (drop (i + 1) vs)) pushed ∙ append_assoc keys own (listed_keys (drop (i + 1) vs))
    ∙ ap (λ us. keys ++ listed_keys us) (sym (drop_get vs i x here))
