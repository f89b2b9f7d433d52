-- What a model finds for a key is what the journal says.
use Rattle.std.proofs.Common.{◌≡◌, ℕ, zero, suc, ◌+◌, ◌≤◌, Bool, true, false, List, [], ◌∷◌, length, slice_get, Option}
use Rattle.std.proofs.Common.{Some, None, refl, sym, ap}
use Rattle.std.proofs.Common.{subst, ◌∙◌, arith}
use Rattle.std.specs.Prelude.{if◌then◌else◌}
use Rattle.std.specs.Option.{option_map}
use Rattle.kds_base.specs.declared.lease_key.ShardRef.{ShardRef}
use Rattle.kds_defs.specs.Journal.{Journal}
use Rattle.kds_defs.specs.Keys.{is_listed_key}
use Rattle.kds_defs.specs.Shards.{ShardState, is_listed, is_listed_state, shown}
use Rattle.kcl_leases.specs.Standing.{live_shard}
use Rattle.kds_defs.specs.Subjects.{IsFresh}
use Rattle.kcl_audit_streams.specs.Standing.{AreStreams, IsStream, Shows, StreamValue, StreamsValue, if_live}
use Rattle.kcl_audit_streams.specs.Standing.{is_listed_in, live_at, lists, stream_at}
use Rattle.kcl_audit_streams.proofs.StreamTold.{listed_is}

pub stream_get : (log : Journal) (n i : ℕ) (vs : List StreamValue) (v : StreamValue) → AreStreams log n vs
    → slice_get vs i ≡ Some v → IsStream log (n + i) v
stream_get log n i [] v h is = absurd cc
stream_get log n zero (u ∷ vs) v h is =
    let same : u ≡ v = cc in
    let is_at : n ≡ n + 0 = omega arith in
    subst (λ m. IsStream log m v) is_at (subst (λ (x : StreamValue). IsStream log n x) same h.0)
stream_get log n (suc i) (u ∷ vs) v h is =
    let is_at : n + 1 + i ≡ n + suc i = omega arith in
    subst (λ m. IsStream log m v) is_at (stream_get log (n + 1) i vs v h.1 is)

get_none : (i : ℕ) (vs : List StreamValue) → slice_get vs i ≡ None → length vs ≤ i
get_none i [] h = omega arith
get_none zero (v ∷ vs) h = absurd cc
get_none (suc i) (v ∷ vs) h = let r = get_none i vs h in omega arith

pub stream_found : (w : StreamsValue) (log : Journal) (s : ℕ) (v : StreamValue) → Shows w log
    → stream_at w.streams s ≡ Some v → IsStream log s v
stream_found w log zero v sh is = absurd cc
stream_found w log (suc i) v sh is =
    let is_at : 1 + i ≡ suc i = omega arith in
    subst (λ m. IsStream log m v) is_at (stream_get log 1 i w.streams v sh.all.streams is)

pub stream_none : (w : StreamsValue) (log : Journal) (s : ℕ) → Shows w log → stream_at w.streams s ≡ None
    → IsFresh log s
stream_none w log zero sh is = sh.all.none
stream_none w log (suc i) sh is = let r = get_none i w.streams is in sh.all.others (suc i) (omega arith)

unmade_unlisted : (log : Journal) (c s sh : ℕ) → IsFresh log s → is_listed log c s sh ≡ false
unmade_unlisted log c s sh un = ap (λ (xs : List ShardState). is_listed_state log c s (slice_get xs sh)) un.no_shards

gone_unlisted : (w : StreamsValue) (key : ShardRef) (v : StreamValue) (b : Bool) → v.live ≡ b
    → is_listed_in (if b then Some v else None) w.clock key.shard ≡ is_listed_in (Some v) w.clock key.shard
gone_unlisted w key v true live = refl
gone_unlisted w key v false live = rw live refl

listed_by : (w : StreamsValue) (log : Journal) (key : ShardRef) (o : Option StreamValue) → Shows w log
    → stream_at w.streams key.stream ≡ o
    → is_listed_in (if_live o) w.clock key.shard ≡ is_listed_key log w.clock key
listed_by w log key None sh is =
    sym (unmade_unlisted log w.clock key.stream key.shard (stream_none w log key.stream sh is))
listed_by w log key (Some v) sh is =
    gone_unlisted w key v v.live refl
    ∙ sym (listed_is log w.clock key.stream key.shard v (stream_found w log key.stream v sh is) sh.order)

pub listed_key : (w : StreamsValue) (log : Journal) (key : ShardRef) → Shows w log
    → lists w key ≡ is_listed_key log w.clock key
listed_key w log key sh = listed_by w log key (stream_at w.streams key.stream) sh refl

-- ---- The shard of a key

-- The shard of the stream, if both exist.
abbrev pub shard_of : Option StreamValue → ℕ → Option ShardState
shard_of None sh = None
shard_of (Some v) sh = slice_get v.tree sh

state_by : (log : Journal) (key : ShardRef) (v : StreamValue) (b : Bool) → IsStream log key.stream v → v.live ≡ b
    → shard_of (if b then Some v else None) key.shard ≡ live_shard log key
state_by log key v true st live =
    rw (st.lives ∙ live) (ap (λ (xs : List ShardState). slice_get xs key.shard) (sym st.shards_are))
state_by log key v false st live = rw (st.lives ∙ live) refl

shard_by : (w : StreamsValue) (log : Journal) (key : ShardRef) (o : Option StreamValue) → Shows w log
    → stream_at w.streams key.stream ≡ o
    → shard_of (if_live o) key.shard ≡ live_shard log key
shard_by w log key None sh is = rw (stream_none w log key.stream sh is).gone refl
shard_by w log key (Some v) sh is = state_by log key v v.live (stream_found w log key.stream v sh is) refl

pub shard_key : (w : StreamsValue) (log : Journal) (key : ShardRef) → Shows w log
    → shard_of (live_at w.streams key.stream) key.shard ≡ live_shard log key
shard_key w log key sh = shard_by w log key (stream_at w.streams key.stream) sh refl

live_by : (u v : StreamValue) (b : Bool) → u.live ≡ b → (if b then Some u else None) ≡ Some v → (Some u ≡ Some v)
    × (v.live ≡ true)
live_by u v true is h = let same : u ≡ v = cc in (h, ap (λ (x : StreamValue). x.live) (sym same) ∙ is)
live_by u v false is h = absurd cc

pub live_found : (o : Option StreamValue) (v : StreamValue) → if_live o ≡ Some v → (o ≡ Some v) × (v.live ≡ true)
live_found None v h = absurd cc
live_found (Some u) v h = live_by u v u.live refl h

pub shown_live : (v : StreamValue) (sh : ℕ) → v.live ≡ true
    → (if v.live then option_map shown (slice_get v.tree sh) else None) ≡ option_map shown (shard_of (Some v) sh)
shown_live v sh live = rw live refl
