-- Turns on leases change nothing that the journal says of shards and records (`log` after them, `h` before).
use Rattle.std.proofs.Common.{◌≡◌, ℕ, true, false, List, [], ◌∷◌, ◌++◌, Some, refl, ap, ◌∙◌}
use Rattle.std.specs.Prelude.{◌&&◌, ◌||◌, not, slice_get, if◌then◌else◌}
use Rattle.kds_base.specs.declared.lease_key.ShardRef.{ShardRef}
use Rattle.kds_defs.specs.declared.command.Turn.{Turn}
use Rattle.kds_defs.specs.declared.limits.TheConstants.{BATCH_BYTES}
use Rattle.kds_defs.specs.Histories.{journal}
use Rattle.kds_defs.specs.Journal.{Journal}
use Rattle.kds_defs.specs.Keys.{is_listed_key}
use Rattle.kds_defs.specs.Listings.{are_none, ends_at, is_closed_at, listed_in, refs_of}
use Rattle.kds_defs.specs.Records.{batch, beginning, left_among, left_from, records}
use Rattle.kds_defs.specs.Shards.{ShardState, is_closed_below, is_listed_state, listed_among, listed_shards, shard_at}
use Rattle.kds_defs.specs.Shards.{shards}
use Rattle.kds_defs.specs.Streams.{is_live, live_streams, trim_floor}
use Rattle.kcl_drill_drain.proofs.Leading.{IsOver}

module _ (h : List Turn) (c : ℕ) (log : Journal) (is : IsOver h c log) where
  pub same_shard : (s sh : ℕ) → shard_at log s sh ≡ shard_at (journal h) s sh
  same_shard s sh = ap (λ xs. slice_get xs sh) (is.streams.shards s)

  pub same_left : (s sh p : ℕ) → left_from log c s sh p ≡ left_from (journal h) c s sh p
  same_left s sh p =
      ap (λ b. if b then left_among (trim_floor log c s) p (records log s sh) else []) (is.floors.live s)
      ∙ ap (λ n. if is_live (journal h) s then left_among n p (records log s sh) else []) (is.floors.floors s)
      ∙ ap (λ rs. if is_live (journal h) s then left_among (trim_floor (journal h) c s) p rs else [])
      (is.streams.records s sh)

  pub same_batch : (s sh p limit : ℕ) → batch log c s sh p limit ≡ batch (journal h) c s sh p limit
  same_batch s sh p limit = ap (beginning limit BATCH_BYTES) (same_left s sh p)

  pub same_ends : (s sh p : ℕ) → ends_at log c s sh p ≡ ends_at (journal h) c s sh p
  same_ends s sh p =
      ap (λ o. is_closed_at o && are_none (left_from log c s sh p)) (same_shard s sh)
      ∙ ap (λ rs. is_closed_at (shard_at (journal h) s sh) && are_none rs) (same_left s sh p)

  pub same_listed : (s : ℕ) → listed_shards log c s ≡ listed_shards (journal h) c s
  same_listed s =
      ap (λ b. if b then listed_among (trim_floor log c s) (shards log s) else []) (is.floors.live s)
      ∙ ap (λ n. if is_live (journal h) s then listed_among n (shards log s) else []) (is.floors.floors s)
      ∙ ap (λ xs. if is_live (journal h) s then listed_among (trim_floor (journal h) c s) xs else [])
      (is.streams.shards s)

  listed_same : (ss : List ℕ) → listed_in log c ss ≡ listed_in (journal h) c ss
  listed_same [] = refl
  listed_same (s ∷ ss) =
      ap (λ xs. refs_of s xs ++ listed_in log c ss) (same_listed s)
      ∙ ap (λ ks. refs_of s (listed_shards (journal h) c s) ++ ks) (listed_same ss)

  pub same_keys : listed_in log c (live_streams log) ≡ listed_in (journal h) c (live_streams (journal h))
  same_keys = listed_same (live_streams log) ∙ ap (listed_in (journal h) c) is.streams.live

  pub is_listed_now : (key : ShardRef) (x : ShardState) → is_live (journal h) key.stream ≡ true
      → shard_at (journal h) key.stream key.shard ≡ Some x → is_closed_below (trim_floor (journal h) c key.stream) x
      ≡ false → is_listed_key log c key ≡ true
  is_listed_now key x live there open_now =
      ap (is_listed_state log c key.stream) (same_shard key.stream key.shard ∙ there)
      ∙ ap (λ b. not (not b || is_closed_below (trim_floor log c key.stream) x)) (is.floors.live key.stream ∙ live)
      ∙ ap (λ n. not (is_closed_below n x)) (is.floors.floors key.stream)
      ∙ ap not open_now
