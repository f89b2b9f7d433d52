-- A read in the journal follows from the model: the batch, the shard's end, and the starting position.
use Rattle.std.proofs.Common.{◌≡◌, ℕ, ◌≤◌, Bool, true, List, [], map, slice_get, refl, sym, ap, ◌∙◌}
use Rattle.std.specs.Prelude.{◌&&◌, if◌then◌else◌}
use Rattle.kds_defs.specs.declared.limits.TheConstants.{BATCH_BYTES}
use Rattle.kds_defs.specs.Journal.{Journal}
use Rattle.kds_defs.specs.Legal.{last_clock}
use Rattle.kds_defs.specs.Listings.{are_none, ends_at, is_closed_at}
use Rattle.kds_base.specs.declared.lease_key.ShardRef.{ShardRef}
use Rattle.kds_defs.specs.declared.command.Origin.{Origin}
use Rattle.kds_defs.specs.declared.command.Origin.TheVariants as origin
use Rattle.kds_defs.specs.Origins.{origin_position}
use Rattle.kds_defs.specs.Records.{batch, beginning, first_at, left_among, left_from, next_number, numbers_of, records}
use Rattle.kds_defs.specs.Shards.{ShardState, shards}
use Rattle.kds_defs.specs.Streams.{trim_floor}
use Rattle.kcl_laws.specs.Recorded.{bare}
use Rattle.kcl_laws.proofs.BareRecords.{beginning_bare, first_bare, left_bare, none_bare, numbers_bare}
use Rattle.kcl_audit_streams.specs.Judging.{position_in}
use Rattle.kcl_audit_streams.specs.Standing.{IsStream, StreamValue, floor_in, records_in}

-- ---- The shard of a live stream

left_is : (log : Journal) (c s sh p : ℕ) (v : StreamValue) → IsStream log s v → v.live ≡ true → last_clock log ≤ c
    → map bare (left_from log c s sh p) ≡ left_among (floor_in v c) p (records_in v.records sh)
left_is log c s sh p v st live order =
    ap (λ (b : Bool). map bare (if b then left_among (trim_floor log c s) p (records log s sh) else [])) (st.lives
    ∙ live)
    ∙ left_bare (trim_floor log c s) p (records log s sh)
    ∙ ap (λ f. left_among f p (map bare (records log s sh))) (st.trims c order)
    ∙ ap (left_among (floor_in v c) p) (st.records_are sh)

pub batch_is : (log : Journal) (c s sh p limit : ℕ) (v : StreamValue) → IsStream log s v → v.live ≡ true
    → last_clock log ≤ c
    → numbers_of (batch log c s sh p limit)
    ≡ numbers_of (beginning limit BATCH_BYTES (left_among (floor_in v c) p (records_in v.records sh)))
batch_is log c s sh p limit v st live order =
    sym (numbers_bare (batch log c s sh p limit))
    ∙ ap numbers_of (beginning_bare limit BATCH_BYTES (left_from log c s sh p))
    ∙ ap (λ rs. numbers_of (beginning limit BATCH_BYTES rs)) (left_is log c s sh p v st live order)

pub ends_is : (log : Journal) (c s sh position : ℕ) (v : StreamValue) → IsStream log s v → v.live ≡ true
    → last_clock log ≤ c
    → ends_at log c s sh position
    ≡ (is_closed_at (slice_get v.tree sh) && are_none (left_among (floor_in v c) position (records_in v.records sh)))
ends_is log c s sh position v st live order =
    ap (λ (b : Bool). is_closed_at (slice_get (shards log s) sh) && b) (sym (none_bare (left_from log c s sh position))
    ∙ ap are_none (left_is log c s sh position v st live order))
    ∙ ap (λ (xs : List ShardState). is_closed_at (slice_get xs sh)
    && are_none (left_among (floor_in v c) position (records_in v.records sh))) st.shards_are

-- ---- Where reading begins

pub position_is : (log : Journal) (c : ℕ) (key : ShardRef) (start : Origin) (v : StreamValue)
    → IsStream log key.stream v
    → v.live ≡ true → last_clock log ≤ c
    → position_in v c key.shard start ≡ origin_position log c key start
position_is log c key origin.TrimHorizon v st live order = refl
position_is log c key origin.Latest v st live order = sym st.draws
position_is log c key (origin.Time moment) v st live order =
    (λ i. first_at (sym (left_is log c key.stream key.shard 0 v st live order) i) moment (sym st.draws i))
    ∙ first_bare (left_from log c key.stream key.shard 0) moment (next_number log key.stream)
