-- The last shard of a page, the numbers of a batch, and the first record since a moment.
use Rattle.std.proofs.Common.{◌≡◌, ℕ, zero, suc, ◌-◌, ◌<◌, Bool, true, false, List, [], ◌∷◌, length, map, Option, Some}
use Rattle.std.proofs.Common.{None, sym, ap, ◌∙◌, arith}
use Rattle.std.specs.Prelude.{cond, slice_get, nat_le, if◌then◌else◌}
use Rattle.std.specs.List.{AllByRecursion}
use Rattle.kds_base.proofs.Facts.{all_weaker, all_filter}
use Rattle.kds_defs.specs.declared.reply.Shard.{Shard}
use Rattle.kds_defs.specs.declared.reply.Stored.{Stored}
use Rattle.kds_defs.specs.declared.limits.TheConstants.{BATCH_BYTES}
use Rattle.kds_defs.specs.Listings.{last_no}
use Rattle.kds_defs.specs.Records.{Logged, beginning, first_at, is_left, stored}
use Rattle.kds_defs.proofs.LastPlaces.{one_less}
use Rattle.kds_log.specs.Log.{IsOrderly, IsUpTo, LogValue, first_number, since}
use Rattle.kds_stream_logs.specs.Batches.{batch_among}
use Rattle.kds_stream_logs.specs.Logs.{IsBelow, IsUnder}

-- ---- The last shard of a page

pub last_shard : (shards : List Shard) (shard : Shard) → slice_get shards (length shards - 1) ≡ Some shard
    → shard.no ≡ last_no shards
last_shard [] shard is = absurd cc
last_shard (x ∷ []) shard is = let e : x ≡ shard = cc in ap (λ (s : Shard). s.no) (sym e)
last_shard (x ∷ y ∷ shards) shard is =
    last_shard (y ∷ shards) shard (ap (slice_get (x ∷ y ∷ shards)) (sym (one_less (length shards))) ∙ is)

-- ---- The sequence numbers of a batch

all_beginning : (P : Logged → Type 0) (limit room : ℕ) (rs : List Logged) → AllByRecursion P rs
    → AllByRecursion P (beginning limit room rs)
all_beginning P zero room rs h = tt
all_beginning P (suc limit) room [] h = tt
all_beginning P (suc limit) room (r ∷ rs) h =
    cases (nat_le r.bytes room) (all_beginning P limit (room - r.bytes) rs h.1)
  where
    cases : (b : Bool) → AllByRecursion P (beginning limit (room - r.bytes) rs)
        → AllByRecursion P (if b then r ∷ beginning limit (room - r.bytes) rs else [])
    cases true g = (h.0, g)
    cases false g = tt

all_stored : (n : ℕ) (rs : List Logged) → AllByRecursion (λ (r : Logged). r.seq < n) rs
    → AllByRecursion (λ (r : Stored). r.seq < n) (map stored rs)
all_stored n [] h = tt
all_stored n (r ∷ rs) h = (h.0, all_stored n rs h.1)

up_to_below : (n : ℕ) (last : Option ℕ) (r : Logged) → IsUnder n last → IsUpTo last r → r.seq < n
up_to_below n None r under up = absurd up
up_to_below n (Some m) r under up = omega arith

-- The numbers in a batch are below every bound of the log's numbers.
pub batch_below : (n floor position limit : ℕ) (l : LogValue) → IsBelow n l → IsOrderly l
    → AllByRecursion (λ (r : Stored). r.seq < n) (map stored (batch_among floor position limit l.kept))
batch_below n floor position limit l below orderly =
    let kept = all_weaker (IsUpTo l.last) (λ (r : Logged). r.seq < n) (λ r up. up_to_below n l.last r below up)
    l.kept orderly.numbers in
    all_stored n _ (all_beginning (λ (r : Logged). r.seq < n) limit BATCH_BYTES _
    (all_filter (λ (r : Logged). r.seq < n) (is_left floor position) l.kept kept))

-- ---- The first record that arrived at or after a moment

-- The number, or `next` if there is none.
abbrev pub or_next : Option ℕ → ℕ → ℕ
or_next None next = next
or_next (Some n) next = n

first_by : (b : Bool) (r : Logged) (rs : List Logged) (moment next : ℕ) (o : Option ℕ)
    → o ≡ first_number (cond b (r ∷ since moment rs) (since moment rs))
    → (o ≡ first_number (since moment rs) → or_next o next ≡ first_at rs moment next)
    → or_next o next ≡ (if b then r.seq else first_at rs moment next)
first_by true r rs moment next o is rest = ap (λ x. or_next x next) is
first_by false r rs moment next o is rest = rest is

pub first_is : (rs : List Logged) (moment next : ℕ) (o : Option ℕ) → o ≡ first_number (since moment rs)
    → or_next o next ≡ first_at rs moment next
first_is [] moment next o is = ap (λ x. or_next x next) is
first_is (r ∷ rs) moment next o is =
    first_by (nat_le moment r.arrival) r rs moment next o is (first_is rs moment next o)
