-- What can be read of a shard by the journal is what can be read from its log.
use Rattle.std.proofs.Common.{◌≡◌, ℕ, zero, suc, ◌+◌, ◌-◌, ◌^◌, ◌<◌, List, [], ◌∷◌, length, get_or, Option, Some, None}
use Rattle.std.proofs.Common.{refl, sym, ap, subst, ◌∙◌, arith}
use Rattle.std.specs.Prelude.{is_none, if◌then◌else◌}
use Rattle.kds_defs.specs.declared.limits.TheConstants.{BATCH_BYTES}
use Rattle.kds_defs.specs.Journal.{Journal}
use Rattle.kds_defs.specs.Listings.{are_none, behind}
use Rattle.kds_defs.specs.Records.{Logged, batch, beginning, left_among, left_from, records}
use Rattle.kds_defs.specs.Streams.{floor_of, trim_floor}
use Rattle.kds_log.specs.Log.{LogValue, first_arrival}
use Rattle.kds_stream.proofs.Clocks.{left_twice}
use Rattle.kds_stream_logs.proofs.LogLemmas.{all_at}
use Rattle.kds_stream_logs.specs.Batches.{batch_among, behind_by}
use Rattle.kds_stream.specs.Showing.{AreKept, IsKept, Shows}
use Rattle.kds_stream_logs.specs.Logs.{IsBelow, IsUnder}
use Rattle.kds_stream.specs.Value.{IsStream, StreamValue}

-- ---- The sequence numbers in a log

pub below_last : (v : StreamValue) (i : ℕ) (l : LogValue) → IsStream v → i < length v.logs → l ≡ get_or v.logs i l
    → IsBelow (2 ^ 64 - 1) l
below_last v i l is below is_at = cases l.last (all_at (IsBelow v.next) v.logs i l below is_at is.numbers)
  where
    cases : (last : Option ℕ) → IsUnder v.next last → IsUnder (2 ^ 64 - 1) last
    cases None h = tt
    cases (Some n) h = omega (arith, is.fits)

-- ---- What is left of a shard's records

pub are_none_by : (rs : List Logged) → are_none rs ≡ is_none (first_arrival rs)
are_none_by [] = refl
are_none_by (r ∷ rs) = refl

pub behind_first : (clock : ℕ) (rs : List Logged) → behind clock rs ≡ behind_by clock (first_arrival rs)
behind_first clock [] = refl
behind_first clock (r ∷ rs) = refl

kept_at : (floor : ℕ) (log : Journal) (s n i : ℕ) (ls : List LogValue) (l : LogValue) → AreKept floor log s n ls
    → i < length ls → l ≡ get_or ls i l → IsKept floor (records log s (n + i)) l.kept
kept_at floor log s n i [] l h below is = absurd (omega arith)
kept_at floor log s n zero (x ∷ ls) l h below is =
    let e : n ≡ n + 0 = omega arith in
    subst (λ m. IsKept floor (records log s m) l.kept) e
    (subst (λ (y : LogValue). IsKept floor (records log s n) y.kept) (sym is) h.0)
kept_at floor log s n (suc i) (x ∷ ls) l h below is =
    let e : n + 1 + i ≡ n + suc i = omega arith in
    subst (λ m. IsKept floor (records log s m) l.kept) e (kept_at floor log s (n + 1) i ls l h.1 (omega arith) is)

module _ (v : StreamValue) (log : Journal) (shown : Shows v log) (sh : ℕ) (l : LogValue) (below : sh < length v.logs)
    (is : l ≡ get_or v.logs sh l) where
  pub left_is : (position : ℕ) → left_from log v.clock v.no sh position ≡ left_among (floor_of v.cut) position l.kept
  left_is position =
      let e : 0 + sh ≡ sh = omega arith in
      let k : IsKept (floor_of v.cut) (records log v.no sh) l.kept =
      subst (λ m. IsKept (floor_of v.cut) (records log v.no m) l.kept) e
      (kept_at (floor_of v.cut) log v.no 0 sh v.logs l shown.stored.kept below is) in
      ap (λ b. if b then left_among (trim_floor log v.clock v.no) position (records log v.no sh) else [])
      shown.stored.live
      ∙ ap (λ f. left_among f position (records log v.no sh)) shown.stored.floor_is
      ∙ sym (ap (left_among (floor_of v.cut) position) k.rest
      ∙ left_twice (floor_of v.cut) position k.from (records log v.no sh) k.early)

  pub batch_is : (position limit : ℕ)
      → batch log v.clock v.no sh position limit ≡ batch_among (floor_of v.cut) position limit l.kept
  batch_is position limit = ap (beginning limit BATCH_BYTES) (left_is position)
