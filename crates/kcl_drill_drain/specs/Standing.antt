-- How far the drain of one key's row has come: taken, opened, then batch after batch read, given and marked.
use Rattle.std.specs.Prelude.{ℕ, ◌≡◌, ◌+◌, ◌<◌, ◌≤◌, ◌^◌, max, Bool, false, List, [], ◌∷◌, length, map, slice_get}
use Rattle.std.specs.Prelude.{Option, Some, None}
use Rattle.kds_base.specs.declared.lease_key.ShardRef.{ShardRef}
use Rattle.kds_defs.specs.declared.command.Target.TheVariants as target
use Rattle.kds_defs.specs.declared.command.Turn.{Turn}
use Rattle.kds_defs.specs.declared.reply.Reply.{Reply}
use Rattle.kds_defs.specs.declared.reply.Reply.TheVariants as reply
use Rattle.kds_defs.specs.declared.reply.Row.{Row}
use Rattle.kds_defs.specs.Histories.{clock, journal}
use Rattle.kds_defs.specs.Journal.{Journal}
use Rattle.kds_defs.specs.RowWrites.{least}
use Rattle.kds_defs.specs.Leases.{ReadDone, is_end, row, taken_count}
use Rattle.kds_defs.specs.Listings.{ends_at}
use Rattle.kds_defs.specs.Records.{Logged, batch, numbers_of, position_after, stored}
use Rattle.kds_defs.specs.Shards.{start_of}
use Rattle.kcl_defs.specs.Consumers.{first_position, last_number_in}
use Rattle.kcl_drill.specs.Summed.{last_checkpoint}
use Rattle.kcl_drill_laws.specs.Holding.{Holding, Holds, after_give, after_mark, after_read, taken_line}
use Rattle.kcl_drill_drain.specs.declared.held.DrainTenure.{DrainTenure}
use Rattle.kcl_drill_drain.specs.declared.held.TheConstants.{READ}
use Rattle.kcl_drill_drain.specs.Draining.{CanDrain, IsDone, IsFresh, left_of, records_of, shard_of}
use Rattle.kcl_drill_drain.specs.Keys.{AreDrainedTo, Waits, listed_keys}
use Rattle.kcl_drill_drain.specs.Leased.{Leads}

-- One of the listed keys, with the history before the drain and the rows that a survey has shown (`among`).
pub record Spot : Type 0 where
  pub history : List Turn
  pub keys : List ShardRef
  pub among : List Row
  pub index : ℕ
  pub key : ShardRef

-- The history of `w` can be drained at `moment`, and its key stands at its index among the listed keys.
pub record IsSpot (w : Spot) (moment : ℕ) : Type 0 where
  pub can : CanDrain w.history moment
  pub listed : w.keys ≡ listed_keys w.history moment
  pub here : slice_get w.keys w.index ≡ Some w.key
  pub few : w.index < 2 ^ 63

-- The clock during the drain: at least `moment`, and at least the history's clock before it.
abbrev pub clock_at : (w : Spot) (moment : ℕ) → ℕ
clock_at w moment = max (clock w.history) moment

-- The rows of the keys before this one are drained, and the rows of the keys after it wait.
pub record OthersWait (w : Spot) (log : Journal) : Type 0 where
  pub done : (j : ℕ) (key : ShardRef) → j < w.index → slice_get w.keys j ≡ Some key → IsDone w.history key (row log key)
  pub waits : (j : ℕ) (key : ShardRef) → w.index < j → slice_get w.keys j ≡ Some key → Waits w.history w.among log key
  pub few : taken_count log ≤ length w.history + (w.index + 1)

-- The newest line took the row `r` of the key for the tenure `held`; before it, this row waited with the later ones.
pub record IsTaken (w : Spot) (actor : ℕ) (r : Row) (held : DrainTenure) (log : Journal) : Type 0 where
  pub before : Journal
  pub clock : ℕ
  pub is : log ≡ taken_line before clock actor w.key r 1 ∷ before
  pub there : row before w.key ≡ Some r
  pub drained : AreDrainedTo w.history w.keys w.among w.index before
  pub number : held.tenure ≡ taken_count before + 1
  pub counter : held.counter ≡ r.counter + 1
  pub position : held.position ≡ first_position r.checkpoint
  pub fresh : IsFresh w.history w.key r

-- The tenure of this key and its row are as a `Holding` says, and the other keys as `OthersWait`.
pub record Stands (w : Spot) (actor : ℕ) (x : Holding) (log : Journal) : Type 0 where
  pub others : OthersWait w log
  pub holds : Holds log x
  pub own : x.by ≡ actor
  pub of_key : x.key ≡ w.key

-- The tenure is ready for its next read: all reads are given, SHARD_END isn't marked, and further marks fit.
pub record IsReady (w : Spot) (moment : ℕ) (x : Holding) : Type 0 where
  pub none_waits : x.waiting ≡ []
  pub given : x.done ≡ x.position
  pub going : is_end x.checkpoint ≡ false
  pub settled : left_of (journal w.history) (clock_at w moment) w.key x.position ≡ []
      → x.checkpoint ≡ last_checkpoint (records_of (journal w.history) w.key)
  pub low : least x.checkpoint x.floor ≤ max x.position (start_of (shard_of (journal w.history) w.key))
  pub budget : x.counter + length (left_of (journal w.history) (clock_at w moment) w.key x.position)
      ≤ length w.history + 1 + length (records_of (journal w.history) w.key)

-- The code's `held` has the number, the position and the counter of the tenure `x`.
pub record IsHeld (x : Holding) (held : DrainTenure) : Type 0 where
  pub tenure : x.tenure ≡ held.tenure
  pub position : x.position ≡ held.position
  pub counter : x.counter ≡ held.counter

-- Turns on leases led to a tenure `held` of this key that is ready for its next read.
pub record ReadsOn (stands : List Turn → Type 0) (w : Spot) (actor moment : ℕ) (held : DrainTenure) : Type 0 where
  pub now : Holding
  pub leads : Leads stands actor moment w.history (Stands w actor now)
  pub ready : IsReady w moment now
  pub is : IsHeld now held

-- Turns on leases led to drained rows up to this key, and the rows of the keys after it wait.
abbrev pub IsDrainedHere : (stands : List Turn → Type 0) (w : Spot) (actor moment : ℕ) → Type 0
IsDrainedHere stands w actor moment =
    Leads stands actor moment w.history (AreDrainedTo w.history w.keys w.among (w.index + 1))

-- ---- The next read of the tenure `x`, and what follows it

-- The batch that the next read of the tenure `x` returns.
abbrev pub batch_at : (w : Spot) (moment : ℕ) (x : Holding) → List Logged
batch_at w moment x = batch (journal w.history) (clock_at w moment) w.key.stream w.key.shard x.position READ

-- The position of the tenure `x` after its next read.
abbrev pub reach_at : (w : Spot) (moment : ℕ) (x : Holding) → ℕ
reach_at w moment x = position_after x.position (numbers_of (batch_at w moment x))

-- Whether the next read ends the shard: it is closed, and no record is left after the batch.
abbrev pub ended_at : (w : Spot) (moment : ℕ) (x : Holding) → Bool
ended_at w moment x = ends_at (journal w.history) (clock_at w moment) w.key.stream w.key.shard (reach_at w moment x)

-- The next read as the tenure keeps it: the numbers of its batch, and whether it ends the shard.
abbrev pub read_at : (w : Spot) (moment : ℕ) (x : Holding) → ReadDone
read_at w moment x = record { numbers = numbers_of (batch_at w moment x); ended = ended_at w moment x }

-- The sequence number of the last record that the next read returns; None if the batch is empty.
abbrev pub last_at : (w : Spot) (moment : ℕ) (x : Holding) → Option ℕ
last_at w moment x = last_number_in (map stored (batch_at w moment x))

-- The reply to the next read of the tenure `x`.
abbrev pub reply_at : (w : Spot) (moment : ℕ) (x : Holding) → Reply
reply_at w moment x = reply.Read (map stored (batch_at w moment x)) (reach_at w moment x) (ended_at w moment x)

-- The tenure `x` after its next read.
abbrev pub read_then : (w : Spot) (moment : ℕ) (x : Holding) → Holding
read_then w moment x = after_read x (read_at w moment x)

-- The tenure `x` after its next read was made and given.
abbrev pub given_then : (w : Spot) (moment : ℕ) (x : Holding) → Holding
given_then w moment x = after_give (read_then w moment x) (read_at w moment x) []

-- The tenure `x` after a mark at the sequence number; with None it is unchanged.
abbrev pub marked_at : (q : Option ℕ) (x : Holding) → Holding
marked_at None x = x
marked_at (Some q) x = after_mark x (target.At q)

-- The tenure `x` after its next read was made and given, and its last record, if any, was marked.
abbrev pub marked_then : (w : Spot) (moment : ℕ) (x : Holding) → Holding
marked_then w moment x = marked_at (last_at w moment x) (given_then w moment x)
