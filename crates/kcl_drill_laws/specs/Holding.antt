-- A tenure that its actor alone uses: how far its reads have come, and its row (Kinesis Client Library, leases).
use Rattle.std.specs.Prelude.{ℕ, ◌≡◌, ◌+◌, ◌≤◌, ◌==◌, Bool, true, false, nat_le, nat_lt, List, [], ◌∷◌, ◌++◌, drop}
use Rattle.std.specs.Prelude.{length, Some}
use Rattle.kds_base.specs.declared.lease_key.Checkpoint.{Checkpoint}
use Rattle.kds_base.specs.declared.lease_key.ShardRef.{ShardRef}
use Rattle.kds_defs.specs.declared.command.Target.{Target}
use Rattle.kds_defs.specs.declared.command.Target.TheVariants as target
use Rattle.kds_defs.specs.declared.entry.Entry.TheVariants as entry
use Rattle.kds_defs.specs.declared.reply.Reply.TheVariants as reply
use Rattle.kds_defs.specs.declared.reply.Row.{Row}
use Rattle.kds_defs.specs.Decision.{Decision, Accepted}
use Rattle.kds_defs.specs.Journal.{Line, Journal, plain_line}
use Rattle.kds_defs.specs.Keys.{is_listed_key}
use Rattle.kds_defs.specs.LeaseCommands.{give, mark, open_shard, past_parents, read, read_reply, take_lease}
use Rattle.kds_defs.specs.RowWrites.{least}
use Rattle.kds_defs.specs.Leases.{ReadDone, TenureState, checkpoint_at, delivered, given_reads, is_end, key_of}
use Rattle.kds_defs.specs.Leases.{last_ended, start_position, reach, row, taken_count, tenure}
use Rattle.kds_defs.specs.Records.{batch, numbers_of, position_after}
use Rattle.kds_defs.specs.Shards.{shard_at}
use Rattle.kds_defs.specs.StreamCommands.{last_number}

-- How far a tenure has come (read to `position`, given to `done`), and its row's counter, checkpoint and floor.
pub record Holding : Type 0 where
  pub by : ℕ
  pub key : ShardRef
  pub tenure : ℕ
  pub position : ℕ
  pub done : ℕ
  pub waiting : List ReadDone
  pub ended : Bool
  pub counter : ℕ
  pub checkpoint : Checkpoint
  pub floor : ℕ

-- The key's row names the tenure, and has the counter, the checkpoint and the floor of `x`.
pub record HasRow (log : Journal) (x : Holding) : Type 0 where
  pub now : Row
  pub there : row log x.key ≡ Some now
  pub of_tenure : now.tenure ≡ x.tenure
  pub counted : now.counter ≡ x.counter
  pub checkpoint : now.checkpoint ≡ x.checkpoint
  pub floor : now.floor ≡ x.floor

-- The tenure belongs to the actor and the key of `x`, is opened, and has read and given as far as `x` says.
pub record HasCome (log : Journal) (x : Holding) : Type 0 where
  pub state : TenureState
  pub begun : tenure log x.tenure ≡ Some state
  pub took : key_of log x.tenure ≡ Some x.key
  pub own : state.by ≡ x.by
  pub of_key : state.key ≡ x.key
  pub opened : state.opened ≡ true
  pub up_to : reach state ≡ x.position
  pub given_to : delivered state ≡ x.done
  pub some : state.given ≤ length state.reads
  pub waits : drop state.given state.reads ≡ x.waiting
  pub last : last_ended (given_reads state) ≡ x.ended

-- The tenure has come as far as this `Holding` says, and its row is as it says.
pub record Holds (log : Journal) (x : Holding) : Type 0 where
  pub tenure : HasCome log x
  pub row : HasRow log x

-- ---- What the tenure and its row allow

-- A mark at `q` lies from the least number to what was given, before SHARD_END; at End, the end must be given.
abbrev pub MayMark : (x : Holding) (target : Target) → Type 0
MayMark x (target.At q) = (is_end x.checkpoint ≡ false) × (nat_le x.done q ≡ false)
    × (nat_lt q (least x.checkpoint x.floor) ≡ false)
MayMark x target.End = x.ended ≡ true

-- The row isn't at SHARD_END, and neither its counter nor the number of tenures is the last number.
abbrev pub MayTake : (log : Journal) (r : Row) → Type 0
MayTake log r = (is_end r.checkpoint ≡ false) × ((r.counter == last_number) ≡ false)
    × ((taken_count log == last_number) ≡ false)

-- Each parent of the key's shard was read to its end, or isn't listed at the clock `c`.
abbrev pub ArePast : (log : Journal) (c : ℕ) (key : ShardRef) → Type 0
ArePast log c key = (next : Decision) → past_parents log c key.stream (shard_at log key.stream key.shard) next ≡ next

-- ---- The lines that the tenure's commands leave

-- The line by which the actor `actor` takes the row for the worker `owner`, which begins the next tenure.
abbrev pub taken_line : (log : Journal) (c actor : ℕ) (key : ShardRef) (r : Row) (owner : ℕ) → Line
taken_line log c actor key r owner = plain_line c actor (entry.Taken key (taken_count log + 1) (r.counter + 1) owner)

-- The line by which the actor `actor` opens the shard of the tenure that a take right after `log` began.
abbrev pub opened_line : (log : Journal) (c actor : ℕ) → Line
opened_line log c actor = plain_line c actor (entry.Opened (taken_count log + 1))

-- The line of the read `r` of at most `limit` records.
abbrev pub read_line : (c : ℕ) (x : Holding) (limit : ℕ) (r : ReadDone) → Line
read_line c x limit r = plain_line c x.by (entry.Read x.tenure limit r.ended r.numbers)

-- The line by which the tenure gives its first read that waits.
abbrev pub given_line : (c : ℕ) (x : Holding) → Line
given_line c x = plain_line c x.by (entry.Given x.tenure)

-- The line by which the tenure marks its row at the target `goal`, raising the counter by one.
abbrev pub marked_line : (c : ℕ) (x : Holding) (goal : Target) → Line
marked_line c x goal = plain_line c x.by (entry.Marked x.tenure (x.counter + 1) goal)

-- The decision on a Read at the tenure's position: accepted, with the batch of at most `limit` records there.
abbrev pub read_here : (log : Journal) (c : ℕ) (x : Holding) (limit : ℕ) → Decision
read_here log c x limit =
    read_reply log c x.by x.tenure limit x.key (batch log c x.key.stream x.key.shard x.position limit)
    (position_after x.position (numbers_of (batch log c x.key.stream x.key.shard x.position limit)))

-- ---- The answers to the commands

-- The Take is accepted, and begins the next tenure at the row's checkpoint.
abbrev pub IsTakenSo : (log : Journal) (c actor owner : ℕ) (key : ShardRef) (r : Row) → Type 0
IsTakenSo log c actor owner key r =
    take_lease log c actor key r.counter owner
    ≡ Accepted (taken_line log c actor key r owner ∷ [])
    (reply.Taken (taken_count log + 1) (r.counter + 1) r.checkpoint)

-- The key's shard is listed, and each parent was read to its end or isn't listed (`ArePast`).
abbrev pub MayOpen : (log : Journal) (c : ℕ) (key : ShardRef) → Type 0
MayOpen log c key = (is_listed_key log c key ≡ true) × ArePast log c key

-- Right after the take at the clock `d`, the opening of the shard at the clock `c` is accepted.
abbrev pub IsOpenedSo : (log : Journal) (c d actor owner : ℕ) (key : ShardRef) (r : Row) → Type 0
IsOpenedSo log c d actor owner key r =
    open_shard (taken_line log d actor key r owner ∷ log) c actor (taken_count log + 1)
    ≡ Accepted (opened_line log c actor ∷ []) reply.Done

-- A Read at the tenure's position is accepted with the batch there (`read_here`).
abbrev pub IsReadSo : (log : Journal) (c : ℕ) (x : Holding) (limit : ℕ) → Type 0
IsReadSo log c x limit = read log c x.by x.tenure x.position limit ≡ read_here log c x limit

-- The Give of the read `r`, the first that waits, is accepted, and returns the position after it.
abbrev pub IsGivenSo : (log : Journal) (c : ℕ) (x : Holding) (r : ReadDone) → Type 0
IsGivenSo log c x r =
    give log c x.by x.tenure ≡ Accepted (given_line c x ∷ []) (reply.Given (position_after x.done r.numbers))

-- The Mark at the target `goal` is accepted, and raises the row's counter by one.
abbrev pub IsMarkedSo : (log : Journal) (c : ℕ) (x : Holding) (goal : Target) → Type 0
IsMarkedSo log c x goal =
    mark log c x.by x.tenure x.counter goal ≡ Accepted (marked_line c x goal ∷ []) (reply.Counter (x.counter + 1))

-- ---- How far the tenure has come after each command

-- The new tenure after a take right after `log` and the opening, at the row's checkpoint and without reads.
abbrev pub begun_from : (log : Journal) (actor : ℕ) (key : ShardRef) (r : Row) → Holding
begun_from log actor key r =
    record {
      by = actor;
      key = key;
      tenure = taken_count log + 1;
      position = start_position r.checkpoint;
      done = start_position r.checkpoint;
      waiting = [];
      ended = false;
      counter = r.counter + 1;
      checkpoint = r.checkpoint;
      floor = r.floor;
    }

-- The tenure after the read `r`, which is the last that waits to be given.
abbrev pub after_read : (x : Holding) (r : ReadDone) → Holding
after_read x r = record x { position = position_after x.position r.numbers; waiting = x.waiting ++ (r ∷ []) }

-- The tenure after the read `r` was given, with the reads `rest` still to be given.
abbrev pub after_give : (x : Holding) (r : ReadDone) (rest : List ReadDone) → Holding
after_give x r rest = record x { done = position_after x.done r.numbers; waiting = rest; ended = r.ended }

-- The tenure after its row was marked at the target `goal`.
abbrev pub after_mark : (x : Holding) (goal : Target) → Holding
after_mark x goal = record x { counter = x.counter + 1; checkpoint = checkpoint_at goal }
