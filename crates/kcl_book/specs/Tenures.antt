-- The book of tenures, which are numbered from 1 (Kinesis Client Library, lease ownership).
use Rattle.std.specs.Prelude.{ℕ, zero, suc, ◌≡◌, ◌-◌, Bool, false, List, [], ◌∷◌, ◌++◌, length, slice_get, slice_set}
use Rattle.std.specs.Prelude.{Option, None, IfSome}
use Rattle.kds_base.specs.declared.lease_key.Checkpoint.{Checkpoint}
use Rattle.kds_base.specs.declared.lease_key.ShardRef.{ShardRef}
use Rattle.kds_defs.specs.Leases.{start_position}
use Rattle.kds_defs.specs.Listings.{are_none}
use Rattle.kcl_book.specs.declared.tenure.PendingRead.{PendingRead}
use Rattle.kcl_book.specs.declared.tenure.Tenure.{Tenure}

-- A tenure: read up to `reach` and given up to `delivered`, with the reads not given, oldest first.
pub record TenureValue : Type 0 where
  pub by : ℕ
  pub key : ShardRef
  pub start : Checkpoint
  pub opened : Bool
  pub reach : ℕ
  pub delivered : ℕ
  pub pending : List PendingRead
  pub at_end : Bool

-- The tenures in the order of their numbers; `spare` is the memory for further ones.
pub record BookValue : Type 0 where
  pub tenures : List TenureValue
  pub spare : ℕ

-- A new tenure, not opened, with nothing read or given.
abbrev pub begun : (actor : ℕ) (key : ShardRef) (start : Checkpoint) → TenureValue
begun actor key start =
    record {
      by = actor;
      key = key;
      start = start;
      opened = false;
      reach = start_position start;
      delivered = start_position start;
      pending = [];
      at_end = false;
    }

-- The tenure with the number `n`, if any; numbers begin at 1.
abbrev pub tenure_at : (ts : List TenureValue) (n : ℕ) → Option TenureValue
tenure_at ts zero = None
tenure_at ts (suc n) = slice_get ts n

-- The book with `t` as the tenure with this number.
abbrev pub with_tenure : (number : ℕ) (t : TenureValue) (book : BookValue) → BookValue
with_tenure number t book = record book { tenures = slice_set book.tenures (number - 1) t }

-- The tenure as callers see it, with only the number of reads not given.
abbrev pub shown : (t : TenureValue) → Tenure
shown t =
    record {
      by = t.by;
      key = t.key;
      start = t.start;
      opened = t.opened;
      reach = t.reach;
      delivered = t.delivered;
      pending = length t.pending;
      at_end = t.at_end;
    }

-- The tenure after a read up to `reach`; `ended` says whether it ended the shard.
abbrev pub with_read : (reach : ℕ) (ended : Bool) (t : TenureValue) → TenureValue
with_read reach ended t = record t { reach = reach; pending = t.pending ++ record { reach = reach; end = ended } ∷ [] }

-- The tenure after the first of the reads `rs`, which aren't given, was given; unchanged without one.
abbrev pub given_of : (rs : List PendingRead) (t : TenureValue) → TenureValue
given_of [] t = t
given_of (r ∷ rs) t = record t { delivered = r.reach; pending = rs; at_end = r.end }

-- The tenure after its oldest read not given was given.
abbrev pub with_given : (t : TenureValue) → TenureValue
with_given t = given_of t.pending t

-- If the tenure exists, it has a read not given, and the oldest such read is given, up to `delivered`.
abbrev pub HasGiven : (number delivered : ℕ) (old new : BookValue) → Type 0
HasGiven number delivered old new =
    IfSome (tenure_at old.tenures number) (λ t. (are_none t.pending ≡ false)
    × (delivered ≡ (with_given t).delivered) × (new ≡ with_tenure number (with_given t) old))
