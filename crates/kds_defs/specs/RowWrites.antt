-- Conditional writes of a row, and what refuses each, in order (Kinesis Client Library, lease table).
use Rattle.std.specs.Prelude.{ℕ, Bool, ◌==◌, not, nat_le, nat_lt, if◌then◌else◌, Option, Some, None, Result, Err}
use Rattle.kds_base.specs.declared.lease_key.Checkpoint.{Checkpoint}
use Rattle.kds_base.specs.declared.lease_key.Checkpoint.TheVariants.{TrimHorizon, At, ShardEnd}
use Rattle.kds_defs.specs.declared.command.Target.{Target}
use Rattle.kds_defs.specs.declared.command.Target.TheVariants as target
use Rattle.kds_defs.specs.declared.reply.Refusal.{Refusal}
use Rattle.kds_defs.specs.declared.reply.Refusal.TheVariants as refusal
use Rattle.kds_defs.specs.declared.reply.Row.{Row}
use Rattle.kds_defs.specs.Decision.{Decision, refuse◌if◌else◌, with◌or◌then◌}
use Rattle.kds_defs.specs.Leases.{counter_in, tenure_in, checkpoint_in, floor_in, is_end, is_marked_to_end}
use Rattle.kds_defs.specs.StreamCommands.{last_number}

-- How answers are refused: `when` a Boolean is true, or `without` a row.
pub record Refusing (A : Type 0) : Type 0 where
  pub when : Refusal → Bool → A → A
  pub without : Refusal → Option Row → (Row → A) → A

-- `Refusing` for decisions.
abbrev pub decisions : Refusing Decision
decisions = record {
  when = λ refused b next. refuse refused if b else next;
  without = λ refused o next. with o or refused then next;
}

-- The result of `next` for the row, or the error `refused` if there is none.
abbrev pub of_row : {A : Type 0} → (refused : Refusal) (r : Option Row) (next : Row → Result A Refusal) → Result A
    Refusal
of_row refused None next = Err refused
of_row refused (Some r) next = next r

-- `Refusing` for the results of a lease table: refusals are errors.
abbrev pub results : {A : Type 0} → Refusing (Result A Refusal)
results = record { when = λ refused b next. if b then Err refused else next; without = of_row }

-- The answer of `next` for the row, which must exist and have this counter.
abbrev pub past_counter : {A : Type 0} → (refusing : Refusing A) (o : Option Row) (counter : ℕ) (next : Row → A) → A
past_counter refusing o counter next =
    refusing.without refusal.NoLease o (λ r.
    refusing.when (refusal.Moved r.counter) (not (r.counter == counter)) (
    next r))

-- The answer to a take; `spent` says that a number which the take needs is used up.
abbrev pub past_take : {A : Type 0}
    → (refusing : Refusing A) (o : Option Row) (counter : ℕ) (spent : Row → Bool) (next : Row → A) → A
past_take refusing o counter spent next =
    past_counter refusing o counter (λ r.
    refusing.when refusal.Ended (is_end r.checkpoint) (
    refusing.when refusal.Spent (spent r) (
    next r)))

-- The answer `next`, unless another tenure or none holds the row.
abbrev pub past_tenure : {A : Type 0} → (refusing : Refusing A) (o : Option Row) (t : ℕ) (next : A) → A
past_tenure refusing o t next = refusing.when (refusal.Lost (tenure_in o)) (not (tenure_in o == t)) next

-- The answer `next`, unless tenure `t` doesn't hold the row or the counter differs.
abbrev pub past_held : {A : Type 0} → (refusing : Refusing A) (o : Option Row) (t counter : ℕ) (next : A) → A
past_held refusing o t counter next =
    past_tenure refusing o t (
    refusing.when (refusal.Moved (counter_in o)) (not (counter_in o == counter)) (
    next))

-- The answer `next`, unless the row's counter can't rise.
abbrev pub past_last : {A : Type 0} → (refusing : Refusing A) (o : Option Row) (next : A) → A
past_last refusing o next = refusing.when refusal.Spent (counter_in o == last_number) next

-- The answer to a renewal or a freeing by tenure `t`; the row's counter must be able to rise.
abbrev pub past_renewal : {A : Type 0} → (refusing : Refusing A) (o : Option Row) (t counter : ℕ) (next : A) → A
past_renewal refusing o t counter next = past_held refusing o t counter (past_last refusing o next)

-- The least sequence number for a mark: the present checkpoint if it is a number, otherwise the floor.
abbrev pub least : (checkpoint : Checkpoint) (floor : ℕ) → ℕ
least TrimHorizon floor = floor
least (At q) floor = q
least ShardEnd floor = floor

-- The answer `next` if the mark is allowed: a number from `least` to below `delivered`, or the end after `at_end`.
abbrev pub past_checkpoint : {A : Type 0} → (refusing : Refusing A) (o : Option Row) (target : Target) (delivered : ℕ)
    (at_end : Bool) (next : A) → A
past_checkpoint refusing o (target.At q) delivered at_end next =
    refusing.when refusal.Ended (is_marked_to_end o) (
    refusing.when (refusal.Beyond delivered) (nat_le delivered q) (
    refusing.when (refusal.Below (least (checkpoint_in o) (floor_in o)))
    (nat_lt q (least (checkpoint_in o) (floor_in o))) (
    next)))
past_checkpoint refusing o target.End delivered at_end next = refusing.when refusal.NotAtEnd (not at_end) next

-- The answer to a mark by tenure `t`; the row's counter must be able to rise, and the target be allowed.
abbrev pub past_mark : {A : Type 0}
    → (refusing : Refusing A) (o : Option Row) (t counter : ℕ) (goal : Target) (delivered : ℕ)
    (at_end : Bool) (next : A) → A
past_mark refusing o t counter goal delivered at_end next =
    past_held refusing o t counter (past_checkpoint refusing o goal delivered at_end (past_last refusing o next))

-- The answer to a removal: the row must exist with this counter, and its shard not be listed.
abbrev pub past_cut : {A : Type 0} → (refusing : Refusing A) (o : Option Row) (counter : ℕ) (listed : Bool) (next : A)
    → A
past_cut refusing o counter listed next =
    past_counter refusing o counter (λ r. refusing.when refusal.ShardListed listed next)
