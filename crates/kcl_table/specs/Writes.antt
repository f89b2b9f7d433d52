-- The answers to conditional writes of a row `o` (None if missing): its new counter, or a refusal.
use Rattle.std.specs.Prelude.{ℕ, ◌+◌, Bool, ◌==◌, if◌then◌else◌, Option, Result, Ok, Err}
use Rattle.kds_defs.specs.declared.command.Target.{Target}
use Rattle.kds_defs.specs.declared.reply.Refusal.{Refusal}
use Rattle.kds_defs.specs.declared.reply.Refusal.TheVariants as refusal
use Rattle.kds_defs.specs.declared.reply.Row.{Row}
use Rattle.kds_defs.specs.Leases.{counter_in, freed_row, renewed_row}
use Rattle.kds_defs.specs.RowWrites.{results, past_checkpoint, past_cut, past_held, past_mark, past_renewal, past_take}
use Rattle.kds_defs.specs.StreamCommands.{last_number}
use Rattle.kcl_table.specs.declared.writes.Change.{Change}
use Rattle.kcl_table.specs.declared.writes.Change.TheVariants as change

-- The counter after a write, or `Spent` at the greatest counter.
abbrev pub next_counter : (counter : ℕ) → Result ℕ Refusal
next_counter counter = if counter == last_number then Err refusal.Spent else Ok (counter + 1)

-- A take's answer: refused for no row, another counter, a checkpoint at the shard's end, or a spent counter.
abbrev pub take_answer : (o : Option Row) (counter : ℕ) → Result ℕ Refusal
take_answer o counter = past_take results o counter (λ r. r.counter == last_number) (λ r. Ok (r.counter + 1))

-- `next`, or a refusal if the tenure doesn't hold the row or the counter differs.
abbrev pub held_answer : (o : Option Row) (tenure counter : ℕ) (next : Result ℕ Refusal) → Result ℕ Refusal
held_answer o tenure counter next = past_held results o tenure counter next

-- A renewal's or freeing's answer: refused if not held, or for another or spent counter.
abbrev pub write_answer : (o : Option Row) (tenure counter : ℕ) → Result ℕ Refusal
write_answer o tenure counter = past_renewal results o tenure counter (Ok (counter_in o + 1))

-- The row after a renewal or a freeing.
abbrev pub written_row : (change : Change) (row : Row) → Row
written_row change.Renewed = renewed_row
written_row change.Freed = freed_row

-- A mark's answer after the checks of tenure and counter: refused for a wrong target or spent counter.
-- `delivered` is one past the last given record; `at_end`: the last given read ended the shard.
abbrev pub target_answer : (o : Option Row) (target : Target) (delivered : ℕ) (at_end : Bool) → Result ℕ Refusal
target_answer o target delivered at_end =
    past_checkpoint results o target delivered at_end (next_counter (counter_in o))

-- A mark's answer: refused if not held, for another counter, a wrong target, or a spent counter.
abbrev pub mark_answer : (o : Option Row) (tenure counter : ℕ) (target : Target) (delivered : ℕ) (at_end : Bool)
    → Result
    ℕ Refusal
mark_answer o tenure counter target delivered at_end =
    past_mark results o tenure counter target delivered at_end (Ok (counter_in o + 1))

-- A removal's answer: refused for no row, another counter, or a shard that is still listed.
abbrev pub cut_answer : (o : Option Row) (counter : ℕ) (listed : Bool) → Result (Unit {0}) Refusal
cut_answer o counter listed = past_cut results o counter listed (Ok tt)
