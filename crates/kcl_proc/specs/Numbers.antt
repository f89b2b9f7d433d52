-- The sequence numbers that a processor of lines keeps, and its checkpoint.
use Rattle.std.specs.Prelude.{ℕ, List, [], ◌∷◌, ◌++◌, map}
use Rattle.kcl_defs.specs.declared.consumer.Ask.{Ask}
use Rattle.kcl_defs.specs.declared.consumer.Ask.TheVariants as ask
use Rattle.kcl_defs.specs.declared.consumer.Call.{Call}
use Rattle.kcl_defs.specs.declared.consumer.Call.TheVariants as call
use Rattle.kds_defs.specs.declared.reply.Stored.{Stored}

-- The sequence numbers of the batch, in order.
abbrev pub numbers_of : (batch : List Stored) → List ℕ
numbers_of batch = map (λ r. r.seq) batch

-- The sequence numbers of all batches, oldest first; the calls are newest first.
abbrev pub numbers_in : (calls : List Call) → List ℕ
numbers_in [] = []
numbers_in (call.Process batch ∷ calls) = numbers_in calls ++ numbers_of batch
numbers_in (_ ∷ calls) = numbers_in calls

-- The request for a checkpoint at the batch's first record, or for none if it is empty.
abbrev pub first_ask : (batch : List Stored) → Ask
first_ask [] = ask.None
first_ask (r ∷ batch) = ask.At r.seq
