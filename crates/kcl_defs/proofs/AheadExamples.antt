-- Examples of a consumer that reads several batches before it hands out the first one.
use Rattle.std.specs.Prelude.{ℕ, suc, zero, ◌≡◌, false, true, List, [], ◌∷◌, Ok}
use Rattle.std.proofs.Common.{refl}
use Rattle.kds_base.specs.declared.lease_key.Checkpoint.TheVariants.{TrimHorizon}
use Rattle.kcl_defs.specs.declared.consumer.Ask.TheVariants as ask
use Rattle.kcl_defs.specs.declared.consumer.Fetched.{Fetched}
use Rattle.kcl_defs.specs.declared.consumer.Tenancy.{Tenancy}
use Rattle.kds_defs.specs.declared.reply.Reply.TheVariants as reply
use Rattle.kds_defs.specs.declared.reply.Stored.{Stored}
use Rattle.kcl_defs.specs.Consumers.{Answered, Called, Ending, Event, Filling, Holding, Past, stage_after}

-- The consumer of the examples reads at most two records at a time.
abbrev made : Tenancy
made = record { key = record { stream = 1; shard = 0 }; tenure = 1; start = TrimHorizon; limit = 2 }

-- The trace after the shard was opened and the processor initialized.
abbrev started : Past
started = Called ask.None ∷ Answered (Ok reply.Done) ∷ []

-- As many records as a read may return.
abbrev full : Stored → List Stored
full r = r ∷ r ∷ []

-- A read that didn't end the shard.
abbrev waits : List Stored → Fetched
waits batch = record { batch = batch; ended = false }

-- The answer to a Read that didn't end the shard, with the position after its batch.
abbrev read : List Stored → ℕ → Event
read batch position = Answered (Ok (reply.Read batch position false))

reading_on : (r : Stored) → stage_after made (read (full r) 5 ∷ read (full r) 3 ∷ started)
    ≡ Filling 5 (waits (full r) ∷ waits (full r) ∷ [])
reading_on r = refl

-- The trace after two full batches and one with only one record.
abbrev all_read : Stored → Past
all_read r = read (r ∷ []) 6 ∷ read (full r) 5 ∷ read (full r) 3 ∷ started

read_enough : (r : Stored)
    → stage_after made (all_read r) ≡ Holding 6 (waits (full r) ∷ waits (full r) ∷ waits (r ∷ []) ∷ [])
read_enough r = refl

given_once : (r : Stored) → stage_after made (Answered (Ok reply.Done) ∷ Called ask.None ∷ all_read r)
    ≡ Holding 6 (waits (full r) ∷ waits (r ∷ []) ∷ [])
given_once r = refl

all_given : (r : Stored)
    → stage_after made (Answered (Ok reply.Done) ∷ Called ask.None ∷ Answered (Ok reply.Done) ∷ Called ask.None
    ∷ Answered (Ok reply.Done) ∷ Called ask.None ∷ all_read r) ≡ Filling 6 []
all_given r = refl

end_read : (r : Stored) → stage_after made (Answered (Ok (reply.Read (full r) 3 true)) ∷ started)
    ≡ Holding 3 (record { batch = full r; ended = true } ∷ [])
end_read r = refl

end_given : (r : Stored)
    → stage_after made (Answered (Ok reply.Done) ∷ Called ask.None ∷ Answered (Ok (reply.Read (full r) 3 true))
    ∷ started) ≡ Ending
end_given r = refl

-- The trace after a number of reads of full batches.
abbrev reads : ℕ → Stored → Past
reads zero r = started
reads (suc n) r = read (full r) 7 ∷ reads n r

-- A number of full batches that wait.
abbrev wait : ℕ → Stored → List Fetched
wait zero r = []
wait (suc n) r = waits (full r) ∷ wait n r

seven_wait : (r : Stored) → stage_after made (reads 7 r) ≡ Filling 7 (wait 7 r)
seven_wait r = refl

eight_wait : (r : Stored) → stage_after made (reads 8 r) ≡ Holding 7 (wait 8 r)
eight_wait r = refl
