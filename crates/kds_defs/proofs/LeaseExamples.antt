-- Worked examples of leases: the answers to a list of turns after an empty history.
use Rattle.std.specs.Prelude.{ℕ, ◌≡◌, true, false, List, [], ◌∷◌, ◌++◌, Some, None, Ok, Err, Result}
use Rattle.std.proofs.Common.{refl}
use Rattle.kds_base.specs.declared.lease_key.ShardRef.{ShardRef}
use Rattle.kds_base.specs.declared.lease_key.Checkpoint.TheVariants as checkpoint
use Rattle.kds_defs.specs.declared.command.Command.{Command}
use Rattle.kds_defs.specs.declared.command.Command.TheVariants as command
use Rattle.kds_defs.specs.declared.command.Origin.TheVariants as origin
use Rattle.kds_defs.specs.declared.command.Target.TheVariants as target
use Rattle.kds_defs.specs.declared.command.NewItem.{NewItem}
use Rattle.kds_defs.specs.declared.command.Turn.{Turn}
use Rattle.kds_defs.specs.declared.reply.Refusal.{Refusal}
use Rattle.kds_defs.specs.declared.reply.Refusal.TheVariants as refusal
use Rattle.kds_defs.specs.declared.reply.Reply.{Reply}
use Rattle.kds_defs.specs.declared.reply.Reply.TheVariants as reply
use Rattle.kds_defs.specs.declared.reply.Stored.{Stored}
use Rattle.kds_defs.specs.Decision.{refuse◌if◌else◌, with◌or◌then◌}
use Rattle.kds_defs.specs.Histories.{answers}

turn : ℕ → ℕ → Command → Turn
turn actor moment asked = record { by = actor; at = moment; what = asked }

name : List ℕ
name = 115 ∷ []

item : NewItem
item = record { key = 97 ∷ []; hash = 0x0cc175b9c0f1b6a831c399e269772661; payload = 104 ∷ 105 ∷ [] }

-- The example's record as a read returns it.
kept : ℕ → ℕ → Stored
kept seq arrival = record { seq = seq; arrival = arrival; key = 97 ∷ []; payload = 104 ∷ 105 ∷ [] }

key : ℕ → ShardRef
key shard = record { stream = 1; shard = shard }

begun : List Turn
begun =
    turn 0 3000 (command.Create name 1)
    ∷ turn 0 3000 (command.Put name item)
    ∷ turn 0 3000 (command.Put name item)
    ∷ turn 1 3000 (command.MakeLease (key 0) origin.TrimHorizon) ∷ []

begun_so : List (Result Reply Refusal)
begun_so =
    Ok reply.Done
    ∷ Ok (reply.Put (record { shard = 0; seq = 1 }))
    ∷ Ok (reply.Put (record { shard = 0; seq = 2 }))
    ∷ Ok (reply.Leased origin.TrimHorizon) ∷ []

robbed : List Turn
robbed =
    turn 1 3000 (command.Take (key 0) 0 1)
    ∷ turn 2 3000 (command.Take (key 0) 0 2)
    ∷ turn 1 3000 (command.OpenShard 1)
    ∷ turn 1 3000 (command.Read 1 0 10)
    ∷ turn 2 3000 (command.Take (key 0) 1 2)
    ∷ turn 1 3000 (command.Give 1)
    ∷ turn 1 3000 (command.Mark 1 1 (target.At 2))
    ∷ turn 2 3000 (command.Mark 1 2 (target.At 2)) ∷ []

robbed_so : List (Result Reply Refusal)
robbed_so =
    Ok (reply.Taken 1 1 checkpoint.TrimHorizon)
    ∷ Err (refusal.Moved 1)
    ∷ Ok reply.Done
    ∷ Ok (reply.Read (kept 1 3000 ∷ kept 2 3000 ∷ []) 3 false)
    ∷ Ok (reply.Taken 2 2 checkpoint.TrimHorizon)
    ∷ Ok (reply.Given 3)
    ∷ Err (refusal.Lost 2)
    ∷ Err refusal.NotYours ∷ []

robbed_lease : answers [] (begun ++ robbed) ≡ begun_so ++ robbed_so
unfolding refuse◌if◌else◌ with◌or◌then◌ turn name item kept key begun begun_so robbed robbed_so
robbed_lease = refl

order_of_marks : answers [] (
    begun ++ robbed
    ++ turn 2 3000 (command.OpenShard 2)
    ∷ turn 2 3000 (command.Read 2 1 10)
    ∷ turn 2 3000 (command.Read 2 0 10)
    ∷ turn 2 3000 (command.Mark 2 2 (target.At 2))
    ∷ turn 2 3000 (command.Give 2)
    ∷ turn 2 3000 (command.Give 2)
    ∷ turn 2 3000 (command.Mark 2 2 (target.At 2))
    ∷ turn 2 3000 (command.Mark 2 3 (target.At 1))
    ∷ turn 2 3000 (command.Mark 2 3 (target.At 2))
    ∷ turn 2 3000 (command.Mark 2 4 target.End)
    ∷ turn 2 3000 command.Survey
    ∷ turn 2 3000 (command.Free 2 4)
    ∷ turn 2 3000 (command.Renew 2 5) ∷ [])
    ≡ begun_so ++ robbed_so
    ++ Ok reply.Done
    ∷ Err (refusal.OutOfPlace 0)
    ∷ Ok (reply.Read (kept 1 3000 ∷ kept 2 3000 ∷ []) 3 false)
    ∷ Err (refusal.Beyond 0)
    ∷ Ok (reply.Given 3)
    ∷ Err refusal.NothingPending
    ∷ Ok (reply.Counter 3)
    ∷ Err (refusal.Below 2)
    ∷ Ok (reply.Counter 4)
    ∷ Err refusal.NotAtEnd
    ∷ Ok (reply.Survey (key 0 ∷ []) (
    record {
      key = key 0;
      owner = Some 2;
      counter = 4;
      checkpoint = checkpoint.At 2;
      switches = 0;
      tenure = 2;
      floor = 1;
      parent = None;
      adjacent = None;
    } ∷ []))
    ∷ Ok (reply.Counter 5)
    ∷ Err (refusal.Lost 0) ∷ []
unfolding refuse◌if◌else◌ with◌or◌then◌ turn name item kept key begun begun_so robbed robbed_so
order_of_marks = refl

two_parents : answers [] (
    turn 0 4000 (command.Create name 2)
    ∷ turn 0 4000 (command.Merge name 0 1)
    ∷ turn 3 4000 (command.MakeLease (key 0) origin.TrimHorizon)
    ∷ turn 3 4000 (command.MakeLease (key 1) origin.TrimHorizon)
    ∷ turn 3 4000 (command.MakeLease (key 2) origin.TrimHorizon)
    ∷ turn 3 4000 (command.Take (key 2) 0 3)
    ∷ turn 3 4000 (command.OpenShard 1)
    ∷ turn 1 4000 (command.Take (key 0) 0 1)
    ∷ turn 1 4000 (command.OpenShard 2)
    ∷ turn 1 4000 (command.Read 2 0 10)
    ∷ turn 1 4000 (command.Give 2)
    ∷ turn 1 4000 (command.Mark 2 1 target.End)
    ∷ turn 3 4000 (command.OpenShard 1)
    ∷ turn 1 4000 (command.Take (key 1) 0 1)
    ∷ turn 1 4000 (command.OpenShard 3)
    ∷ turn 1 4000 (command.Read 3 0 10)
    ∷ turn 1 4000 (command.Give 3)
    ∷ turn 1 4000 (command.Mark 3 1 target.End)
    ∷ turn 3 4000 (command.OpenShard 1) ∷ [])
    ≡ (Ok reply.Done ∷ Ok reply.Done ∷ Ok (reply.Leased origin.TrimHorizon) ∷ Ok (reply.Leased origin.TrimHorizon)
    ∷ Ok (reply.Leased origin.TrimHorizon)
    ∷ Ok (reply.Taken 1 1 checkpoint.TrimHorizon)
    ∷ Err (refusal.ParentsOpen (key 0))
    ∷ Ok (reply.Taken 2 1 checkpoint.TrimHorizon)
    ∷ Ok reply.Done
    ∷ Ok (reply.Read [] 0 true)
    ∷ Ok (reply.Given 0)
    ∷ Ok (reply.Counter 2)
    ∷ Err (refusal.ParentsOpen (key 1))
    ∷ Ok (reply.Taken 3 1 checkpoint.TrimHorizon)
    ∷ Ok reply.Done
    ∷ Ok (reply.Read [] 0 true)
    ∷ Ok (reply.Given 0)
    ∷ Ok (reply.Counter 2)
    ∷ Ok reply.Done ∷ [])
unfolding refuse◌if◌else◌ with◌or◌then◌ turn name key
two_parents = refl

expired_parent : answers [] (
    turn 0 4000 (command.Create name 2)
    ∷ turn 0 4000 (command.Merge name 0 1)
    ∷ turn 3 4000 (command.MakeLease (key 1) origin.TrimHorizon)
    ∷ turn 3 4000 (command.MakeLease (key 2) origin.TrimHorizon)
    ∷ turn 3 4000 (command.CutLease (key 1) 0)
    ∷ turn 3 4000 (command.Take (key 2) 0 3)
    ∷ turn 3 4000 (command.OpenShard 1)
    ∷ turn 3 86404000 (command.OpenShard 1)
    ∷ turn 3 86404000 (command.CutLease (key 1) 0) ∷ [])
    ≡ (Ok reply.Done ∷ Ok reply.Done ∷ Ok (reply.Leased origin.TrimHorizon) ∷ Ok (reply.Leased origin.TrimHorizon)
    ∷ Err refusal.ShardListed
    ∷ Ok (reply.Taken 1 1 checkpoint.TrimHorizon)
    ∷ Err (refusal.ParentsOpen (key 0))
    ∷ Ok reply.Done
    ∷ Ok reply.Done ∷ [])
unfolding refuse◌if◌else◌ with◌or◌then◌ turn name key
expired_parent = refl

read_trim_give : answers [] (
    turn 0 1000 (command.Create name 1)
    ∷ turn 0 1000 (command.Put name item)
    ∷ turn 1 1000 (command.MakeLease (key 0) origin.TrimHorizon)
    ∷ turn 1 1000 (command.Take (key 0) 0 1)
    ∷ turn 1 1000 (command.OpenShard 1)
    ∷ turn 1 1000 (command.Read 1 0 10)
    ∷ turn 1 86401000 (command.Give 1)
    ∷ turn 1 86401000 (command.Mark 1 1 (target.At 1)) ∷ [])
    ≡ (Ok reply.Done ∷ Ok (reply.Put (record { shard = 0; seq = 1 })) ∷ Ok (reply.Leased origin.TrimHorizon)
    ∷ Ok (reply.Taken 1 1 checkpoint.TrimHorizon)
    ∷ Ok reply.Done
    ∷ Ok (reply.Read (kept 1 1000 ∷ []) 2 false)
    ∷ Ok (reply.Given 2)
    ∷ Ok (reply.Counter 2) ∷ [])
unfolding refuse◌if◌else◌ with◌or◌then◌ turn name item kept key
read_trim_give = refl
