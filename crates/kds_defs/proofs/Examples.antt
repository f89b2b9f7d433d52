-- Worked examples, mostly the answers to a list of turns after an empty history.
use Rattle.std.specs.Prelude.{ℕ, ◌≡◌, true, false, List, [], ◌∷◌, Some, None, Ok, Err}
use Rattle.std.proofs.Common.{refl}
use Rattle.kds_defs.specs.declared.command.Command.{Command}
use Rattle.kds_defs.specs.declared.command.Command.TheVariants as command
use Rattle.kds_defs.specs.declared.command.NewItem.{NewItem}
use Rattle.kds_defs.specs.declared.command.Origin.TheVariants as origin
use Rattle.kds_defs.specs.declared.command.Start.TheVariants as start
use Rattle.kds_defs.specs.declared.command.Target.TheVariants as target
use Rattle.kds_defs.specs.declared.command.Turn.{Turn}
use Rattle.kds_base.specs.declared.lease_key.Checkpoint.TheVariants as checkpoint
use Rattle.kds_base.specs.declared.lease_key.ShardRef.{ShardRef}
use Rattle.kds_defs.specs.declared.reply.Outcome.TheVariants as outcome
use Rattle.kds_defs.specs.declared.reply.Refusal.TheVariants as refusal
use Rattle.kds_defs.specs.declared.reply.Reply.TheVariants as reply
use Rattle.kds_defs.specs.declared.reply.Stored.{Stored}
use Rattle.kds_defs.specs.Decision.{refuse◌if◌else◌, with◌or◌then◌}
use Rattle.kds_defs.specs.Histories.{answers}

turn : ℕ → Command → Turn
turn moment asked = record { by = 0; at = moment; what = asked }

name : List ℕ
name = 115 ∷ []

other : List ℕ
other = 116 ∷ []

item : NewItem
item = record { key = 97 ∷ []; hash = 0x0cc175b9c0f1b6a831c399e269772661; payload = 104 ∷ 105 ∷ [] }

first_path : answers [] (
    turn 1000 (command.Create name 1)
    ∷ turn 1000 (command.Put name item)
    ∷ turn 1000 (command.Create name 1)
    ∷ turn 1000 (command.Put other item)
    ∷ turn 900 (command.Create other 1)
    ∷ turn 900 (command.Put name item)
    ∷ turn 900 (command.Put other item) ∷ [])
    ≡ (Ok reply.Done
    ∷ Ok (reply.Put (record { shard = 0; seq = 1 }))
    ∷ Err refusal.StreamThere
    ∷ Err refusal.NoStream
    ∷ Ok reply.Done
    ∷ Ok (reply.Put (record { shard = 0; seq = 2 }))
    ∷ Ok (reply.Put (record { shard = 0; seq = 1 })) ∷ [])
unfolding refuse◌if◌else◌ with◌or◌then◌ turn name other item
first_path = refl

-- The example's record as a read returns it.
kept : ℕ → ℕ → Stored
kept seq arrival = record { seq = seq; arrival = arrival; key = 97 ∷ []; payload = 104 ∷ 105 ∷ [] }

split : answers [] (
    turn 4000 (command.Create name 1)
    ∷ turn 4000 (command.Split name 0 170141183460469231731687303715884105728)
    ∷ turn 4000 (command.Put name (record { key = 97 ∷ []; hash = 0x900150983cd24fb0d6963f7d28e17f72; payload = [] }))
    ∷ turn 4000 (command.Split name 2 170141183460469231731687303715884105728)
    ∷ turn 4000 (command.Split name 0 170141183460469231731687303715884105728) ∷ [])
    ≡ (Ok reply.Done ∷ Ok reply.Done ∷ Ok (reply.Put (record { shard = 2; seq = 2 }))
    ∷ Err refusal.BadSplit ∷ Err refusal.ShardClosed ∷ [])
unfolding refuse◌if◌else◌ with◌or◌then◌ turn name
split = refl

merge : answers [] (
    turn 4000 (command.Create name 3)
    ∷ turn 4000 (command.Merge name 0 2)
    ∷ turn 4000 (command.Merge name 1 1)
    ∷ turn 4000 (command.Merge name 1 0)
    ∷ turn 4000 (command.Merge name 0 2) ∷ [])
    ≡ (Ok reply.Done ∷ Err refusal.NotAdjacent ∷ Err refusal.NotAdjacent ∷ Ok reply.Done ∷ Err refusal.ShardClosed ∷ [])
unfolding refuse◌if◌else◌ with◌or◌then◌ turn name
merge = refl

retention : answers [] (
    turn 1000 (command.Create name 1)
    ∷ turn 1000 (command.Put name item)
    ∷ turn 86400999 (command.Records (record { stream = 1; shard = 0; position = 0; issued = 86400999 }) 10)
    ∷ turn 86401000 (command.Records (record { stream = 1; shard = 0; position = 0; issued = 86400999 }) 10)
    ∷ turn 1000 (command.Records (record { stream = 1; shard = 0; position = 0; issued = 86400999 }) 10) ∷ [])
    ≡ (Ok reply.Done ∷ Ok (reply.Put (record { shard = 0; seq = 1 }))
    ∷ Ok (reply.Records (kept 1 1000 ∷ []) (Some (record { stream = 1; shard = 0; position = 2; issued = 86400999 }))
    0 [])
    ∷ Ok (reply.Records [] (Some (record { stream = 1; shard = 0; position = 0; issued = 86401000 })) 0 [])
    ∷ Ok (reply.Records [] (Some (record { stream = 1; shard = 0; position = 0; issued = 86401000 })) 0 []) ∷ [])
unfolding refuse◌if◌else◌ with◌or◌then◌ turn name item kept
retention = refl

ended : answers [] (
    turn 4000 (command.Create name 1)
    ∷ turn 4000 (command.Split name 0 170141183460469231731687303715884105728)
    ∷ turn 4000 (command.Records (record { stream = 1; shard = 0; position = 0; issued = 4000 }) 10)
    ∷ turn 4000 (command.Records (record { stream = 1; shard = 1; position = 0; issued = 4000 }) 10)
    ∷ turn 4000 (command.Shards name None 1)
    ∷ turn 304001 (command.More (record { stream = 1; after = 0; issued = 4000 }) 1) ∷ [])
    ≡ (Ok reply.Done ∷ Ok reply.Done
    ∷ Ok (reply.Records [] None 0 (
    record {
      no = 1;
      range = record { start = 0; end = 170141183460469231731687303715884105727 };
      parent = Some 0;
      adjacent = None;
      start = 2;
      end = None;
    }
    ∷ record {
      no = 2;
      range = record {
        start = 170141183460469231731687303715884105728;
        end = 340282366920938463463374607431768211455;
      };
      parent = Some 0;
      adjacent = None;
      start = 2;
      end = None;
    }
    ∷ []))
    ∷ Ok (reply.Records [] (Some (record { stream = 1; shard = 1; position = 0; issued = 4000 })) 0 [])
    ∷ Ok (reply.Shards (record {
      no = 0;
      range = record { start = 0; end = 340282366920938463463374607431768211455 };
      parent = None;
      adjacent = None;
      start = 1;
      end = Some 1;
    } ∷ [])
    (Some (record { stream = 1; after = 0; issued = 4000 })))
    ∷ Err refusal.PageExpired ∷ [])
unfolding refuse◌if◌else◌ with◌or◌then◌ turn name
ended = refl

starts : answers [] (
    turn 1000 (command.Create name 1)
    ∷ turn 1000 (command.Put name item)
    ∷ turn 1001 (command.Put name item)
    ∷ turn 2000 (command.GetIterator name 0 start.TrimHorizon)
    ∷ turn 2000 (command.GetIterator name 0 start.Latest)
    ∷ turn 2000 (command.GetIterator name 0 (start.At 3))
    ∷ turn 2000 (command.GetIterator name 0 (start.At 4))
    ∷ turn 2000 (command.GetIterator name 0 (start.After 2))
    ∷ turn 2000 (command.GetIterator name 0 (start.After 3))
    ∷ turn 2000 (command.Records (record { stream = 1; shard = 0; position = 0; issued = 2000 }) 1) ∷ [])
    ≡ (Ok reply.Done ∷ Ok (reply.Put (record { shard = 0; seq = 1 })) ∷ Ok (reply.Put (record { shard = 0; seq = 2 }))
    ∷ Ok (reply.Iterator (record { stream = 1; shard = 0; position = 0; issued = 2000 }))
    ∷ Ok (reply.Iterator (record { stream = 1; shard = 0; position = 3; issued = 2000 }))
    ∷ Ok (reply.Iterator (record { stream = 1; shard = 0; position = 3; issued = 2000 }))
    ∷ Err refusal.BadNumber
    ∷ Ok (reply.Iterator (record { stream = 1; shard = 0; position = 3; issued = 2000 }))
    ∷ Err refusal.BadNumber
    ∷ Ok (reply.Records (kept 1 1000 ∷ []) (Some (record { stream = 1; shard = 0; position = 2; issued = 2000 }))
    999 []) ∷ [])
unfolding refuse◌if◌else◌ with◌or◌then◌ turn name item kept
starts = refl

service : answers [] (
    turn 1000 (command.Create name 2)
    ∷ turn 1000 (command.Create other 1)
    ∷ turn 1000 (command.PutMany name (item ∷ record {
      key = 98 ∷ [];
      hash = 0x92eb5ffee6ae2fec3ad71c777531578f;
      payload = [];
    } ∷ []))
    ∷ turn 1000 (command.Streams None 1)
    ∷ turn 1000 (command.Streams (Some name) 1)
    ∷ turn 1000 (command.Summary name)
    ∷ turn 1000 (command.Delete name)
    ∷ turn 1000 (command.Summary name)
    ∷ turn 1000 (command.Streams None 1)
    ∷ turn 2000 (command.Create name 1)
    ∷ turn 2000 (command.GetIterator name 0 start.Latest)
    ∷ turn 2000 (command.Records (record { stream = 1; shard = 0; position = 0; issued = 2000 }) 1) ∷ [])
    ≡ (Ok reply.Done ∷ Ok reply.Done
    ∷ Ok (reply.PutMany (outcome.Stored (record { shard = 0; seq = 1 }) ∷ outcome.Stored (record { shard = 1; seq = 2 })
    ∷ []))
    ∷ Ok (reply.Streams (name ∷ []) true)
    ∷ Ok (reply.Streams (other ∷ []) false)
    ∷ Ok (reply.Summary (record { name = name; made = 1000; hours = 24 }) 2)
    ∷ Ok reply.Done
    ∷ Err refusal.NoStream
    ∷ Ok (reply.Streams (other ∷ []) false)
    ∷ Ok reply.Done
    ∷ Ok (reply.Iterator (record { stream = 3; shard = 0; position = 1; issued = 2000 }))
    ∷ Err refusal.NoStream ∷ [])
unfolding refuse◌if◌else◌ with◌or◌then◌ turn name other item
service = refl

kept_hours : answers [] (
    turn 1000 (command.Create name 1)
    ∷ turn 1000 (command.Put name item)
    ∷ turn 2000 (command.Put name item)
    ∷ turn 2000 (command.GetIterator name 0 (start.Time 1001))
    ∷ turn 2000 (command.GetIterator name 0 (start.Time 2001))
    ∷ turn 86401000 (command.Keep name 23 true)
    ∷ turn 86401000 (command.Keep name 48 false)
    ∷ turn 86401000 (command.Keep name 48 true)
    ∷ turn 86401000 (command.Records (record { stream = 1; shard = 0; position = 0; issued = 86401000 }) 10)
    ∷ turn 86401000 (command.GetIterator name 0 (start.Time 0)) ∷ [])
    ≡ (Ok reply.Done ∷ Ok (reply.Put (record { shard = 0; seq = 1 })) ∷ Ok (reply.Put (record { shard = 0; seq = 2 }))
    ∷ Ok (reply.Iterator (record { stream = 1; shard = 0; position = 2; issued = 2000 }))
    ∷ Ok (reply.Iterator (record { stream = 1; shard = 0; position = 3; issued = 2000 }))
    ∷ Err refusal.BadRetention ∷ Err refusal.BadRetention ∷ Ok reply.Done
    ∷ Ok (reply.Records (kept 2 2000 ∷ []) (Some (record { stream = 1; shard = 0; position = 3; issued = 86401000 }))
    0 [])
    ∷ Ok (reply.Iterator (record { stream = 1; shard = 0; position = 2; issued = 86401000 })) ∷ [])
unfolding refuse◌if◌else◌ with◌or◌then◌ turn name item kept
kept_hours = refl

shard : ℕ → ShardRef
shard n = record { stream = 1; shard = n }

half : ℕ
half = 170141183460469231731687303715884105728

latest : answers [] (
    turn 1000 (command.Create name 1)
    ∷ turn 1000 (command.Put name item)
    ∷ turn 1000 (command.Put name item)
    ∷ turn 1000 (command.MakeLease (shard 0) origin.Latest)
    ∷ turn 1000 command.Survey
    ∷ turn 1000 (command.Take (shard 0) 0 1)
    ∷ turn 1000 (command.OpenShard 1)
    ∷ turn 1000 (command.Read 1 3 10)
    ∷ turn 1000 (command.Put name item)
    ∷ turn 1000 (command.Read 1 3 10)
    ∷ turn 1000 (command.Give 1)
    ∷ turn 1000 (command.Give 1)
    ∷ turn 1000 (command.Mark 1 1 (target.At 1))
    ∷ turn 1000 (command.Mark 1 1 (target.At 3))
    ∷ turn 1000 (command.Split name 0 half)
    ∷ turn 1000 (command.MakeLease (shard 1) origin.Latest)
    ∷ turn 1000 (command.Take (shard 1) 0 1) ∷ [])
    ≡ (Ok reply.Done
    ∷ Ok (reply.Put (record { shard = 0; seq = 1 }))
    ∷ Ok (reply.Put (record { shard = 0; seq = 2 }))
    ∷ Ok (reply.Leased origin.Latest)
    ∷ Ok (reply.Survey (shard 0 ∷ []) (record {
      key = shard 0;
      owner = None;
      counter = 0;
      checkpoint = checkpoint.At 2;
      switches = 0;
      tenure = 0;
      floor = 3;
      parent = None;
      adjacent = None;
    } ∷ []))
    ∷ Ok (reply.Taken 1 1 (checkpoint.At 2))
    ∷ Ok reply.Done
    ∷ Ok (reply.Read [] 3 false)
    ∷ Ok (reply.Put (record { shard = 0; seq = 3 }))
    ∷ Ok (reply.Read (kept 3 1000 ∷ []) 4 false)
    ∷ Ok (reply.Given 3)
    ∷ Ok (reply.Given 4)
    ∷ Err (refusal.Below 2)
    ∷ Ok (reply.Counter 2)
    ∷ Ok reply.Done
    ∷ Ok (reply.Leased origin.TrimHorizon)
    ∷ Ok (reply.Taken 2 1 checkpoint.TrimHorizon) ∷ [])
unfolding refuse◌if◌else◌ with◌or◌then◌ turn name item kept shard half
latest = refl

latest_split : answers [] (
    turn 1000 (command.Create name 1)
    ∷ turn 1000 (command.Split name 0 half)
    ∷ turn 1000 (command.MakeLease (shard 0) origin.Latest)
    ∷ turn 1000 (command.MakeLease (shard 1) origin.Latest)
    ∷ turn 1000 (command.Take (shard 1) 0 1)
    ∷ turn 1000 (command.OpenShard 1)
    ∷ turn 1000 (command.Take (shard 0) 0 1)
    ∷ turn 1000 (command.OpenShard 2)
    ∷ turn 1000 (command.Read 2 2 10)
    ∷ turn 1000 (command.Give 2)
    ∷ turn 1000 (command.Mark 2 1 target.End)
    ∷ turn 1000 (command.OpenShard 1) ∷ [])
    ≡ (Ok reply.Done
    ∷ Ok reply.Done
    ∷ Ok (reply.Leased origin.Latest)
    ∷ Ok (reply.Leased origin.Latest)
    ∷ Ok (reply.Taken 1 1 (checkpoint.At 1))
    ∷ Err (refusal.ParentsOpen (shard 0))
    ∷ Ok (reply.Taken 2 1 (checkpoint.At 1))
    ∷ Ok reply.Done
    ∷ Ok (reply.Read [] 2 true)
    ∷ Ok (reply.Given 2)
    ∷ Ok (reply.Counter 2)
    ∷ Ok reply.Done ∷ [])
unfolding refuse◌if◌else◌ with◌or◌then◌ turn name shard half
latest_split = refl

from_moment : answers [] (
    turn 1000 (command.Create name 2)
    ∷ turn 1000 (command.Put name item)
    ∷ turn 2000 (command.Put name item)
    ∷ turn 2000 (command.Merge name 1 0)
    ∷ turn 2000 (command.MakeLease (shard 0) (origin.Time 1500))
    ∷ turn 2000 (command.MakeLease (shard 1) (origin.Time 1500))
    ∷ turn 2000 (command.MakeLease (shard 2) (origin.Time 1500))
    ∷ turn 2000 (command.Take (shard 0) 0 1)
    ∷ turn 2000 (command.Take (shard 1) 0 1)
    ∷ turn 2000 (command.Take (shard 2) 0 1) ∷ [])
    ≡ (Ok reply.Done
    ∷ Ok (reply.Put (record { shard = 0; seq = 1 }))
    ∷ Ok (reply.Put (record { shard = 0; seq = 2 }))
    ∷ Ok reply.Done
    ∷ Ok (reply.Leased (origin.Time 1500))
    ∷ Ok (reply.Leased (origin.Time 1500))
    ∷ Ok (reply.Leased origin.TrimHorizon)
    ∷ Ok (reply.Taken 1 1 (checkpoint.At 1))
    ∷ Ok (reply.Taken 2 1 (checkpoint.At 3))
    ∷ Ok (reply.Taken 3 1 checkpoint.TrimHorizon) ∷ [])
unfolding refuse◌if◌else◌ with◌or◌then◌ turn name item shard half
from_moment = refl
