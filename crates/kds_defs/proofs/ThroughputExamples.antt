-- Worked examples of scaling and of limits on throughput.
use Rattle.std.specs.Prelude.{ℕ, ◌≡◌, true, false, List, [], ◌∷◌, Ok, Err}
use Rattle.std.proofs.Common.{refl}
use Rattle.kds_defs.specs.declared.command.Command.{Command}
use Rattle.kds_defs.specs.declared.command.Command.TheVariants as command
use Rattle.kds_defs.specs.declared.command.NewItem.{NewItem}
use Rattle.kds_defs.specs.declared.command.Turn.{Turn}
use Rattle.kds_defs.specs.declared.entry.Entry.TheVariants as entry
use Rattle.kds_defs.specs.declared.reply.Outcome.TheVariants as outcome
use Rattle.kds_defs.specs.declared.reply.Refusal.TheVariants as refusal
use Rattle.kds_defs.specs.declared.reply.Reply.TheVariants as reply
use Rattle.kds_defs.specs.Decision.{refuse◌if◌else◌, with◌or◌then◌}
use Rattle.kds_defs.specs.Histories.{answers}
use Rattle.kds_defs.specs.Journal.{Journal, plain_line}
use Rattle.kds_defs.specs.PutCommands.{is_held_back}

turn : ℕ → Command → Turn
turn moment asked = record { by = 0; at = moment; what = asked }

name : List ℕ
name = 115 ∷ []

item : NewItem
item = record { key = 97 ∷ []; hash = 0x0cc175b9c0f1b6a831c399e269772661; payload = [] }

scaled : answers [] (
    turn 1000 (command.Create name 2)
    ∷ turn 1000 (command.Scale name 3)
    ∷ turn 1000 (command.Put name item)
    ∷ turn 1000 (command.Scale name 3)
    ∷ turn 1000 (command.Scale name 501) ∷ [])
    ≡ (Ok reply.Done
    ∷ Ok (reply.Scaled name 2 3 (entry.Merged 1 0 1 1 2 ∷ entry.Split 1 2 113427455640312821154458202477256070485 2 3 4
    ∷ entry.Split 1 4 226854911280625642308916404954512140970 3 5 6 ∷ []))
    ∷ Ok (reply.Put (record { shard = 3; seq = 4 }))
    ∷ Ok (reply.Scaled name 3 3 [])
    ∷ Err refusal.Full ∷ [])
unfolding refuse◌if◌else◌ with◌or◌then◌ turn name item
scaled = refl

filled : Journal
filled =
    record {
      clock = 5000;
      by = 0;
      what = entry.Put 1 0 1 0x0cc175b9c0f1b6a831c399e269772661 1048575 1;
      key = 97 ∷ [];
      payload = [];
    }
    ∷ plain_line 5000 0 (entry.Enforced 1 true)
    ∷ plain_line 1000 0 (entry.Made 1 (115 ∷ []) 1)
    ∷ []

within_the_second : is_held_back filled 5999 1 item ≡ true
unfolding filled item
within_the_second = refl

in_the_next : is_held_back filled 6000 1 item ≡ false
unfolding filled item
in_the_next = refl

enforced : answers [] (
    turn 1000 (command.Create name 1)
    ∷ turn 5000 (command.Enforce name true)
    ∷ turn 5000 (command.PutMany name (item ∷ item ∷ []))
    ∷ turn 5000 (command.Enforce (116 ∷ []) true) ∷ [])
    ≡ (Ok reply.Done
    ∷ Ok reply.Done
    ∷ Ok (reply.PutMany (outcome.Stored (record { shard = 0; seq = 1 }) ∷ outcome.Stored (record { shard = 0; seq = 2 })
    ∷ []))
    ∷ Err refusal.NoStream ∷ [])
unfolding refuse◌if◌else◌ with◌or◌then◌ turn name item
enforced = refl
