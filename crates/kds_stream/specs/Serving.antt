-- Which commands a stream serves, what it must be told of the others, and its answers.
use Rattle.std.specs.Prelude.{ℕ, ◌≡◌, ◌+◌, ◌-◌, Bool, true, false, ◌||◌, is_some, List, length, Option, Some, None}
use Rattle.std.specs.Prelude.{Result}
use Rattle.std.specs.List.{filter}
use Rattle.kds_defs.specs.declared.command.Command.{Command}
use Rattle.kds_defs.specs.declared.command.Command.TheVariants as command
use Rattle.kds_defs.specs.declared.limits.TheConstants.{OPEN_SHARDS}
use Rattle.kds_defs.specs.declared.reply.Refusal.{Refusal}
use Rattle.kds_defs.specs.declared.reply.Reply.{Reply}
use Rattle.kds_defs.specs.Histories.{answer_of, decide, lines_of}
use Rattle.kds_defs.specs.Journal.{Journal, with_lines}
use Rattle.kds_defs.specs.ScaleCommands.{open_elsewhere}
use Rattle.kds_defs.specs.Shards.{is_open, open_count}
use Rattle.kds_defs.specs.Streams.{stream_named}
use Rattle.kds_defs.specs.Subjects.{name_of_command}
use Rattle.kds_stream.specs.Showing.{Shows}
use Rattle.kds_stream.specs.Value.{StreamValue}

-- The number of the stream to which the command's shard iterator or token belongs.
abbrev pub token_stream : (command : Command) → Option ℕ
token_stream (command.Records iter limit) = Some iter.stream
token_stream (command.More page limit) = Some page.stream
token_stream _ = None

-- Whether a stream serves the command: it is about an existing stream, and isn't DeleteStream.
abbrev pub is_of_stream : (asked : Command) → Bool
is_of_stream (command.Delete name) = false
is_of_stream asked = is_some (name_of_command asked) || is_some (token_stream asked)

-- Whether a command may raise the number of open shards in an existing stream.
abbrev pub needs_open_limit : (command : Command) → Bool
needs_open_limit (command.Split name sh hash) = true
needs_open_limit (command.Scale name target) = true
needs_open_limit _ = false

-- The stream shows the journal and is the one named; for a split or scaling, it may have `open_limit` open shards.
pub record IsToldOf (asked : Command) (open_limit : ℕ) (v : StreamValue) (log : Journal) : Type 0 where
  pub shown : Shows v log
  pub named : (name : List ℕ) → name_of_command asked ≡ Some name → (name ≡ v.name)
      × (stream_named log name ≡ Some v.no)
  pub opened : open_count log ≡ open_elsewhere log v.no + length (filter is_open v.tree)
  pub fits : needs_open_limit asked ≡ true → open_limit ≡ OPEN_SHARDS - open_elsewhere log v.no

-- After each journal that meets `IsToldOf`, the answer is the machine's, and the new stream shows its lines too.
abbrev pub Serves : (asked : Command) (open_limit : ℕ) (old new : StreamValue) (gives : Result Reply Refusal) → Type 0
Serves asked open_limit old new gives =
    (log : Journal) (actor : ℕ) → IsToldOf asked open_limit old log
    → (gives ≡ answer_of (decide log old.clock actor asked))
    × Shows new (with_lines (lines_of (decide log old.clock actor asked)) log)
