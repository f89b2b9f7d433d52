-- The stream that an entry or a command is about, and what a journal says of a stream that no line is about.
use Rattle.std.specs.Prelude.{ℕ, ◌≡◌, false, List, [], Option, Some, None}
use Rattle.kds_defs.specs.declared.command.Command.{Command}
use Rattle.kds_defs.specs.declared.command.Command.TheVariants as command
use Rattle.kds_defs.specs.declared.entry.Entry.{Entry}
use Rattle.kds_defs.specs.declared.entry.Entry.TheVariants as entry
use Rattle.kds_defs.specs.Journal.{Journal}
use Rattle.kds_defs.specs.PutCommands.{is_enforced}
use Rattle.kds_defs.specs.Rates.{puts}
use Rattle.kds_defs.specs.Records.{next_number, records}
use Rattle.kds_defs.specs.Shards.{shards}
use Rattle.kds_defs.specs.Streams.{floor_of_lines, is_live, was_made}

-- The stream that an entry is about, or `None` for rows and tenures.
abbrev pub stream_of : (entry : Entry) → Option ℕ
stream_of (entry.Made s name count) = Some s
stream_of (entry.Gone s) = Some s
stream_of (entry.Put s sh number hash bytes key_bytes) = Some s
stream_of (entry.Split s sh key_hash number low high) = Some s
stream_of (entry.Merged s sh other number child) = Some s
stream_of (entry.Kept s hours) = Some s
stream_of (entry.Enforced s is_on) = Some s
stream_of _ = None

-- The name of a stream that must be live for the command, or `None` if the command names no such stream.
abbrev pub name_of_command : (command : Command) → Option (List ℕ)
name_of_command (command.Delete name) = Some name
name_of_command (command.Describe name after limit) = Some name
name_of_command (command.Summary name) = Some name
name_of_command (command.Shards name after limit) = Some name
name_of_command (command.GetIterator name sh start) = Some name
name_of_command (command.Put name item) = Some name
name_of_command (command.PutMany name items) = Some name
name_of_command (command.Split name sh hash) = Some name
name_of_command (command.Merge name sh other) = Some name
name_of_command (command.Keep name hours raise) = Some name
name_of_command (command.Scale name target) = Some name
name_of_command (command.Enforce name is_on) = Some name
name_of_command _ = None

-- The journal says of stream `s` what an empty journal says.
pub record IsFresh (log : Journal) (s : ℕ) : Type 0 where
  pub gone : is_live log s ≡ false
  pub unmade : was_made log s ≡ false
  pub undrawn : next_number log s ≡ 1
  pub no_floor : floor_of_lines log s ≡ 0
  pub no_shards : shards log s ≡ []
  pub no_records : (sh : ℕ) → records log s sh ≡ []
  pub no_puts : (sh : ℕ) → puts log s sh ≡ []
  pub not_enforced : is_enforced log s ≡ false
