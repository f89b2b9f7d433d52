-- A history's turns for the stream service, and a journal's lines on streams.
use Rattle.std.specs.Prelude.{ℕ, ◌≡◌, Bool, true, false, is_some, List, map}
use Rattle.std.specs.List.{AllByRecursion, filter}
use Rattle.kds_defs.specs.declared.command.Command.{Command}
use Rattle.kds_defs.specs.declared.command.Command.TheVariants as command
use Rattle.kds_defs.specs.declared.command.Turn.{Turn}
use Rattle.kds_defs.specs.declared.entry.Entry.{Entry}
use Rattle.kds_defs.specs.Journal.{Line, Journal}
use Rattle.kds_defs.specs.Kinds.{is_service}
use Rattle.kds_defs.specs.Subjects.{stream_of}

-- 24 hours in ms, the shortest retention (Kinesis API Reference, DecreaseStreamRetentionPeriod).
abbrev pub LEAST_RETENTION : ℕ
LEAST_RETENTION = 86400000

-- Whether the entry is about a stream, and not about a lease.
abbrev pub is_stream_entry : (entry : Entry) → Bool
is_stream_entry entry = is_some (stream_of entry)

-- The line at the clock 0.
abbrev pub undated : (line : Line) → Line
undated line = record line { clock = 0 }

-- The lines about streams, each at the clock 0.
abbrev pub stream_lines : (log : Journal) → Journal
stream_lines log = map undated (filter (λ line. is_stream_entry line.what) log)

-- The turns for the stream service, and not for the leases.
abbrev pub service_turns : (h : List Turn) → List Turn
service_turns h = filter (λ turn. is_service turn.what) h

-- Whether the command is neither UpdateShardCount nor LocalEnforceLimits.
abbrev pub is_basic : (command : Command) → Bool
is_basic (command.Scale name target) = false
is_basic (command.Enforce name is_on) = false
is_basic _ = true

-- No turn scales a stream or turns its limits on or off.
abbrev pub AreBasic : (h : List Turn) → Type 0
AreBasic h = AllByRecursion (λ turn. is_basic turn.what ≡ true) h
