-- Turns whose numbers fit into the machine types of the code, such as `u64`.
use Rattle.std.specs.Prelude.{◌^◌, ◌<◌, List}
use Rattle.std.specs.List.{AllByRecursion}
use Rattle.kds_defs.specs.declared.command.Turn.{Turn}
use Rattle.kcl_script_fields.specs.Commands.{AreNumbers}

-- The actor fits into 32 bits, and the numbers of a lease command into their types.
abbrev pub HasBits : (turn : Turn) → Type 0
HasBits turn = (turn.by < 2 ^ 32) × AreNumbers turn.what

-- Each turn has numbers that fit into their types.
abbrev pub HaveBits : (h : List Turn) → Type 0
HaveBits h = AllByRecursion HasBits h
