-- The turn that a request to the stream service becomes.
use Rattle.std.specs.Prelude.{ℕ}
use Rattle.kds_defs.specs.declared.command.Command.{Command}
use Rattle.kds_defs.specs.declared.command.Turn.{Turn}
use Rattle.kds_defs.specs.declared.limits.TheConstants.{API_ACTOR}

-- The turn of a request at a moment, always by actor 0.
abbrev pub request_turn : (moment : ℕ) (command : Command) → Turn
request_turn moment command = record { by = API_ACTOR; at = moment; what = command }
