-- The texts of lease commands, and their readers, which get the text after the first word.
use Rattle.std.specs.Prelude.{◌≡◌, ℕ, ◌^◌, ◌<◌, List, [], ◌∷◌, ◌++◌, codes, decimal, Bool, true, false, if◌then◌else◌}
use Rattle.std.specs.Prelude.{Option, Some, None, option_map}
use Rattle.std.specs.Str.{bytes_eq}
use Rattle.kds_base.specs.declared.lease_key.ShardRef.{ShardRef}
use Rattle.kds_defs.specs.declared.command.Command.{Command}
use Rattle.kds_defs.specs.declared.command.Command.TheVariants as command
use Rattle.kds_defs.specs.declared.command.Origin.{Origin}
use Rattle.kds_defs.specs.declared.command.Target.{Target}
use Rattle.kds_defs.specs.declared.command.Target.TheVariants as target
use Rattle.kds_defs.specs.declared.limits.TheConstants.{MOST}
use Rattle.kds_defs.specs.Kinds.{is_service}
use Rattle.kds_defs.specs.Lawful.{IsLawfulCommand}
use Rattle.kcl_script_fields.specs.Origins.{IsOrigin, origin_text, with_origin}
use Rattle.kcl_script_fields.specs.Fields.{◌>>=◌, field, two, number, count_of, worker_of, worker_text, key_of}
use Rattle.kcl_script_fields.specs.Fields.{key_text}

-- A target from `end` or a sequence number.
abbrev pub target_of : (text : List ℕ) → Option Target
target_of text = if bytes_eq text (codes "end") then Some target.End else option_map (λ q. target.At q) (number text)

-- The text of a target: a sequence number, or `end`.
abbrev pub target_text : (target : Target) → List ℕ
target_text target.End = codes "end"
target_text (target.At q) = decimal q

-- A key and origin from `KEY` (then TRIM_HORIZON), `KEY latest` or `KEY time M`.
abbrev pub row_of : (text : List ℕ) → Option (ShardRef × Origin)
row_of text = with_origin key_of text

-- Reads `make KEY`, `make KEY latest` or `make KEY time M` after the first word.
abbrev pub make_of : (text : List ℕ) → Option Command
make_of text = option_map (λ a. command.MakeLease a.0 a.1) (row_of text)

-- Reads `take KEY COUNTER wN` after the first word; N is the worker's number.
abbrev pub take_of : (text : List ℕ) → Option Command
take_of text = option_map (λ a. command.Take a.0 a.1.0 a.1.1) (two 32 key_of (two 32 number worker_of) text)

-- Reads `renew T C` after the first word, with tenure T and counter C.
abbrev pub renew_of : (text : List ℕ) → Option Command
renew_of text = option_map (λ a. command.Renew a.0 a.1) (two 32 number number text)

-- Reads `free T C` after the first word, with tenure T and counter C.
abbrev pub free_of : (text : List ℕ) → Option Command
free_of text = option_map (λ a. command.Free a.0 a.1) (two 32 number number text)

-- Reads `open T` after the first word, with tenure T.
abbrev pub open_of : (text : List ℕ) → Option Command
open_of text = option_map (λ t. command.OpenShard t) (number text)

-- Reads `read T POSITION LIMIT` after the first word, with tenure T.
abbrev pub read_of : (text : List ℕ) → Option Command
read_of text = option_map (λ a. command.Read a.0 a.1.0 a.1.1) (two 32 number (two 32 number (count_of MOST)) text)

-- Reads `give T` after the first word, with tenure T.
abbrev pub give_of : (text : List ℕ) → Option Command
give_of text = option_map (λ t. command.Give t) (number text)

-- Reads `mark T C Q` or `mark T C end` after the first word, with counter C and sequence number Q.
abbrev pub mark_of : (text : List ℕ) → Option Command
mark_of text = option_map (λ a. command.Mark a.0 a.1.0 a.1.1) (two 32 number (two 32 number target_of) text)

-- Reads `cut KEY COUNTER` after the first word.
abbrev pub cut_of : (text : List ℕ) → Option Command
cut_of text = option_map (λ a. command.CutLease a.0 a.1) (two 32 key_of number text)

-- The command with this first word, read from the `text` after it.
abbrev pub words_of : (word text : List ℕ) → Option Command
words_of word text =
    if bytes_eq word (codes "make") then make_of text
    else if bytes_eq word (codes "take") then take_of text
    else if bytes_eq word (codes "renew") then renew_of text
    else if bytes_eq word (codes "free") then free_of text
    else if bytes_eq word (codes "open") then open_of text
    else if bytes_eq word (codes "read") then read_of text
    else if bytes_eq word (codes "give") then give_of text
    else if bytes_eq word (codes "mark") then mark_of text
    else if bytes_eq word (codes "cut") then cut_of text
    else None

-- The command of more than one word, if the text is one.
abbrev pub longer_of : (text : List ℕ) → Option Command
longer_of text = field text >>= λ p. words_of p.0 p.1

-- The lease command of the text, and whether its answer has each row, as only `rows` does.
abbrev pub command_of : (text : List ℕ) → Option (Command × Bool)
command_of text =
    if bytes_eq text (codes "survey") then Some (command.Survey, false)
    else if bytes_eq text (codes "rows") then Some (command.Survey, true)
    else option_map (λ c. (c, false)) (longer_of text)

-- The text of a lease command, empty for other commands.
abbrev pub command_text : (command : Command) → List ℕ
command_text command.Survey = codes "survey"
command_text (command.MakeLease key origin) = codes "make " ++ (key_text key ++ origin_text origin)
command_text (command.Take key counter owner) =
    codes "take " ++ (key_text key ++ 32 ∷ (decimal counter ++ 32 ∷ worker_text owner))
command_text (command.Renew tenure counter) = codes "renew " ++ (decimal tenure ++ 32 ∷ decimal counter)
command_text (command.Free tenure counter) = codes "free " ++ (decimal tenure ++ 32 ∷ decimal counter)
command_text (command.OpenShard tenure) = codes "open " ++ decimal tenure
command_text (command.Read tenure position limit) =
    codes "read " ++ (decimal tenure ++ 32 ∷ (decimal position ++ 32 ∷ decimal limit))
command_text (command.Give tenure) = codes "give " ++ decimal tenure
command_text (command.Mark tenure counter goal) =
    codes "mark " ++ (decimal tenure ++ 32 ∷ (decimal counter ++ 32 ∷ target_text goal))
command_text (command.CutLease key counter) = codes "cut " ++ (key_text key ++ 32 ∷ decimal counter)
command_text _ = []

-- The text of a raw line's command: `rows` if `long`.
abbrev pub raw_text : (asked : Command) (long : Bool) → List ℕ
raw_text asked long = if long then codes "rows" else command_text asked

-- Stream and shard numbers fit into 64 bits.
abbrev pub IsKey : (key : ShardRef) → Type 0
IsKey key = (key.stream < 2 ^ 64) × (key.shard < 2 ^ 64)

-- The target's sequence number, if any, fits into 64 bits.
abbrev pub IsTarget : (target : Target) → Type 0
IsTarget target.End = Unit {0}
IsTarget (target.At q) = q < 2 ^ 64

-- The numbers of a lease command fit into their types; other commands always pass.
abbrev pub AreNumbers : (command : Command) → Type 0
AreNumbers (command.MakeLease key origin) = IsKey key × IsOrigin origin
AreNumbers (command.Take key counter owner) = IsKey key × ((counter < 2 ^ 64) × (owner < 2 ^ 32))
AreNumbers (command.Renew tenure counter) = (tenure < 2 ^ 64) × (counter < 2 ^ 64)
AreNumbers (command.Free tenure counter) = (tenure < 2 ^ 64) × (counter < 2 ^ 64)
AreNumbers (command.OpenShard tenure) = tenure < 2 ^ 64
AreNumbers (command.Read tenure position limit) = (tenure < 2 ^ 64) × (position < 2 ^ 64)
AreNumbers (command.Give tenure) = tenure < 2 ^ 64
AreNumbers (command.Mark tenure counter goal) = (tenure < 2 ^ 64) × ((counter < 2 ^ 64) × IsTarget goal)
AreNumbers (command.CutLease key counter) = IsKey key × (counter < 2 ^ 64)
AreNumbers _ = Unit {0}

-- A lease command with values in the API's ranges, whose numbers fit into their types.
pub record IsRaw (asked : Command) : Type 0 where
  pub lease : is_service asked ≡ false
  pub lawful : IsLawfulCommand asked
  pub numbers : AreNumbers asked

-- Only a survey's answer may have each row (`long`).
abbrev pub IsLong : (asked : Command) (long : Bool) → Type 0
IsLong asked long = long ≡ true → asked ≡ command.Survey

-- The command can stand in a raw line: `long` only with a survey.
abbrev pub IsAsked : (asked : Command) (long : Bool) → Type 0
IsAsked asked long = IsRaw asked × IsLong asked long
