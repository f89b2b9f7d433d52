-- The task that a parse by `clap` asks for, and the words that `clap` is given.
use Rattle.std.specs.Prelude.{ℕ, Bool, false, ◌==◌, ◌||◌, not, List, slice_get, codes, Option, Some, None}
use Rattle.std.specs.Prelude.{if◌then◌else◌}
use Rattle.std.specs.Str.{bytes_eq}
use Rattle.clap.specs.Words.{Row, Text, first_of}
use Rattle.kds_cli_words.specs.Words.{drill_of, serve_of}
use Rattle.kds_cli_words.specs.declared.task.Task.{Task}
use Rattle.kds_cli_words.specs.declared.task.Task.TheVariants.{Replay, Answer, Audit}

-- ---- The result of a parse

-- Whether a flag is set: the text of its value is `true`.
abbrev pub is_told : (text : Option Text) → Bool
is_told None = false
is_told (Some text) = bytes_eq text (codes "true")

-- The task `serve`, if both texts are given and are numbers in range.
abbrev pub serve_told : (port members : Option Text) → Option Task
serve_told (Some port) (Some members) = serve_of port members
serve_told port members = None

-- The task `drill`, if all three texts are given and are numbers in range.
abbrev pub drill_told : (number workers records : Option Text) → Option Task
drill_told (Some number) (Some workers) (Some records) = drill_of number workers records
drill_told number workers records = None

-- The task of the subcommand with the arguments in `get`; None for unknown names or bad arguments.
abbrev pub told_with : (name : Text) (get : Text → Option Text) → Option Task
told_with name get =
    if bytes_eq name (codes "replay") then Some (Replay (is_told (get (codes "journal"))))
    else if bytes_eq name (codes "answer") then Some Answer
    else if bytes_eq name (codes "audit") then Some Audit
    else if bytes_eq name (codes "serve") then serve_told (get (codes "port")) (get (codes "members"))
    else if bytes_eq name (codes "drill") then drill_told (get (codes "number")) (get (codes "workers"))
    (get (codes "records"))
    else None

-- The task of a parse, which has a subcommand's name and its arguments' values, if any.
abbrev pub task_in : (met : Option (Text × List Row)) → Option Task
task_in None = None
task_in (Some met) = told_with met.0 (λ id. first_of id met.1)

-- ---- The words that `clap` is given

-- Whether there is a byte and it is a hyphen.
abbrev pub is_hyphen : (d : Option ℕ) → Bool
is_hyphen None = false
is_hyphen (Some d) = d == 45

-- Whether the word begins with a hyphen.
abbrev pub has_hyphen : (w : Text) → Bool
has_hyphen w = is_hyphen (slice_get w 0)

-- Whether `clap` may get the word: it has no hyphen in front, or is `--journal`, the only flag.
abbrev pub is_word : (w : Text) → Bool
is_word w = bytes_eq w (codes "--journal") || not (has_hyphen w)
