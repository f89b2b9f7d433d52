-- The task that the words after the program's name ask for.
use Rattle.std.specs.Prelude.{ℕ, ◌≤◌, true, false, ◌&&◌, nat_le, List, [], ◌∷◌, map, String, string_bytes, codes}
use Rattle.std.specs.Prelude.{Option, Some, None, option_and_then, if◌then◌else◌}
use Rattle.std.specs.Str.{bytes_eq}
use Rattle.std.specs.declared.alloc.Global.{Global}
use Rattle.kds_base.specs.NumberText.{number_of}
use Rattle.kds_cli_words.specs.declared.ranges.TheConstants.{MOST_MEMBERS, MOST_PORT, MOST_RECORDS}
use Rattle.kds_cli_words.specs.declared.task.Task.{Task}
use Rattle.kds_cli_words.specs.declared.task.Task.TheVariants.{Replay, Answer, Audit, Serve, Drill}

-- The bytes of each word.
abbrev pub texts_of : (words : List (String Global)) → List (List ℕ)
texts_of words = map string_bytes words

-- The number, if it is from `low` to `high`, both included.
abbrev pub within : (low high n : ℕ) → Option ℕ
within low high n = if nat_le low n && nat_le n high then Some n else None

-- The decimal number from `low` to `high`, both included, if the text is one.
abbrev pub number_in : (low high : ℕ) (text : List ℕ) → Option ℕ
number_in low high text = option_and_then (within low high) (number_of 64 text)

-- The decimal port, from 1 to MOST_PORT.
abbrev pub port_of : (text : List ℕ) → Option ℕ
port_of text = number_in 1 MOST_PORT text

-- The decimal number of members or workers, from 1 to MOST_MEMBERS.
abbrev pub members_of : (text : List ℕ) → Option ℕ
members_of text = number_in 1 MOST_MEMBERS text

-- The decimal number of records, at most MOST_RECORDS.
abbrev pub records_of : (text : List ℕ) → Option ℕ
records_of text = number_in 0 MOST_RECORDS text

-- The task `serve`, if both texts are numbers in range.
abbrev pub serve_of : (port members : List ℕ) → Option Task
serve_of port members =
    option_and_then (λ p. option_and_then (λ m. Some (Serve p m)) (members_of members)) (port_of port)

-- The task `drill`, if all three texts are numbers in range.
abbrev pub drill_of : (number workers records : List ℕ) → Option Task
drill_of number workers records =
    option_and_then (λ n. option_and_then (λ w. option_and_then (λ r. Some (Drill n w r)) (records_of records))
    (members_of workers)) (number_of 64 number)

-- The task that the words ask for; none with a word too many or too few.
abbrev pub task_of : (more : List (List ℕ)) → Option Task
task_of [] = None
task_of (word ∷ []) =
    if bytes_eq word (codes "replay") then Some (Replay false)
    else if bytes_eq word (codes "answer") then Some Answer
    else if bytes_eq word (codes "audit") then Some Audit
    else None
task_of (word ∷ a ∷ []) =
    if bytes_eq word (codes "replay") && bytes_eq a (codes "--journal") then Some (Replay true) else None
task_of (word ∷ a ∷ b ∷ []) = if bytes_eq word (codes "serve") then serve_of a b else None
task_of (word ∷ a ∷ b ∷ c ∷ []) = if bytes_eq word (codes "drill") then drill_of a b c else None
task_of (word ∷ a ∷ b ∷ c ∷ d ∷ more) = None

-- The task's numbers, if any, are in their ranges.
abbrev pub IsWithin : (task : Task) → Type 0
IsWithin (Serve port passes) = (1 ≤ port) × (port ≤ MOST_PORT) × (1 ≤ passes) × (passes ≤ MOST_MEMBERS)
IsWithin (Drill number workers records) = (1 ≤ workers) × (workers ≤ MOST_MEMBERS) × (records ≤ MOST_RECORDS)
IsWithin _ = Unit {0}
