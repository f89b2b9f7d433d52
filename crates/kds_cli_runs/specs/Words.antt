-- The program's own texts: one on the error output for each status, and one once a door listens.
use Rattle.std.specs.Prelude.{ℕ, List, [], ◌∷◌, ◌++◌, codes, decimal}
use Rattle.kds_ends.specs.declared.status.Status.{Status}
use Rattle.kds_ends.specs.declared.status.Status.TheVariants.{Done, Unsound, Usage, BadLine, Read, Write, Memory, Cut}
use Rattle.kds_ends.specs.declared.status.Status.TheVariants.{Door, TooLong, Refused}

-- The error output's text with line feed; empty for Done, and for Unsound, which the audit's output states.
abbrev pub error_text : (status : Status) → List ℕ
error_text Done = []
error_text Unsound = []
error_text Usage = codes
    "usage: kds replay [--journal] | answer | audit | serve PORT MEMBERS | drill NUMBER WORKERS RECORDS" ++ 10 ∷ []
error_text (BadLine n) = codes "line " ++ (decimal n ++ (codes ": not a schedule line" ++ 10 ∷ []))
error_text Read = codes "read fault" ++ 10 ∷ []
error_text Write = codes "write fault" ++ 10 ∷ []
error_text Memory = codes "out of memory" ++ 10 ∷ []
error_text Cut = codes "input ended inside a message" ++ 10 ∷ []
error_text Door = codes "door fault" ++ 10 ∷ []
error_text TooLong = codes "input too long" ++ 10 ∷ []
error_text Refused = codes "message refused" ++ 10 ∷ []

-- The line written once a door listens, with line feed.
abbrev pub listening : List ℕ
listening = codes "listening" ++ 10 ∷ []
