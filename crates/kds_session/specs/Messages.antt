-- How a connection's bytes fall into messages, each a head and a body (RFC 9112, sections 2.1 and 9.3.2).
use Rattle.std.specs.Prelude.{◌≡◌, ℕ, ◌+◌, ◌<◌, ◌≤◌, ◌⊎◌, ◌==◌, ◌||◌, Bool, MatchBool, List, [], ◌∷◌, length, take}
use Rattle.std.specs.Prelude.{drop}
use Rattle.kds_head.specs.declared.found.Head.{Head}
use Rattle.kds_head.specs.declared.found.Found.TheVariants.{Need, Refused, Whole}
use Rattle.kds_head.specs.Find.{IsFound}
use Rattle.kds_session.specs.declared.limits.TheConstants.{REQUESTS}

-- A whole message.
pub record Message : Type 0 where
  pub head : Head
  pub body : List ℕ

-- The number of bytes of a message with this head.
abbrev pub size : (head : Head) → ℕ
size head = head.length + head.body

-- The bytes begin with the head and its whole body.
pub record IsWhole (bytes : List ℕ) (head : Head) : Type 0 where
  pub found : IsFound bytes (Whole head)
  pub whole : size head ≤ length bytes

-- The bytes begin with the head, but end before its body does.
pub record IsShort (bytes : List ℕ) (head : Head) : Type 0 where
  pub found : IsFound bytes (Whole head)
  pub short : length bytes < size head

-- The bytes don't begin with a whole message yet, but may when more come: the head or the body isn't whole.
abbrev pub IsUnfinished : (bytes : List ℕ) → Type 0
IsUnfinished bytes = IsFound bytes Need ⊎ ((head : Head) × IsShort bytes head)

-- The message with which the bytes begin, if this is its head.
abbrev pub message_at : (bytes : List ℕ) (head : Head) → Message
message_at bytes head = record { head = head; body = take head.body (drop head.length bytes) }

-- The bytes begin with the whole message.
abbrev pub Begins : (bytes : List ℕ) (m : Message) → Type 0
Begins bytes m = IsWhole bytes m.head × (m ≡ message_at bytes m.head)

-- The bytes after the message.
abbrev pub rest_of : (bytes : List ℕ) (m : Message) → List ℕ
rest_of bytes m = drop (size m.head) bytes

-- How bytes end after the last whole message: with none, in a message, refused, or closed whatever follows.
pub data Ending : Type 0 where
  boundary inside closed : Ending
  refused : ℕ → Ending

-- The bytes after the last whole message have this ending; `closed` comes from `Falls` alone.
abbrev pub Ends : (bytes : List ℕ) (boundary : Ending) → Type 0
Ends bytes boundary = bytes ≡ []
Ends bytes inside = (0 < length bytes) × IsUnfinished bytes
Ends bytes closed = ⊥
Ends bytes (refused status) = IsFound bytes (Refused status)

-- Whether the connection closes after the message, counted from 1: asked for, or the last (RFC 9112, section 9.6).
abbrev pub closes_after : (number : ℕ) (head : Head) → Bool
closes_after number head = head.close || number == REQUESTS

-- Bytes divide into these messages and this ending; a message that closes the connection is the last.
abbrev pub Falls : (old : ℕ) (bytes : List ℕ) (ms : List Message) (ending : Ending) → Type 0
Falls old bytes [] ending = Ends bytes ending
Falls old bytes (m ∷ ms) ending =
    Begins bytes m × MatchBool (closes_after (old + 1) m.head) ((ms ≡ []) × (ending ≡ closed))
    (Falls (old + 1) (rest_of bytes m) ms ending)
