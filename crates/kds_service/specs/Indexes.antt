-- Where the service finds the stream of a number, name or command, and how many shards are open.
use Rattle.std.specs.Prelude.{ℕ, ◌≡◌, ◌+◌, ◌==◌, Bool, ◌||◌, nat_le, nat_lt, if◌then◌else◌, List, [], ◌∷◌, length}
use Rattle.std.specs.Prelude.{Option, Some, None}
use Rattle.std.specs.List.{filter, position_from}
use Rattle.std.specs.Map.{keys_of, values_of}
use Rattle.kds_defs.specs.declared.command.Command.{Command}
use Rattle.kds_defs.specs.declared.command.Command.TheVariants as command
use Rattle.kds_defs.specs.declared.limits.TheConstants.{LIVE_STREAMS, OPEN_SHARDS}
use Rattle.kds_defs.specs.declared.reply.Refusal.{Refusal}
use Rattle.kds_defs.specs.declared.reply.Refusal.TheVariants as refusal
use Rattle.kds_defs.specs.Listings.{is_expired_token}
use Rattle.kds_defs.specs.Shards.{is_open}
use Rattle.kds_defs.specs.Streams.{same_name}
use Rattle.kds_defs.specs.Subjects.{name_of_command}
use Rattle.kds_stream.specs.Serving.{token_stream}
use Rattle.kds_stream.specs.Value.{StreamValue}
use Rattle.kds_service.specs.Shown.{AreAt, names_of, numbers_of}

-- The index of the first stream with the name.
abbrev pub index_by_name : (vs : List StreamValue) (name : List ℕ) → Option ℕ
index_by_name vs name = position_from (same_name name) 0 (names_of vs)

-- The index of the first stream with the number.
abbrev pub index_by_number : (vs : List StreamValue) (s : ℕ) → Option ℕ
index_by_number vs s = position_from (λ n. n == s) 0 (numbers_of vs)

-- The index of the stream with the number, if it is given, and otherwise with the name.
abbrev pub index_by : (vs : List StreamValue) (s : Option ℕ) (name : Option (List ℕ)) → Option ℕ
index_by vs (Some s) name = index_by_number vs s
index_by vs None (Some name) = index_by_name vs name
index_by vs None None = None

-- The index of the command's stream, by the number in its token or else by its name.
abbrev pub index_for : (vs : List StreamValue) (asked : Command) → Option ℕ
index_for vs asked = index_by vs (token_stream asked) (name_of_command asked)

-- The refusal of a command whose token is too old at the clock `c`.
abbrev pub token_refusal : (c : ℕ) (command : Command) → Option Refusal
token_refusal c (command.Records iter limit) = if is_expired_token c iter.issued then Some refusal.Expired else None
token_refusal c (command.More page limit) = if is_expired_token c page.issued then Some refusal.PageExpired else None
token_refusal c _ = None

-- The number of open shards in the streams.
abbrev pub open_total : (vs : List StreamValue) → ℕ
open_total [] = 0
open_total (v ∷ vs) = length (filter is_open v.tree) + open_total vs

-- The number of open shards of the stream, or 0 if `s` is its number.
abbrev pub open_unless : (v : StreamValue) (s : ℕ) → ℕ
open_unless v s = if v.no == s then 0 else length (filter is_open v.tree)

-- The number of open shards in all streams but `s`.
abbrev pub open_beside : (vs : List StreamValue) (s : ℕ) → ℕ
open_beside [] s = 0
open_beside (v ∷ vs) s = open_unless v s + open_beside vs s

-- Whether one more stream of `count` shards would make too many streams or open shards.
abbrev pub is_full : (vs : List StreamValue) (count : ℕ) → Bool
is_full vs count = nat_le LIVE_STREAMS (length vs) || nat_lt OPEN_SHARDS (open_total vs + count)

-- Each stream is under its own name and at the clock `c`.
pub record AreNamedAt (c : ℕ) (es : List (List ℕ × StreamValue)) : Type 0 where
  pub named : keys_of es ≡ names_of (values_of es)
  pub at : AreAt c (values_of es)
