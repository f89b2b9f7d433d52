-- The numbers of live streams, which spare the judge the deleted ones.
use Rattle.std.specs.Prelude.{ℕ, ◌+◌, Bool, true, false, ◌||◌, if◌then◌else◌, List, [], ◌∷◌, length, Option, Some, None}
use Rattle.std.specs.List.{filter}
use Rattle.kds_defs.specs.declared.entry.Entry.{Entry}
use Rattle.kds_defs.specs.declared.entry.Entry.TheVariants as entry
use Rattle.kds_defs.specs.Shards.{is_open}
use Rattle.kds_defs.specs.Streams.{same_name}
use Rattle.kcl_audit_streams.specs.Standing.{StreamValue, live_at}

-- The numbers of the live streams, if the first stream has the number `n`.
abbrev pub live_numbers : (n : ℕ) (vs : List StreamValue) → List ℕ
live_numbers n [] = []
live_numbers n (v ∷ vs) = if v.live then n ∷ live_numbers (n + 1) vs else live_numbers (n + 1) vs

-- Whether there is a stream and it has this name.
abbrev pub has_name : (v : Option StreamValue) (name : List ℕ) → Bool
has_name None name = false
has_name (Some v) name = same_name v.name name

-- Whether a live stream with a number in `ss` has this name.
abbrev pub is_named_among : (vs : List StreamValue) (name ss : List ℕ) → Bool
is_named_among vs name [] = false
is_named_among vs name (s ∷ ss) = has_name (live_at vs s) name || is_named_among vs name ss

-- The open shards of the stream, 0 without one.
abbrev pub open_of : (v : Option StreamValue) → ℕ
open_of None = 0
open_of (Some v) = length (filter is_open v.tree)

-- The open shards of the live streams with numbers in `ss`.
abbrev pub open_among : (vs : List StreamValue) (ss : List ℕ) → ℕ
open_among vs [] = 0
open_among vs (s ∷ ss) = open_of (live_at vs s) + open_among vs ss

-- Whether the entry deletes a stream.
abbrev pub is_deletion : (entry : Entry) → Bool
is_deletion (entry.Gone s) = true
is_deletion _ = false
