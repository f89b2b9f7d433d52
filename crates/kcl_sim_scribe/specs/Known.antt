-- What a scribe, the writer of a journal's text, knows of the turns that it has noted.
use Rattle.std.specs.Prelude.{◌≡◌, ℕ, ◌+◌, ◌-◌, ◌<◌, Bool, false, ◌==◌, not, if◌then◌else◌, List, [], ◌∷◌, ◌++◌, length}
use Rattle.std.specs.Prelude.{map, Option}
use Rattle.std.specs.List.{AllByRecursion, filter, find}
use Rattle.kds_defs.specs.declared.command.Turn.{Turn}
use Rattle.kds_defs.specs.declared.entry.Entry.{Entry}
use Rattle.kds_defs.specs.declared.entry.Entry.TheVariants as entry
use Rattle.kds_defs.specs.Histories.{clock, journal}
use Rattle.kds_defs.specs.Journal.{Journal}
use Rattle.kds_defs.specs.Records.{next_number}
use Rattle.kds_defs.specs.Shards.{shards}
use Rattle.kds_defs.specs.StreamCommands.{last_number}
use Rattle.kds_defs.specs.Streams.{live_streams, made_count, name_of, same_name}

-- What the scribe knows of a live stream: `drawn` is its last sequence number (0 for none), `shard` its last shard.
pub record Known : Type 0 where
  pub no : ℕ
  pub name : List ℕ
  pub drawn : ℕ
  pub shard : ℕ

-- What the scribe knows: the clock, how many streams were made, and the live ones by number.
pub record ScribeValue : Type 0 where
  pub clock : ℕ
  pub made : ℕ
  pub streams : List Known

-- The first of the streams with this name.
abbrev pub known_as : (name : List ℕ) (streams : List Known) → Option Known
known_as name streams = find (λ v. same_name v.name name) streams

-- ---- The histories that a scribe represents

-- The journal agrees with what the scribe knows of this stream, and a further sequence number is left.
pub record IsKnown (log : Journal) (v : Known) : Type 0 where
  pub named : name_of log v.no ≡ v.name
  pub next : next_number log v.no ≡ v.drawn + 1
  pub many : length (shards log v.no) ≡ v.shard + 1
  pub left : v.drawn < last_number

-- The journal agrees with what the scribe knows; in streams not yet made no number was assigned.
pub record Knows (log : Journal) (made : ℕ) (streams : List Known) : Type 0 where
  pub made_is : made_count log ≡ made
  pub live : live_streams log ≡ map (λ (v : Known). v.no) streams
  pub known : AllByRecursion (IsKnown log) streams
  pub unmade : (s : ℕ) → made < s → next_number log s ≡ 1

-- The scribe represents the history: its clock, and the streams of its journal.
pub record StandsFor (s : ScribeValue) (h : List Turn) : Type 0 where
  pub clock_is : clock h ≡ s.clock
  pub knows : Knows (journal h) s.made s.streams

-- ---- What an entry changes in the scribe's knowledge

-- The stream after the entry: only its puts, splits and merges change its last numbers.
abbrev pub renumbered : (entry : Entry) (v : Known) → Known
renumbered (entry.Put s sh number hash bytes key_bytes) v = if s == v.no then record v { drawn = number } else v
renumbered (entry.Split s sh key_hash number low high) v =
    if s == v.no then record v { drawn = number; shard = high } else v
renumbered (entry.Merged s sh other number child) v =
    if s == v.no then record v { drawn = number; shard = child } else v
renumbered _ v = v

-- Whether the entry deletes the stream with the number `n`.
abbrev pub is_gone : (entry : Entry) (n : ℕ) → Bool
is_gone (entry.Gone s) n = s == n
is_gone _ n = false

-- The streams after an entry that makes none; a deleted stream is taken out.
abbrev pub changed : (e : Entry) (streams : List Known) → List Known
changed e streams = filter (λ v. not (is_gone e v.no)) (map (renumbered e) streams)

-- The streams after these entries in order, none of which makes a stream.
abbrev pub changed_by : (entries : List Entry) (streams : List Known) → List Known
changed_by [] streams = streams
changed_by (e ∷ entries) streams = changed_by entries (changed e streams)

-- A stream right after it was made with `count` shards.
abbrev pub new_known : (stream : ℕ) (name : List ℕ) (count : ℕ) → Known
new_known stream name count = record { no = stream; name = name; drawn = 0; shard = count - 1 }

-- What the scribe knows after one more stream was made.
abbrev pub with_made : (name : List ℕ) (count : ℕ) (s : ScribeValue) → ScribeValue
with_made name count s = record s { made = s.made + 1; streams = s.streams ++ new_known (s.made + 1) name count ∷ [] }
