-- Which journals a stream shows: those that say of it what its fields hold.
use Rattle.std.specs.Prelude.{ℕ, ◌≡◌, ◌+◌, ◌≤◌, Bool, true, false, ◌||◌, nat_le, List, [], ◌∷◌, length, Option, Some}
use Rattle.std.specs.Prelude.{None, Result}
use Rattle.std.specs.List.{filter}
use Rattle.kds_defs.specs.declared.entry.Entry.TheVariants as entry
use Rattle.kds_defs.specs.declared.limits.TheConstants.{OPEN_SHARDS}
use Rattle.kds_defs.specs.declared.reply.Refusal.{Refusal}
use Rattle.kds_defs.specs.declared.reply.Reply.{Reply}
use Rattle.kds_defs.specs.declared.reply.Reply.TheVariants as reply
use Rattle.kds_defs.specs.Decision.{Accepted, Decision, Refused}
use Rattle.kds_defs.specs.Histories.{answer_of, lines_of}
use Rattle.kds_defs.specs.Journal.{Journal, Line, plain_line, with_lines}
use Rattle.kds_defs.specs.Records.{Logged, left_among, next_number, records}
use Rattle.kds_defs.specs.Shards.{is_open, shards}
use Rattle.kds_defs.specs.Streams.{floor_of, hours, is_live, made_at, name_of, trim_floor, was_made}
use Rattle.kds_log.specs.Log.{LogValue}
use Rattle.kds_stream.specs.Rating.{ShowsRates}
use Rattle.kds_stream.specs.Value.{StreamValue}

-- Of `rs`, only records that arrived before `floor` are missing in `kept`.
pub record IsKept (floor : ℕ) (rs kept : List Logged) : Type 0 where
  pub from : ℕ
  pub early : from ≤ floor
  pub rest : kept ≡ left_among from 0 rs

-- The logs keep the records of the shards from `n` on, except for some that arrived before `floor`.
abbrev pub AreKept : (floor : ℕ) (log : Journal) (s n : ℕ) (ls : List LogValue) → Type 0
AreKept floor log s n [] = Unit {0}
AreKept floor log s n (l ∷ ls) = IsKept floor (records log s n) l.kept × AreKept floor log s (n + 1) ls

-- The stream without throughput, without the clock and cut of a retreat, and without what is settled next.
abbrev pub bare : (v : StreamValue) → StreamValue
bare v = record v { windows = []; enforced = false; clock_before = 0; cut_before = None; next_to_settle = 0 }

-- The journal says of the stream what its fields hold, throughput aside; logs may lack trimmed records.
pub record ShowsFields (v : StreamValue) (log : Journal) : Type 0 where
  pub live : is_live log v.no ≡ true
  pub was : was_made log v.no ≡ true
  pub named : name_of log v.no ≡ v.name
  pub made_is : made_at log v.no ≡ v.made_at
  pub hours_are : hours log v.no ≡ v.hours
  pub shards_are : shards log v.no ≡ v.tree
  pub next_is : next_number log v.no ≡ v.next
  pub floor_is : trim_floor log v.clock v.no ≡ floor_of v.cut
  pub kept : AreKept (floor_of v.cut) log v.no 0 v.logs
  pub none_beyond : (sh : ℕ) → length v.tree ≤ sh → records log v.no sh ≡ []

-- The stream shows the journal, without regard to the parts that `bare` removes.
abbrev pub ShowsStored : (v : StreamValue) (log : Journal) → Type 0
ShowsStored v log = ShowsFields (bare v) log

-- The stream's fields, windows and limits fit what the journal says of it.
pub record Shows (v : StreamValue) (log : Journal) : Type 0 where
  pub stored : ShowsStored v log
  pub rates : ShowsRates log v.no v.enforced (length v.tree) v.windows

-- After each journal that the stream showed, the answer is the decision's, and it then shows its lines too.
abbrev pub Decides : (old new : StreamValue) (gives : Result Reply Refusal) (d : Journal → ℕ → Decision) → Type 0
Decides old new gives d = (log : Journal) (actor : ℕ) → Shows old log → (gives ≡ answer_of (d log actor))
    × Shows new (with_lines (lines_of (d log actor)) log)

-- The decision is the refusal, if there is one, and otherwise accepts with `line` and the reply `Done`.
abbrev pub IsDecidedBy : (r : Option Refusal) (line : Line) (d : Decision) → Type 0
IsDecidedBy (Some r) line d = d ≡ Refused r
IsDecidedBy None line d = d ≡ Accepted (line ∷ []) reply.Done

-- After every journal that `v` shows, `o` decides: its refusal, or else acceptance with the one line.
abbrev pub RefusesAs : (v : StreamValue) (o : Option Refusal) (line : Journal → ℕ → ℕ → ℕ → Line)
    (d : Journal → ℕ → ℕ → ℕ → Decision) → Type 0
RefusesAs v o line d = (log : Journal) (actor : ℕ) → Shows v log
    → IsDecidedBy o (line log v.clock actor v.no) (d log v.clock actor v.no)

-- Whether no further shard may be open in the stream, by its own limit or `OPEN_SHARDS`.
abbrev pub is_full : (v : StreamValue) (open_limit : ℕ) → Bool
is_full v open_limit =
    nat_le open_limit (length (filter is_open v.tree)) || nat_le OPEN_SHARDS (length (filter is_open v.tree))

-- ---- The lines of a split and of a merge

-- The line of a split of shard `sh` at the key `hash`, with the stream's next numbers.
abbrev pub split_line : (log : Journal) (c actor s sh hash : ℕ) → Line
split_line log c actor s sh hash =
    plain_line c actor (entry.Split s sh hash (next_number log s) (length (shards log s)) (length (shards log s) + 1))

-- The line of a merge of two shards of stream `s`, with the stream's next numbers.
abbrev pub merge_line : (log : Journal) (c actor s sh other : ℕ) → Line
merge_line log c actor s sh other =
    plain_line c actor (entry.Merged s sh other (next_number log s) (length (shards log s)))
