-- What a journal says of its streams: which are live, their names and retention, and what is trimmed.
use Rattle.std.specs.Prelude.{ℕ, zero, suc, ◌+◌, ◌-◌, ◌*◌, max, Bool, false, ◌==◌, ◌&&◌, ◌||◌, not, nat_lt}
use Rattle.std.specs.Prelude.{if◌then◌else◌, nat_eq, List, [], ◌∷◌, Option, Some, None}
use Rattle.std.specs.List.{filter, find}
use Rattle.std.specs.Cmp.Lexicographic.{pointwise}
use Rattle.kds_defs.specs.declared.entry.Entry.{Entry}
use Rattle.kds_defs.specs.declared.entry.Entry.TheVariants as entry
use Rattle.kds_defs.specs.declared.limits.TheConstants.{FIRST_HOURS, HOUR}
use Rattle.kds_defs.specs.Journal.{Line, Journal}

-- Whether two names have the same bytes.
abbrev pub same_name : (a b : List ℕ) → Bool
same_name a b = pointwise nat_eq a b

-- ---- Each reading (projection) of a journal has two parts: its value for no lines, and how a line changes it

-- The value of `made_count` after an entry.
abbrev pub made_count_after : (entry : Entry) (old : ℕ) → ℕ
made_count_after (entry.Made stream name shards) old = old + 1
made_count_after _ old = old

-- The number of streams made so far; streams are numbered from 1.
abbrev pub made_count : (log : Journal) → ℕ
made_count [] = 0
made_count (line ∷ log) = made_count_after line.what (made_count log)

-- The value of `was_made` after an entry.
abbrev pub was_made_after : (entry : Entry) (s : ℕ) (old : Bool) → Bool
was_made_after (entry.Made stream name shards) s old = (stream == s) || old
was_made_after _ s old = old

-- Whether the stream was made, even if it has been deleted since.
abbrev pub was_made : (log : Journal) (s : ℕ) → Bool
was_made [] s = false
was_made (line ∷ log) s = was_made_after line.what s (was_made log s)

-- The value of `is_live` after an entry.
abbrev pub is_live_after : (entry : Entry) (s : ℕ) (old : Bool) → Bool
is_live_after (entry.Made stream name shards) s old = (stream == s) || old
is_live_after (entry.Gone stream) s old = not (stream == s) && old
is_live_after _ s old = old

-- Whether the stream was made and not deleted since.
abbrev pub is_live : (log : Journal) (s : ℕ) → Bool
is_live [] s = false
is_live (line ∷ log) s = is_live_after line.what s (is_live log s)

-- The value of `name_of` after an entry.
abbrev pub name_of_after : (entry : Entry) (s : ℕ) (old : List ℕ) → List ℕ
name_of_after (entry.Made stream name shards) s old = if stream == s then name else old
name_of_after _ s old = old

-- The stream's name as bytes; none if it was never made.
abbrev pub name_of : (log : Journal) (s : ℕ) → List ℕ
name_of [] s = []
name_of (line ∷ log) s = name_of_after line.what s (name_of log s)

-- The value of `made_at` after `line` with this entry.
abbrev pub made_at_after : (line : Line) (entry : Entry) (s old : ℕ) → ℕ
made_at_after line (entry.Made stream name shards) s old = if stream == s then line.clock else old
made_at_after line _ s old = old

-- The clock at which the stream was made, or 0 if it never was.
abbrev pub made_at : (log : Journal) (s : ℕ) → ℕ
made_at [] s = 0
made_at (line ∷ log) s = made_at_after line line.what s (made_at log s)

-- The value of `hours` after an entry.
abbrev pub hours_after : (entry : Entry) (s old : ℕ) → ℕ
hours_after (entry.Made stream name shards) s old = if stream == s then FIRST_HOURS else old
hours_after (entry.Kept stream hours) s old = if stream == s then hours else old
hours_after _ s old = old

-- The stream's retention in hours, at first 24 (Kinesis API Reference, IncreaseStreamRetentionPeriod).
abbrev pub hours : (log : Journal) (s : ℕ) → ℕ
hours [] s = FIRST_HOURS
hours (line ∷ log) s = hours_after line.what s (hours log s)

-- The stream's retention in milliseconds.
abbrev pub retention : (log : Journal) (s : ℕ) → ℕ
retention log s = hours log s * HOUR

-- The `count` numbers from `n` on.
abbrev pub numbers_from : (n count : ℕ) → List ℕ
numbers_from n zero = []
numbers_from n (suc count) = n ∷ numbers_from (n + 1) count

-- The numbers of the live streams, in rising order.
abbrev pub live_streams : (log : Journal) → List ℕ
live_streams log = filter (is_live log) (numbers_from 1 (made_count log))

-- The live stream with this name, if there is one.
abbrev pub stream_named : (log : Journal) (name : List ℕ) → Option ℕ
stream_named log name = find (λ s. same_name (name_of log s) name) (live_streams log)

-- ---- Trimming (Kinesis API Reference, retention)

-- The trim floor of a clock and a retention in milliseconds: one above the cut, or 0 if the cut is negative.
abbrev pub floor_at : (clock retention : ℕ) → ℕ
floor_at clock retention = clock + 1 - retention

-- The trim floor that a line gives: the greater of the floors for the retention before and after, at its clock.
abbrev pub floor_after : (log : Journal) (line : Line) (s : ℕ) → ℕ
floor_after log line s =
    if was_made (line ∷ log) s
    then max (floor_at line.clock (retention (line ∷ log) s))
    (if was_made log s then floor_at line.clock (retention log s) else 0)
    else 0

-- The greatest trim floor that the lines give, or 0 without lines; the present clock doesn't count.
abbrev pub floor_of_lines : (log : Journal) (s : ℕ) → ℕ
floor_of_lines [] s = 0
floor_of_lines (line ∷ log) s = max (floor_after log line s) (floor_of_lines log s)

-- The greatest clock + 1 - retention, now or at any line: earlier records are trimmed, shards closed earlier expired.
abbrev pub trim_floor : (log : Journal) (c s : ℕ) → ℕ
trim_floor log c s = max (floor_at c (retention log s)) (floor_of_lines log s)

-- The trim horizon as a time: one below the trim floor, or `None` if that is 0.
abbrev pub cut : (log : Journal) (c s : ℕ) → Option ℕ
cut log c s = if trim_floor log c s == 0 then None else Some (trim_floor log c s - 1)

-- The trim floor of a cut: one above it, or 0 for `None`.
abbrev pub floor_of : (moment : Option ℕ) → ℕ
floor_of None = 0
floor_of (Some moment) = moment + 1

-- Whether what happened at `moment` is trimmed: at or before the cut, or the stream isn't live.
abbrev pub is_trimmed : (log : Journal) (c s moment : ℕ) → Bool
is_trimmed log c s moment = not (is_live log s) || nat_lt moment (trim_floor log c s)
