-- The commands that read streams: their refusals in order, and their replies.
use Rattle.std.specs.Prelude.{ℕ, ◌+◌, ◌-◌, Bool, true, false, ◌&&◌, not, is_none, nat_le, nat_lt, if◌then◌else◌, List}
use Rattle.std.specs.Prelude.{[], ◌∷◌, ◌++◌, length, map, take, Option, Some, None}
use Rattle.std.specs.List.{filter}
use Rattle.std.specs.Cmp.Lexicographic.{slice_cmp}
use Rattle.std.specs.Ordering.{nat_cmp}
use Rattle.std.specs.declared.cmp.Ordering.{Ordering}
use Rattle.std.specs.declared.cmp.Ordering.TheVariants.{Less, Equal, Greater}
use Rattle.kds_defs.specs.declared.command.Start.{Start}
use Rattle.kds_defs.specs.declared.command.Start.TheVariants as start
use Rattle.kds_defs.specs.declared.limits.TheConstants.{TOKEN_LIFE}
use Rattle.kds_base.specs.declared.lease_key.ShardRef.{ShardRef}
use Rattle.kds_defs.specs.declared.reply.About.{About}
use Rattle.kds_defs.specs.declared.reply.Iter.{Iter}
use Rattle.kds_defs.specs.declared.reply.Page.{Page}
use Rattle.kds_defs.specs.declared.reply.Shard.{Shard}
use Rattle.kds_defs.specs.declared.reply.Refusal.TheVariants as refusal
use Rattle.kds_defs.specs.declared.reply.Reply.TheVariants as reply
use Rattle.kds_defs.specs.Decision.{Decision, Accepted, refuse◌if◌else◌, with◌or◌then◌}
use Rattle.kds_defs.specs.Journal.{Journal}
use Rattle.kds_defs.specs.Keys.{ref}
use Rattle.kds_defs.specs.Records.{Logged, next_number, left_from, batch, numbers_of, position_after, stored, first_at}
use Rattle.kds_defs.specs.Shards.{ShardState, shard_at, Closing, is_listed, listed_shards, open_shards, children, shown}
use Rattle.kds_defs.specs.Streams.{is_live, live_streams, name_of, made_at, hours}

-- Whether a list has more than `limit` elements.
abbrev pub are_more : {A : Type 0} → (limit : ℕ) (xs : List A) → Bool
are_more limit xs = nat_lt limit (length xs)

-- ---- ListStreams

-- Whether the first of two compared values is less.
abbrev pub is_less : (ordering : Ordering) → Bool
is_less Less = true
is_less Equal = false
is_less Greater = false

-- Whether `a` comes before `b`, byte by byte.
abbrev pub name_before : (a b : List ℕ) → Bool
name_before a b = is_less (slice_cmp nat_cmp a b)

-- The names with one more, inserted before the first name that comes after it.
abbrev pub with_name : (name : List ℕ) (names : List (List ℕ)) → List (List ℕ)
with_name name [] = name ∷ []
with_name name (n ∷ names) = if name_before name n then name ∷ n ∷ names else n ∷ with_name name names

-- The names in the order of their bytes.
abbrev pub names_in_order : (names : List (List ℕ)) → List (List ℕ)
names_in_order [] = []
names_in_order (name ∷ names) = with_name name (names_in_order names)

-- Whether `name` comes after `after`; every name does if that is `None`.
abbrev pub is_after_name : (after : Option (List ℕ)) (name : List ℕ) → Bool
is_after_name None name = true
is_after_name (Some after) name = name_before after name

-- The names of live streams after `after` (all for `None`), in the order of their bytes (ListStreams).
abbrev pub names_after : (log : Journal) (after : Option (List ℕ)) → List (List ℕ)
names_after log after = filter (is_after_name after) (names_in_order (map (name_of log) (live_streams log)))

-- The decision on ListStreams: the first `limit` names after `after`, and whether there are more.
abbrev pub streams : (log : Journal) (after : Option (List ℕ)) (limit : ℕ) → Decision
streams log after limit =
    Accepted [] (reply.Streams (take limit (names_after log after)) (are_more limit (names_after log after)))

-- ---- DescribeStream, DescribeStreamSummary and ListShards for a live stream

-- What replies say of a stream: its name, the time at which it was made, and its retention in hours.
abbrev pub about : (log : Journal) (s : ℕ) → About
about log s = record { name = name_of log s; made = made_at log s; hours = hours log s }

-- Whether the shard's number is greater than `after`; always so if that is `None`.
abbrev pub is_after_shard : (after : Option ℕ) (x : ShardState) → Bool
is_after_shard None x = true
is_after_shard (Some after) x = nat_lt after x.no

-- The listed shards with numbers above `after`, or all of them if that is `None`, as replies show them.
abbrev pub shards_from : (log : Journal) (c s : ℕ) (after : Option ℕ) → List Shard
shards_from log c s after = map shown (filter (is_after_shard after) (listed_shards log c s))

-- The decision on DescribeStream: the stream, its first `limit` listed shards after `after`, whether more follow.
abbrev pub describe : (log : Journal) (c s : ℕ) (after : Option ℕ) (limit : ℕ) → Decision
describe log c s after limit =
    Accepted [] (reply.Described (about log s) (take limit (shards_from log c s after))
    (are_more limit (shards_from log c s after)))

-- The decision on DescribeStreamSummary: the stream, and the number of its open shards.
abbrev pub summary : (log : Journal) (s : ℕ) → Decision
summary log s = Accepted [] (reply.Summary (about log s) (length (open_shards log s)))

-- The number of the last shard, or 0 if there is none.
abbrev pub last_no : (xs : List Shard) → ℕ
last_no [] = 0
last_no (x ∷ []) = x.no
last_no (x ∷ y ∷ xs) = last_no (y ∷ xs)

-- The decision on ListShards: the first `limit` listed shards after `after`, and a token if there are more.
abbrev pub list_shards : (log : Journal) (c s : ℕ) (after : Option ℕ) (limit : ℕ) → Decision
list_shards log c s after limit =
    Accepted [] (reply.Shards (take limit (shards_from log c s after))
    (if are_more limit (shards_from log c s after)
    then Some (record { stream = s; after = last_no (take limit (shards_from log c s after)); issued = c })
    else None))

-- Whether a shard iterator or token, issued at `issued`, is older than `TOKEN_LIFE` milliseconds.
abbrev pub is_expired_token : (c issued : ℕ) → Bool
is_expired_token c issued = nat_lt TOKEN_LIFE (c - issued)

-- The decision on ListShards with a token: the next page of at most `limit` shards.
abbrev pub more : (log : Journal) (c : ℕ) (page : Page) (limit : ℕ) → Decision
more log c page limit =
    refuse refusal.PageExpired if is_expired_token c page.issued else
    refuse refusal.NoStream if not (is_live log page.stream) else
    list_shards log c page.stream (Some page.after) limit

-- ---- GetShardIterator for a live stream

-- Whether an iterator may begin at `q` (AT_SEQUENCE_NUMBER): from the shard's start to its end,
-- or to the stream's next sequence number if the shard is open; both bounds are included.
abbrev pub is_good_at : (first next q : ℕ) (closing : Option Closing) → Bool
is_good_at first next q None = nat_le first q && nat_le q next
is_good_at first next q (Some closing) = nat_le first q && nat_le q closing.number

-- Whether an iterator may begin after `q` (AFTER_SEQUENCE_NUMBER): as `is_good_at`, but below `next` if open.
abbrev pub is_good_after : (first next q : ℕ) (closing : Option Closing) → Bool
is_good_after first next q None = nat_le first q && nat_lt q next
is_good_after first next q (Some closing) = nat_le first q && nat_le q closing.number

-- Whether an iterator may have this start; only a start with a sequence number may be out of range.
abbrev pub is_good_start : (start : Start) (next : ℕ) (x : ShardState) → Bool
is_good_start (start.At q) next x = is_good_at x.start next q x.closing
is_good_start (start.After q) next x = is_good_after x.start next q x.closing
is_good_start start.TrimHorizon next x = true
is_good_start start.Latest next x = true
is_good_start (start.Time moment) next x = true

-- The position from which an iterator reads; for a time, the first untrimmed record that arrived then or later,
-- or the stream's next sequence number if no record did.
abbrev pub position_of : (log : Journal) (c s sh : ℕ) (start : Start) → ℕ
position_of log c s sh (start.At q) = q
position_of log c s sh (start.After q) = q + 1
position_of log c s sh start.TrimHorizon = 0
position_of log c s sh start.Latest = next_number log s
position_of log c s sh (start.Time moment) = first_at (left_from log c s sh 0) moment (next_number log s)

-- An iterator that is issued at the clock `c` and reads from `position` on.
abbrev pub iterator_at : (c s sh position : ℕ) → Iter
iterator_at c s sh position = record { stream = s; shard = sh; position = position; issued = c }

-- The decision on GetShardIterator.
abbrev pub get_iterator : (log : Journal) (c s sh : ℕ) (first : Start) → Decision
get_iterator log c s sh first =
    refuse refusal.NoShard if not (is_listed log c s sh) else
    with shard_at log s sh or refusal.NoShard then λ x.
    refuse refusal.BadNumber if not (is_good_start first (next_number log s) x) else
    Accepted [] (reply.Iterator (iterator_at c s sh (position_of log c s sh first)))

-- ---- GetRecords

-- Whether there is a shard, and it is closed.
abbrev pub is_closed_at : (x : Option ShardState) → Bool
is_closed_at None = false
is_closed_at (Some x) = not (is_none x.closing)

-- Whether a list is empty.
abbrev pub are_none : {A : Type 0} → (xs : List A) → Bool
are_none [] = true
are_none (x ∷ xs) = false

-- Whether reading ends at `position`: the shard is closed and has no untrimmed record from there on.
abbrev pub ends_at : (log : Journal) (c s sh position : ℕ) → Bool
ends_at log c s sh position = is_closed_at (shard_at log s sh) && are_none (left_from log c s sh position)

-- How many milliseconds before the clock the first record arrived, or 0 if there is none.
abbrev pub behind : (c : ℕ) (rs : List Logged) → ℕ
behind c [] = 0
behind c (r ∷ rs) = c - r.arrival

-- The decision on a GetRecords that returns `rs`: at the shard's end with its children, else with an iterator.
abbrev pub records_reply : (log : Journal) (c s sh : ℕ) (rs : List Logged) (position : ℕ) → Decision
records_reply log c s sh rs position =
    Accepted [] (if ends_at log c s sh position
    then reply.Records (map stored rs) None (behind c (left_from log c s sh position)) (map shown (children log s sh))
    else reply.Records (map stored rs) (Some (iterator_at c s sh position))
    (behind c (left_from log c s sh position)) [])

-- The decision on GetRecords, which reads at most `limit` records from the iterator's position on.
abbrev pub get_records : (log : Journal) (c : ℕ) (iter : Iter) (limit : ℕ) → Decision
get_records log c iter limit =
    refuse refusal.Expired if is_expired_token c iter.issued else
    refuse refusal.NoStream if not (is_live log iter.stream) else
    refuse refusal.NoShard if not (is_listed log c iter.stream iter.shard) else
    let rs = batch log c iter.stream iter.shard iter.position limit in
    records_reply log c iter.stream iter.shard rs (position_after iter.position (numbers_of rs))

-- ---- The shards in the reply to Survey

-- The keys of these shards of stream `s`.
abbrev pub refs_of : (s : ℕ) (xs : List ShardState) → List ShardRef
refs_of s xs = map (λ x. ref s x.no) xs

-- The keys of the listed shards of these streams, in order if the streams are.
abbrev pub listed_in : (log : Journal) (c : ℕ) (streams : List ℕ) → List ShardRef
listed_in log c [] = []
listed_in log c (s ∷ streams) = refs_of s (listed_shards log c s) ++ listed_in log c streams
