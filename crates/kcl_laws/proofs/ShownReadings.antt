-- The journal that a text shows has the same streams, shards, sequence numbers, rows and tenures.
use Rattle.std.proofs.Common.{◌≡◌, ℕ, ◌+◌, ◌-◌, ◌*◌, max, Bool, true, false, List, [], ◌∷◌, ◌++◌, length, map}
use Rattle.std.proofs.Common.{slice_get, Option, Some, None, refl, sym, ap, ◌∙◌}
use Rattle.std.specs.Prelude.{◌==◌, ◌&&◌, ◌||◌, not, if◌then◌else◌}
use Rattle.std.specs.Option.{option_map}
use Rattle.std.specs.List.{filter, find}
use Rattle.kds_base.specs.declared.lease_key.ShardRef.{ShardRef}
use Rattle.kds_defs.specs.declared.command.Origin.{Origin}
use Rattle.kds_defs.specs.declared.command.Origin.TheVariants as origin
use Rattle.kds_defs.specs.declared.entry.Entry.{Entry}
use Rattle.kds_defs.specs.declared.entry.Entry.TheVariants as entry
use Rattle.kds_defs.specs.declared.limits.TheConstants.{BATCH_BYTES, HOUR}
use Rattle.kds_defs.specs.declared.reply.Row.{Row}
use Rattle.kcl_laws.specs.Recorded.{bare}
use Rattle.kcl_laws.specs.ShownLines.{shown_journal, shown_line}
use Rattle.kds_defs.specs.Journal.{Line, Journal}
use Rattle.kds_defs.specs.Keys.{ref, same_key}
use Rattle.kds_defs.specs.Leases.{TenureState, made_row, checkpoint_in, freed_row, is_key, key_of, key_of_after}
use Rattle.kds_defs.specs.Leases.{marked_row, new_row, new_tenure, renewed_row, row, row_after, taken_count}
use Rattle.kds_defs.specs.Leases.{taken_count_after, taken_row, tenure, tenure_after, with_given, with_opened}
use Rattle.kds_defs.specs.Leases.{with_read}
use Rattle.kds_defs.specs.Legal.{last_clock}
use Rattle.kds_defs.specs.Listings.{are_none, ends_at, is_closed_at}
use Rattle.kds_defs.specs.LeaseCommands.{counting_origin, follows_parent, parent_reaches_end, row_reaches_end}
use Rattle.kds_defs.specs.Origins.{floor_from, start_from}
use Rattle.kds_defs.specs.PutCommands.{enforced_after, is_enforced}
use Rattle.kds_defs.specs.Rates.{SizedPut, puts, puts_after}
use Rattle.kds_defs.specs.Records.{Logged, batch, beginning, draws, first_at, left_among, left_from, next_number}
use Rattle.kds_defs.specs.Records.{numbers_of, records, records_after}
use Rattle.kds_defs.specs.Shards.{ShardState, adjacent_of, home, home_among, is_closed_below, is_listed}
use Rattle.kds_defs.specs.Shards.{is_listed_state, is_open, open_count, open_in, parent_of, shard_at, shards}
use Rattle.kds_defs.specs.Shards.{shards_after, start_of}
use Rattle.kds_defs.specs.Streams.{floor_at, floor_of_lines, hours, hours_after, is_live, is_live_after, live_streams}
use Rattle.kds_defs.specs.Streams.{made_count, made_count_after, name_of, name_of_after, numbers_from, same_name}
use Rattle.kds_defs.specs.Streams.{stream_named, trim_floor, was_made, was_made_after}
use Rattle.kcl_laws.proofs.BareRecords.{beginning_bare, first_bare, left_bare, none_bare, numbers_bare}

pub clock_is : (log : Journal) → last_clock (shown_journal log) ≡ last_clock log
clock_is [] = refl
clock_is (line ∷ log) = refl

-- ---- Streams

pub made_is : (log : Journal) → made_count (shown_journal log) ≡ made_count log
made_is [] = refl
made_is (line ∷ log) = ap (made_count_after line.what) (made_is log)

was_is : (log : Journal) (s : ℕ) → was_made (shown_journal log) s ≡ was_made log s
was_is [] s = refl
was_is (line ∷ log) s = ap (was_made_after line.what s) (was_is log s)

pub live_is : (log : Journal) (s : ℕ) → is_live (shown_journal log) s ≡ is_live log s
live_is [] s = refl
live_is (line ∷ log) s = ap (is_live_after line.what s) (live_is log s)

name_is : (log : Journal) (s : ℕ) → name_of (shown_journal log) s ≡ name_of log s
name_is [] s = refl
name_is (line ∷ log) s = ap (name_of_after line.what s) (name_is log s)

pub hours_is : (log : Journal) (s : ℕ) → hours (shown_journal log) s ≡ hours log s
hours_is [] s = refl
hours_is (line ∷ log) s = ap (hours_after line.what s) (hours_is log s)

floor_is : (log : Journal) (s : ℕ) → floor_of_lines (shown_journal log) s ≡ floor_of_lines log s
floor_is [] s = refl
floor_is (line ∷ log) s =
    λ i. max (if was_is (line ∷ log) s i then max (floor_at line.clock (hours_is (line ∷ log) s i * HOUR))
    (if was_is log s i then floor_at line.clock (hours_is log s i * HOUR) else 0) else 0) (floor_is log s i)

trim_is : (log : Journal) (c s : ℕ) → trim_floor (shown_journal log) c s ≡ trim_floor log c s
trim_is log c s = λ i. max (floor_at c (hours_is log s i * HOUR)) (floor_is log s i)

pub streams_are : (log : Journal) → live_streams (shown_journal log) ≡ live_streams log
streams_are log = λ i. filter (λ s. live_is log s i) (numbers_from 1 (made_is log i))

pub named_is : (log : Journal) (name : List ℕ) → stream_named (shown_journal log) name ≡ stream_named log name
named_is log name = λ i. find (λ s. same_name (name_is log s i) name) (streams_are log i)

-- ---- Shards

pub next_is : (log : Journal) (s : ℕ) → next_number (shown_journal log) s ≡ next_number log s
next_is [] s = refl
next_is (line ∷ log) s = ap (λ n. draws line.what s + n) (next_is log s)

line_is : (line : Line) (change : Entry) (s start : ℕ) (old : List ShardState)
    → shards_after (shown_line line) change s start old ≡ shards_after line change s start old
line_is line (entry.Made a name count) s start old = refl
line_is line (entry.Split a sh hash number low high) s start old = refl
line_is line (entry.Merged a sh other number child) s start old = refl
line_is line _ s start old = refl

pub shards_are : (log : Journal) (s : ℕ) → shards (shown_journal log) s ≡ shards log s
shards_are [] s = refl
shards_are (line ∷ log) s =
    line_is line line.what s (next_number (shown_journal (line ∷ log)) s) (shards (shown_journal log) s)
    ∙ (λ i. shards_after line line.what s (next_is (line ∷ log) s i) (shards_are log s i))

pub home_is : (log : Journal) (s k : ℕ) → home (shown_journal log) s k ≡ home log s k
home_is log s k = λ i. home_among (filter is_open (shards_are log s i)) k

open_list : (log : Journal) (ss : List ℕ) → open_in (shown_journal log) ss ≡ open_in log ss
open_list log [] = refl
open_list log (s ∷ ss) = λ i. length (filter is_open (shards_are log s i)) + open_list log ss i

pub open_is : (log : Journal) → open_count (shown_journal log) ≡ open_count log
open_is log = ap (open_in (shown_journal log)) (streams_are log) ∙ open_list log (live_streams log)

state_is : (log : Journal) (c s : ℕ) (o : Option ShardState)
    → is_listed_state (shown_journal log) c s o ≡ is_listed_state log c s o
state_is log c s None = refl
state_is log c s (Some x) = λ i. not (not (live_is log s i) || is_closed_below (trim_is log c s i) x)

pub listed_is : (log : Journal) (c s sh : ℕ) → is_listed (shown_journal log) c s sh ≡ is_listed log c s sh
listed_is log c s sh =
    ap (λ (xs : List ShardState). is_listed_state (shown_journal log) c s (slice_get xs sh)) (shards_are log s)
    ∙ state_is log c s (shard_at log s sh)

-- ---- Records, which differ only in their keys and payloads

last_bare : (rs : List Logged) (r : Logged) → map bare (rs ++ r ∷ []) ≡ map bare rs ++ bare r ∷ []
last_bare [] r = refl
last_bare (x ∷ rs) r = ap (λ xs. bare x ∷ xs) (last_bare rs r)

record_one : (line : Line) (change : Entry) (s sh : ℕ) (rs rs' : List Logged) → map bare rs' ≡ map bare rs
    → map bare (records_after (shown_line line) change s sh rs') ≡ map bare (records_after line change s sh rs)
record_one line (entry.Put a shard n hash bytes key_bytes) s sh rs rs' e = cases ((a == s) && (shard == sh))
  where
    stated : List ℕ → List ℕ → Logged
    stated key payload = record {
      seq = n;
      arrival = line.clock;
      bytes = bytes + key_bytes;
      key = key;
      payload = payload;
    }

    x : Logged
    x = stated (shown_line line).key (shown_line line).payload

    y : Logged
    y = stated line.key line.payload

    cases : (b : Bool) → map bare (if b then rs' ++ x ∷ [] else rs') ≡ map bare (if b then rs ++ y ∷ [] else rs)
    cases true = last_bare rs' x ∙ ap (λ xs. xs ++ bare y ∷ []) e ∙ sym (last_bare rs y)
    cases false = e
record_one line _ s sh rs rs' e = e

records_are : (log : Journal) (s sh : ℕ) → map bare (records (shown_journal log) s sh) ≡ map bare (records log s sh)
records_are [] s sh = refl
records_are (line ∷ log) s sh =
    record_one line line.what s sh (records log s sh) (records (shown_journal log) s sh) (records_are log s sh)

left_are : (log : Journal) (c s sh position : ℕ) → map bare (left_from (shown_journal log) c s sh position)
    ≡ map bare (left_from log c s sh position)
left_are log c s sh position =
    (λ i. map bare (if live_is log s i then left_among (trim_is log c s i) position rs' else []))
    ∙ cases (is_live log s)
  where
    rs : List Logged
    rs = records log s sh

    rs' : List Logged
    rs' = records (shown_journal log) s sh

    floor : ℕ
    floor = trim_floor log c s

    cases : (b : Bool) → map bare (if b then left_among floor position rs' else [])
        ≡ map bare (if b then left_among floor position rs else [])
    cases true = left_bare floor position rs' ∙ ap (left_among floor position) (records_are log s sh)
        ∙ sym (left_bare floor position rs)
    cases false = refl

pub numbers_are : (log : Journal) (c s sh position limit : ℕ)
    → numbers_of (batch (shown_journal log) c s sh position limit) ≡ numbers_of (batch log c s sh position limit)
numbers_are log c s sh position limit =
    sym (numbers_bare (batch (shown_journal log) c s sh position limit))
    ∙ ap numbers_of (beginning_bare limit BATCH_BYTES (left_from (shown_journal log) c s sh position))
    ∙ ap (λ rs. numbers_of (beginning limit BATCH_BYTES rs)) (left_are log c s sh position)
    ∙ sym (ap numbers_of (beginning_bare limit BATCH_BYTES (left_from log c s sh position)))
    ∙ numbers_bare (batch log c s sh position limit)

pub ends_is : (log : Journal) (c s sh place : ℕ) → ends_at (shown_journal log) c s sh place ≡ ends_at log c s sh place
ends_is log c s sh place = λ i. is_closed_at (slice_get (shards_are log s i) sh) && none_is i
  where
    none_is : are_none (left_from (shown_journal log) c s sh place) ≡ are_none (left_from log c s sh place)
    none_is = sym (none_bare (left_from (shown_journal log) c s sh place)) ∙ ap are_none (left_are log c s sh place)
        ∙ none_bare (left_from log c s sh place)

first_is : (log : Journal) (c s sh moment otherwise : ℕ)
    → first_at (left_from (shown_journal log) c s sh 0) moment otherwise
    ≡ first_at (left_from log c s sh 0) moment otherwise
first_is log c s sh moment otherwise =
    sym (first_bare (left_from (shown_journal log) c s sh 0) moment otherwise)
    ∙ ap (λ rs. first_at rs moment otherwise) (left_are log c s sh 0)
    ∙ first_bare (left_from log c s sh 0) moment otherwise

-- ---- Throughput

pub enforced_is : (log : Journal) (s : ℕ) → is_enforced (shown_journal log) s ≡ is_enforced log s
enforced_is [] s = refl
enforced_is (line ∷ log) s = ap (enforced_after line.what s) (enforced_is log s)

put_one : (line : Line) (change : Entry) (s sh : ℕ) (old : List SizedPut)
    → puts_after (shown_line line) change s sh old ≡ puts_after line change s sh old
put_one line (entry.Put a shard n hash bytes key_bytes) s sh old = refl
put_one line _ s sh old = refl

pub puts_are : (log : Journal) (s sh : ℕ) → puts (shown_journal log) s sh ≡ puts log s sh
puts_are [] s sh = refl
puts_are (line ∷ log) s sh = put_one line line.what s sh (puts (shown_journal log) s sh)
    ∙ ap (puts_after line line.what s sh) (puts_are log s sh)

-- ---- Rows and tenures

pub taken_is : (log : Journal) → taken_count (shown_journal log) ≡ taken_count log
taken_is [] = refl
taken_is (line ∷ log) = ap (taken_count_after line.what) (taken_is log)

key_is : (log : Journal) (t : ℕ) → key_of (shown_journal log) t ≡ key_of log t
key_is [] t = refl
key_is (line ∷ log) t = λ i. key_of_after line.what t (taken_is log i) (key_is log t i)

floor_from_is : (log : Journal) (c : ℕ) (key : ShardRef) (start : Origin)
    → floor_from (shown_journal log) c key start ≡ floor_from log c key start
floor_from_is log c key origin.TrimHorizon = λ i. start_of (slice_get (shards_are log key.stream i) key.shard)
floor_from_is log c key origin.Latest = next_is log key.stream
floor_from_is log c key (origin.Time moment) =
    ap (first_at (left_from (shown_journal log) c key.stream key.shard 0) moment) (next_is log key.stream)
    ∙ first_is log c key.stream key.shard moment (next_number log key.stream)

made_row_is : (log : Journal) (c : ℕ) (key : ShardRef) (start : Origin)
    → made_row (shown_journal log) c key start ≡ made_row log c key start
made_row_is log c key start =
    λ i. new_row key (floor_from_is log c key start i) (start_from start (floor_from_is log c key start i))
    (parent_of (slice_get (shards_are log key.stream i) key.shard))
    (adjacent_of (slice_get (shards_are log key.stream i) key.shard))

row_one : (log : Journal) (line : Line) (change : Entry) (key : ShardRef) (o o' : Option Row) → o' ≡ o
    → row_after (shown_journal log) (shown_line line) change key o' ≡ row_after log line change key o
row_one log line (entry.LeaseMade k start) key o o' e =
    λ i. if same_key k key then Some (made_row_is log line.clock key start i) else e i
row_one log line (entry.LeaseCut k counter) key o o' e = λ i. if same_key k key then None else e i
row_one log line (entry.Taken k t counter owner) key o o' e =
    λ i. if same_key k key then option_map (taken_row (taken_is log i + 1) owner) (e i) else e i
row_one log line (entry.Renewed t counter) key o o' e =
    λ i. if is_key (key_is log t i) key then option_map renewed_row (e i) else e i
row_one log line (entry.Freed t counter) key o o' e =
    λ i. if is_key (key_is log t i) key then option_map freed_row (e i) else e i
row_one log line (entry.Marked t counter target) key o o' e =
    λ i. if is_key (key_is log t i) key then option_map (marked_row target) (e i) else e i
row_one log line _ key o o' e = e

pub row_is : (log : Journal) (key : ShardRef) → row (shown_journal log) key ≡ row log key
row_is [] key = refl
row_is (line ∷ log) key = row_one log line line.what key (row log key) (row (shown_journal log) key) (row_is log key)

tenure_one : (log : Journal) (line : Line) (change : Entry) (t : ℕ) (o o' : Option TenureState) → o' ≡ o
    → tenure_after (shown_journal log) (shown_line line) change t o' ≡ tenure_after log line change t o
tenure_one log line (entry.Taken key u counter owner) t o o' e =
    λ i. if t == taken_is log i + 1 then Some (new_tenure line.by key (checkpoint_in (row_is log key i))) else e i
tenure_one log line (entry.Opened u) t o o' e = λ i. if u == t then option_map with_opened (e i) else e i
tenure_one log line (entry.Read u limit ended numbers) t o o' e =
    λ i. if u == t then option_map (with_read numbers ended) (e i) else e i
tenure_one log line (entry.Given u) t o o' e = λ i. if u == t then option_map with_given (e i) else e i
tenure_one log line _ t o o' e = e

pub tenure_is : (log : Journal) (t : ℕ) → tenure (shown_journal log) t ≡ tenure log t
tenure_is [] t = refl
tenure_is (line ∷ log) t =
    tenure_one log line line.what t (tenure log t) (tenure (shown_journal log) t) (tenure_is log t)

-- ---- The origin that a new row gets

reaches_is : (log : Journal) (s : ℕ) (o : Option ℕ)
    → parent_reaches_end (shown_journal log) s o ≡ parent_reaches_end log s o
reaches_is log s None = refl
reaches_is log s (Some parent) =
    λ i. row_reaches_end (row_is log (ref s parent) i) (slice_get (shards_are log s i) parent)

follows_is : (log : Journal) (key : ShardRef) → follows_parent (shown_journal log) key ≡ follows_parent log key
follows_is log key =
    λ i. reaches_is log key.stream (parent_of (slice_get (shards_are log key.stream i) key.shard)) i
    || reaches_is log key.stream (adjacent_of (slice_get (shards_are log key.stream i) key.shard)) i

pub origin_is : (log : Journal) (key : ShardRef) (start : Origin)
    → counting_origin (shown_journal log) key start ≡ counting_origin log key start
origin_is log key start = λ i. if follows_is log key i then origin.TrimHorizon else start
