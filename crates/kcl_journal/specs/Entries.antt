-- The lines of a journal as text, in both versions; entry readers get the text after the first word.
use Rattle.std.specs.Prelude.{◌≡◌, ◌⊎◌, ℕ, ◌+◌, ◌-◌, ◌^◌, List, [], ◌∷◌, ◌++◌, codes, decimal, flat_map, Bool, true}
use Rattle.std.specs.Prelude.{false, ◌&&◌, ◌==◌, nat_le, if◌then◌else◌, Option, Some, None, option_map, option_and_then}
use Rattle.std.specs.List.{slice_split}
use Rattle.std.specs.Str.{bytes_eq}
use Rattle.kds_base.specs.Names.{name_of}
use Rattle.kds_base.specs.NumberText.{number_of}
use Rattle.kds_defs.specs.declared.entry.Entry.{Entry}
use Rattle.kds_defs.specs.declared.entry.Entry.TheVariants as entry
use Rattle.kds_defs.specs.declared.limits.TheConstants.{MOST, LEAST_SHARDS, MOST_SHARDS, LEAST_HOURS, MOST_HOURS}
use Rattle.kds_defs.specs.declared.limits.TheConstants.{RECORD_BYTES}
use Rattle.kcl_script_fields.specs.Commands.{row_of, target_of, target_text}
use Rattle.kds_base.specs.Moments.{moment_of}
use Rattle.kcl_script_fields.specs.Fields.{◌>>=◌, field, two, number, greatest32, worker_of, worker_text}
use Rattle.kcl_script_fields.specs.Fields.{key_of, key_text}
use Rattle.kcl_script_fields.specs.Origins.{origin_text}
use Rattle.kcl_journal.specs.declared.line.EntryLine.{EntryLine}
use Rattle.kcl_journal.specs.declared.line.TheConstants.{FIRST_RECORD_BYTES, FIRST_VERSION, KEY_BYTES, VERSION}
use Rattle.kcl_journal.specs.Ranges.{is_first}

-- The first or the second version of a journal's text.
abbrev pub IsVersion : (version : ℕ) → Type 0
IsVersion version = (version ≡ FIRST_VERSION) ⊎ (version ≡ VERSION)

-- The first line in the second version, without line feed; the first version has no such line.
abbrev pub heading : List ℕ
heading = codes "journal 2"

-- ---- Numbers in a range, and hash keys

-- The number, if it is from `least` to `most`, both included.
abbrev pub within : (least most n : ℕ) → Option ℕ
within least most n = if nat_le least n && nat_le n most then Some n else None

-- The decimal number from `least` to `most`, both included, if the text is one.
abbrev pub within_of : (least most : ℕ) (text : List ℕ) → Option ℕ
within_of least most text = option_and_then (within least most) (number text)

-- The greatest number of 64 bits.
abbrev pub greatest64 : ℕ
greatest64 = 2 ^ 64 - 1

-- A row's counter after a write: at least 1, and 64 bits.
abbrev pub counter_of : (text : List ℕ) → Option ℕ
counter_of text = within_of 1 greatest64 text

-- The decimal hash key, below 2^128, if the text is one.
abbrev pub hash_of : (text : List ℕ) → Option ℕ
hash_of text = number_of 128 text

-- ---- The sizes of a put: `BYTES` in the first version, `BYTES KEYBYTES` in the second

-- The byte counts of payload and key, if they are together at most `RECORD_BYTES`.
abbrev pub fitting : (p : ℕ × ℕ) → Option (ℕ × ℕ)
fitting p = if nat_le (p.0 + p.1) RECORD_BYTES then Some p else None

-- The byte counts of payload and key; the first version (true) has no count for the key, read as 0.
abbrev pub sizes_by : (has_sizes : Bool) (text : List ℕ) → Option (ℕ × ℕ)
sizes_by true text = option_map (λ n. (n, 0)) (within_of 0 FIRST_RECORD_BYTES text)
sizes_by false text = option_and_then fitting (two 32 (within_of 0 RECORD_BYTES) (within_of 1 KEY_BYTES) text)

-- The byte counts of payload and key that a text in this version has.
abbrev pub sizes_of : (version : ℕ) (text : List ℕ) → Option (ℕ × ℕ)
sizes_of version text = sizes_by (is_first version) text

-- The text of the byte counts; the first version (true) leaves the key's count out.
abbrev pub sizes_text_by : (has_sizes : Bool) (p : ℕ × ℕ) → List ℕ
sizes_text_by true p = decimal p.0
sizes_text_by false p = decimal p.0 ++ 32 ∷ decimal p.1

-- The text of the byte counts of payload and key in this version.
abbrev pub sizes_text : (version : ℕ) (p : ℕ × ℕ) → List ℕ
sizes_text version p = sizes_text_by (is_first version) p

-- ---- Whether the limits on throughput are on

-- Whether the limits are on, from `on` or `off`.
abbrev pub switch_of : (text : List ℕ) → Option Bool
switch_of text =
    if bytes_eq text (codes "on") then Some true
    else if bytes_eq text (codes "off") then Some false
    else None

-- The word `on` or `off` for the limits.
abbrev pub switch_text : (is_on : Bool) → List ℕ
switch_text is_on = if is_on then codes "on" else codes "off"

-- ---- The batch of a read: `more` or `end`, and then the sequence number of each record

-- Whether the byte is a space.
abbrev pub is_space : (b : ℕ) → Bool
is_space b = b == 32

-- The parts of the text between single spaces.
abbrev pub words : (text : List ℕ) → List (List ℕ)
words text = slice_split is_space text

-- The numbers of the words in order, or None if a word isn't one.
abbrev pub numbers_of : (ws : List (List ℕ)) → Option (List ℕ)
numbers_of [] = Some []
numbers_of (w ∷ ws) = number w >>= λ n. option_map (λ ns. n ∷ ns) (numbers_of ws)

-- Whether a read ended the shard, from `end` (it did) or `more`.
abbrev pub ended_of : (text : List ℕ) → Option Bool
ended_of text =
    if bytes_eq text (codes "end") then Some true
    else if bytes_eq text (codes "more") then Some false
    else None

-- A read's batch from words: `end` or `more`, then sequence numbers; None for another form.
abbrev pub batch_from : (ws : List (List ℕ)) → Option (Bool × List ℕ)
batch_from [] = None
batch_from (w ∷ ws) = ended_of w >>= λ ended. option_map (λ ns. (ended, ns)) (numbers_of ws)

-- A read's batch from its text: whether the read ended the shard, and its sequence numbers.
abbrev pub batch_of : (text : List ℕ) → Option (Bool × List ℕ)
batch_of text = batch_from (words text)

-- The word `end` if the read ended the shard, or else `more`.
abbrev pub ended_text : (ended : Bool) → List ℕ
ended_text ended = if ended then codes "end" else codes "more"

-- The sequence numbers, each with a space before it.
abbrev pub numbers_text : (ns : List ℕ) → List ℕ
numbers_text ns = flat_map (λ n. 32 ∷ decimal n) ns

-- ---- Entries, read from the text after their first word

-- Reads `made STREAM NAME SHARDS` after the first word.
abbrev pub made_of : (text : List ℕ) → Option Entry
made_of text = option_map (λ a. entry.Made a.0 a.1.0 a.1.1)
    (two 32 number (two 32 name_of (within_of LEAST_SHARDS MOST_SHARDS)) text)

-- Reads `gone STREAM` after the first word.
abbrev pub gone_of : (text : List ℕ) → Option Entry
gone_of text = option_map (λ s. entry.Gone s) (number text)

-- Reads `put STREAM SHARD SEQ HASH BYTES` after the first word, with KEYBYTES in the second version.
abbrev pub put_of : (version : ℕ) (text : List ℕ) → Option Entry
put_of version text =
    option_map (λ a. entry.Put a.0 a.1.0 a.1.1.0 a.1.1.1.0 a.1.1.1.1.0 a.1.1.1.1.1)
    (two 32 number (two 32 number (two 32 number (two 32 hash_of (sizes_of version)))) text)

-- Reads `split STREAM SHARD AT SEQ LOW HIGH` after the first word.
abbrev pub split_of : (text : List ℕ) → Option Entry
split_of text =
    option_map (λ a. entry.Split a.0 a.1.0 a.1.1.0 a.1.1.1.0 a.1.1.1.1.0 a.1.1.1.1.1)
    (two 32 number (two 32 number (two 32 hash_of (two 32 number (two 32 number number)))) text)

-- Reads `merged STREAM SHARD OTHER SEQ CHILD` after the first word.
abbrev pub merged_of : (text : List ℕ) → Option Entry
merged_of text =
    option_map (λ a. entry.Merged a.0 a.1.0 a.1.1.0 a.1.1.1.0 a.1.1.1.1)
    (two 32 number (two 32 number (two 32 number (two 32 number number))) text)

-- Reads `kept STREAM HOURS` after the first word.
abbrev pub kept_of : (text : List ℕ) → Option Entry
kept_of text = option_map (λ a. entry.Kept a.0 a.1) (two 32 number (within_of LEAST_HOURS MOST_HOURS) text)

-- Reads `enforced STREAM on` or `enforced STREAM off` after the first word.
abbrev pub enforced_of : (text : List ℕ) → Option Entry
enforced_of text = option_map (λ a. entry.Enforced a.0 a.1) (two 32 number switch_of text)

-- Reads `lease KEY` (origin TRIM_HORIZON), `lease KEY latest` or `lease KEY time M` after the first word.
abbrev pub lease_of : (text : List ℕ) → Option Entry
lease_of text = option_map (λ a. entry.LeaseMade a.0 a.1) (row_of text)

-- Reads `taken KEY TENURE COUNTER wN` after the first word; N is the worker's number.
abbrev pub taken_of : (text : List ℕ) → Option Entry
taken_of text =
    option_map (λ a. entry.Taken a.0 a.1.0 a.1.1.0 a.1.1.1)
    (two 32 key_of (two 32 number (two 32 counter_of worker_of)) text)

-- Reads `renewed T C` after the first word, with tenure T and new counter C.
abbrev pub renewed_of : (text : List ℕ) → Option Entry
renewed_of text = option_map (λ a. entry.Renewed a.0 a.1) (two 32 number counter_of text)

-- Reads `freed T C` after the first word, with tenure T and new counter C.
abbrev pub freed_of : (text : List ℕ) → Option Entry
freed_of text = option_map (λ a. entry.Freed a.0 a.1) (two 32 number counter_of text)

-- Reads `opened T` after the first word, with tenure T.
abbrev pub opened_of : (text : List ℕ) → Option Entry
opened_of text = option_map (λ t. entry.Opened t) (number text)

-- Reads `read T LIMIT more` or `read T LIMIT end`, then sequence numbers, after the first word.
abbrev pub read_of : (text : List ℕ) → Option Entry
read_of text =
    option_map (λ a. entry.Read a.0 a.1.0 a.1.1.0 a.1.1.1) (two 32 number (two 32 (within_of 1 MOST) batch_of) text)

-- Reads `given T` after the first word, with tenure T.
abbrev pub given_of : (text : List ℕ) → Option Entry
given_of text = option_map (λ t. entry.Given t) (number text)

-- Reads `marked T C Q` or `marked T C end` after the first word, with new counter C.
abbrev pub marked_of : (text : List ℕ) → Option Entry
marked_of text = option_map (λ a. entry.Marked a.0 a.1.0 a.1.1) (two 32 number (two 32 counter_of target_of) text)

-- Reads `cut KEY COUNTER` after the first word.
abbrev pub cut_of : (text : List ℕ) → Option Entry
cut_of text = option_map (λ a. entry.LeaseCut a.0 a.1) (two 32 key_of number text)

-- The lease entry with this first word, read from the `text` after it.
abbrev pub lease_by : (word text : List ℕ) → Option Entry
lease_by word text =
    if bytes_eq word (codes "lease") then lease_of text
    else if bytes_eq word (codes "taken") then taken_of text
    else if bytes_eq word (codes "renewed") then renewed_of text
    else if bytes_eq word (codes "freed") then freed_of text
    else if bytes_eq word (codes "opened") then opened_of text
    else if bytes_eq word (codes "read") then read_of text
    else if bytes_eq word (codes "given") then given_of text
    else if bytes_eq word (codes "marked") then marked_of text
    else if bytes_eq word (codes "cut") then cut_of text
    else None

-- The entry in this version with this first word, read from the `text` after it.
abbrev pub entry_by : (version : ℕ) (word text : List ℕ) → Option Entry
entry_by version word text =
    if bytes_eq word (codes "made") then made_of text
    else if bytes_eq word (codes "gone") then gone_of text
    else if bytes_eq word (codes "put") then put_of version text
    else if bytes_eq word (codes "split") then split_of text
    else if bytes_eq word (codes "merged") then merged_of text
    else if bytes_eq word (codes "kept") then kept_of text
    else if bytes_eq word (codes "enforced") then enforced_of text
    else lease_by word text

-- The one text of an entry in this version.
abbrev pub entry_text : (version : ℕ) (entry : Entry) → List ℕ
entry_text version (entry.Made s name count) = codes "made " ++ (decimal s ++ 32 ∷ (name ++ 32 ∷ decimal count))
entry_text version (entry.Gone s) = codes "gone " ++ decimal s
entry_text version (entry.Put s sh number hash bytes key_bytes) =
    codes "put " ++ (decimal s
    ++ 32 ∷ (decimal sh ++ 32
    ∷ (decimal number ++ 32 ∷ (decimal hash ++ 32 ∷ sizes_text version (bytes, key_bytes)))))
entry_text version (entry.Split s sh key_hash number low high) =
    codes "split " ++ (decimal s
    ++ 32 ∷ (decimal sh ++ 32 ∷ (decimal key_hash ++ 32 ∷ (decimal number ++ 32 ∷ (decimal low ++ 32 ∷ decimal high)))))
entry_text version (entry.Merged s sh other number child) =
    codes "merged " ++ (decimal s
    ++ 32 ∷ (decimal sh ++ 32 ∷ (decimal other ++ 32 ∷ (decimal number ++ 32 ∷ decimal child))))
entry_text version (entry.Kept s hours) = codes "kept " ++ (decimal s ++ 32 ∷ decimal hours)
entry_text version (entry.Enforced s is_on) = codes "enforced " ++ (decimal s ++ 32 ∷ switch_text is_on)
entry_text version (entry.LeaseMade key origin) = codes "lease " ++ (key_text key ++ origin_text origin)
entry_text version (entry.Taken key t counter owner) =
    codes "taken " ++ (key_text key ++ 32 ∷ (decimal t ++ 32 ∷ (decimal counter ++ 32 ∷ worker_text owner)))
entry_text version (entry.Renewed t counter) = codes "renewed " ++ (decimal t ++ 32 ∷ decimal counter)
entry_text version (entry.Freed t counter) = codes "freed " ++ (decimal t ++ 32 ∷ decimal counter)
entry_text version (entry.Opened t) = codes "opened " ++ decimal t
entry_text version (entry.Read t limit ended numbers) =
    codes "read " ++ (decimal t ++ 32 ∷ (decimal limit ++ 32 ∷ (ended_text ended ++ numbers_text numbers)))
entry_text version (entry.Given t) = codes "given " ++ decimal t
entry_text version (entry.Marked t counter target) =
    codes "marked " ++ (decimal t ++ 32 ∷ (decimal counter ++ 32 ∷ target_text target))
entry_text version (entry.LeaseCut key counter) = codes "cut " ++ (key_text key ++ 32 ∷ decimal counter)

-- ---- Lines with an entry

-- The journal line from the text `CLOCK BY ENTRY` in this version.
unfoldable pub entry_of : (version : ℕ) (text : List ℕ) → Option EntryLine
entry_of version text = do
  first ← field text
  clock ← moment_of first.0
  second ← field first.1
  actor ← within_of 0 greatest32 second.0
  third ← field second.1
  change ← entry_by version third.0 third.1
  Some (record { clock = clock; by = actor; what = change })

-- The one text of a line in this version.
abbrev pub entry_spelling : (version : ℕ) (line : EntryLine) → List ℕ
entry_spelling version line = decimal line.clock ++ 32 ∷ (decimal line.by ++ 32 ∷ entry_text version line.what)

-- ---- The last line of a journal's text: `end CLOCK`

-- The clock from a journal's last line `end CLOCK`.
unfoldable pub end_of : (text : List ℕ) → Option ℕ
end_of text = do
  p ← field text
  if bytes_eq p.0 (codes "end") then moment_of p.1 else None

-- A journal's last line, with this clock.
abbrev pub end_spelling : (clock : ℕ) → List ℕ
end_spelling clock = codes "end " ++ decimal clock
