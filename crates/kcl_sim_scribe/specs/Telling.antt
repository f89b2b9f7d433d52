-- The entries that an accepted command adds to the journal, from its reply and the scribe's knowledge.
use Rattle.std.specs.Prelude.{◌≡◌, ℕ, ◌+◌, ◌<◌, ◌≤◌, ◌==◌, Bool, true, false, if◌then◌else◌, List, [], ◌∷◌, length, map}
use Rattle.std.specs.Prelude.{Option, Some, None}
use Rattle.std.specs.List.{filter}
use Rattle.kds_defs.specs.declared.command.Command.{Command}
use Rattle.kds_defs.specs.declared.command.Command.TheVariants as command
use Rattle.kds_defs.specs.declared.command.NewItem.{NewItem}
use Rattle.kds_defs.specs.declared.entry.Entry.{Entry}
use Rattle.kds_defs.specs.declared.entry.Entry.TheVariants as entry
use Rattle.kds_defs.specs.declared.reply.Outcome.{Outcome}
use Rattle.kds_defs.specs.declared.reply.Outcome.TheVariants as outcome
use Rattle.kds_defs.specs.declared.reply.Place.{Place}
use Rattle.kds_defs.specs.declared.reply.Reply.{Reply}
use Rattle.kds_defs.specs.declared.reply.Reply.TheVariants as reply
use Rattle.kds_defs.specs.declared.reply.Stored.{Stored}
use Rattle.kds_defs.specs.Kinds.{is_change}
use Rattle.kds_defs.specs.StreamCommands.{last_number}
use Rattle.kds_defs.specs.Subjects.{name_of_command}
use Rattle.kcl_journal.specs.declared.line.EntryLine.{EntryLine}
use Rattle.kcl_sim_scribe.specs.Known.{Known, ScribeValue, changed_by, known_as, with_made}

-- ---- Commands on a stream

-- The entry of a put that stored the item at `place`.
abbrev pub put_entry : (s : ℕ) (item : NewItem) (place : Place) → Entry
put_entry s item place = entry.Put s place.shard place.seq item.hash (length item.payload) (length item.key)

-- The entries of a put of several items; an item that the limits held back has none.
abbrev pub put_entries : (s : ℕ) (items : List NewItem) (outcomes : List Outcome) → List Entry
put_entries s [] outcomes = []
put_entries s (item ∷ items) [] = []
put_entries s (item ∷ items) (outcome.Stored place ∷ outcomes) = put_entry s item place ∷ put_entries s items outcomes
put_entries s (item ∷ items) (outcome.Throttled sh ∷ outcomes) = put_entries s items outcomes

-- Whether the entry is a split or a merge, which are the steps of a scaling.
abbrev pub is_step : (entry : Entry) → Bool
is_step (entry.Split s sh hash number low high) = true
is_step (entry.Merged s sh other number child) = true
is_step _ = false

-- The entries of an accepted command on `v`; a split or a merge takes the numbers after the last ones.
abbrev pub stream_entries : (v : Known) (command : Command) (r : Reply) → List Entry
stream_entries v (command.Delete name) r = entry.Gone v.no ∷ []
stream_entries v (command.Put name item) (reply.Put place) = put_entry v.no item place ∷ []
stream_entries v (command.PutMany name items) (reply.PutMany outcomes) = put_entries v.no items outcomes
stream_entries v (command.Split name sh hash) r =
    entry.Split v.no sh hash (v.drawn + 1) (v.shard + 1) (v.shard + 2) ∷ []
stream_entries v (command.Merge name sh other) r = entry.Merged v.no sh other (v.drawn + 1) (v.shard + 1) ∷ []
stream_entries v (command.Keep name hours raise) r = entry.Kept v.no hours ∷ []
stream_entries v (command.Scale name target) (reply.Scaled owner old new entries) = filter is_step entries
stream_entries v (command.Enforce name is_on) r = entry.Enforced v.no is_on ∷ []
stream_entries v _ r = []

-- The name of the stream that the command changes; None for no change, or a new stream.
abbrev pub changed_name : (asked : Command) → Option (List ℕ)
changed_name asked = if is_change asked then name_of_command asked else None

-- The sequence and shard numbers that a split or a merge of `v` takes are left.
abbrev pub HasNumbers : (v : Known) (command : Command) → Type 0
HasNumbers v (command.Split name sh hash) = (v.drawn < last_number) × (v.shard + 1 < last_number)
HasNumbers v (command.Merge name sh other) = (v.drawn < last_number) × (v.shard < last_number)
HasNumbers v _ = Unit {0}

-- ---- Commands on leases

-- The sequence numbers of a batch's records.
abbrev pub numbers_read : (batch : List Stored) → List ℕ
numbers_read batch = map (λ (r : Stored). r.seq) batch

-- The entry of an accepted command on leases, as a list; a survey has none.
abbrev pub lease_entries : (command : Command) (r : Reply) → List Entry
lease_entries (command.MakeLease key beginning) (reply.Leased origin) = entry.LeaseMade key origin ∷ []
lease_entries (command.Take key counter owner) (reply.Taken t n start) = entry.Taken key t n owner ∷ []
lease_entries (command.Renew t counter) (reply.Counter n) = entry.Renewed t n ∷ []
lease_entries (command.Free t counter) (reply.Counter n) = entry.Freed t n ∷ []
lease_entries (command.OpenShard t) r = entry.Opened t ∷ []
lease_entries (command.Read t position limit) (reply.Read batch reach ended) =
    entry.Read t limit ended (numbers_read batch) ∷ []
lease_entries (command.Give t) r = entry.Given t ∷ []
lease_entries (command.Mark t counter target) (reply.Counter n) = entry.Marked t n target ∷ []
lease_entries (command.CutLease key counter) r = entry.LeaseCut key counter ∷ []
lease_entries _ r = []

-- ---- All commands but CreateStream

-- The entries of an accepted command on the stream that was found; None has none.
abbrev pub known_entries : (v : Option Known) (asked : Command) (r : Reply) → List Entry
known_entries None asked r = []
known_entries (Some v) asked r = stream_entries v asked r

-- The entries of an accepted command on the stream with this name; None is a command on leases.
abbrev pub named_entries : (name : Option (List ℕ)) (streams : List Known) (asked : Command) (r : Reply) → List Entry
named_entries None streams asked r = lease_entries asked r
named_entries (Some name) streams asked r = known_entries (known_as name streams) asked r

-- The entries of an accepted command other than CreateStream.
abbrev pub entries_of : (streams : List Known) (asked : Command) (r : Reply) → List Entry
entries_of streams asked r = named_entries (changed_name asked) streams asked r

-- The command's numbers are left in the stream that was found, if any.
abbrev pub HasNumbersIn : (v : Option Known) (asked : Command) → Type 0
HasNumbersIn None asked = Unit {0}
HasNumbersIn (Some v) asked = HasNumbers v asked

-- The command's numbers are left in the stream with this name, if the scribe knows one.
abbrev pub MayNumber : (name : Option (List ℕ)) (streams : List Known) (asked : Command) → Type 0
MayNumber None streams asked = Unit {0}
MayNumber (Some name) streams asked = HasNumbersIn (known_as name streams) asked

-- ---- Lines of the journal's text

-- The line with this entry.
abbrev pub line_by : (clock actor : ℕ) (change : Entry) → EntryLine
line_by clock actor change = record { clock = clock; by = actor; what = change }

-- The lines with these entries, all at the same clock and by the same actor.
abbrev pub lines_by : (clock actor : ℕ) (entries : List Entry) → List EntryLine
lines_by clock actor entries = map (line_by clock actor) entries

-- ---- An accepted command

-- The lines that the scribe writes for an accepted command with this reply.
abbrev pub told_lines : (s : ScribeValue) (clock actor : ℕ) (asked : Command) (r : Reply) → List EntryLine
told_lines s clock actor (command.Create name count) r = line_by clock actor (entry.Made (s.made + 1) name count) ∷ []
told_lines s clock actor asked r = lines_by clock actor (entries_of s.streams asked r)

-- What the scribe knows after an accepted command; its clock stays.
abbrev pub told_after : (s : ScribeValue) (asked : Command) (r : Reply) → ScribeValue
told_after s (command.Create name count) r = with_made name count s
told_after s asked r = record s { streams = changed_by (entries_of s.streams asked r) s.streams }

-- The scribe can write the command's lines: the numbers that it takes are left, and a new stream has a shard.
abbrev pub CanTell : (s : ScribeValue) (asked : Command) → Type 0
CanTell s (command.Create name count) = ((s.made == last_number) ≡ false) × (1 ≤ count)
CanTell s asked = MayNumber (changed_name asked) s.streams asked
