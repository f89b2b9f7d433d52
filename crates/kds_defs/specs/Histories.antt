-- What a machine answers to a turn after a history (its turns, the newest first), and the journal that is left.
use Rattle.std.specs.Prelude.{ℕ, max, List, [], ◌∷◌, Result, Ok, Err}
use Rattle.kds_defs.specs.declared.command.Command.{Command}
use Rattle.kds_defs.specs.declared.command.Command.TheVariants as command
use Rattle.kds_defs.specs.declared.command.Turn.{Turn}
use Rattle.kds_defs.specs.declared.reply.Refusal.{Refusal}
use Rattle.kds_defs.specs.declared.reply.Refusal.TheVariants as refusal
use Rattle.kds_defs.specs.declared.reply.Reply.{Reply}
use Rattle.kds_defs.specs.Decision.{Decision, Refused, Accepted, with◌or◌then◌}
use Rattle.kds_defs.specs.Journal.{Line, Journal, with_lines}
use Rattle.kds_defs.specs.LeaseCommands.{survey, make_lease, take_lease, renew, free, open_shard, read, give, mark}
use Rattle.kds_defs.specs.LeaseCommands.{cut_lease}
use Rattle.kds_defs.specs.Listings.{streams, describe, summary, list_shards, more, get_iterator, get_records}
use Rattle.kds_defs.specs.StreamCommands.{create, delete, split, merge, keep}
use Rattle.kds_defs.specs.PutCommands.{enforce, put, put_many}
use Rattle.kds_defs.specs.ScaleCommands.{scale_stream}
use Rattle.kds_defs.specs.Streams.{stream_named}

-- The decision of `next` on the live stream with this name; without one, the refusal `NoStream`.
abbrev pub with_stream : (log : Journal) (name : List ℕ) (next : ℕ → Decision) → Decision
with_stream log name next = with stream_named log name or refusal.NoStream then next

-- The decision on a command that the actor `actor` sends at the clock `c`.
abbrev pub decide : (log : Journal) (c actor : ℕ) (command : Command) → Decision
decide log c actor (command.Create name count) = create log c actor name count
decide log c actor (command.Delete name) = with_stream log name λ s. delete log c actor s
decide log c actor (command.Streams after limit) = streams log after limit
decide log c actor (command.Describe name after limit) = with_stream log name λ s. describe log c s after limit
decide log c actor (command.Summary name) = with_stream log name λ s. summary log s
decide log c actor (command.Shards name after limit) = with_stream log name λ s. list_shards log c s after limit
decide log c actor (command.More page limit) = more log c page limit
decide log c actor (command.GetIterator name sh start) = with_stream log name λ s. get_iterator log c s sh start
decide log c actor (command.Records iter limit) = get_records log c iter limit
decide log c actor (command.Put name item) = with_stream log name λ s. put log c actor s item
decide log c actor (command.PutMany name items) = with_stream log name λ s. put_many log c actor s items
decide log c actor (command.Split name sh hash) = with_stream log name λ s. split log c actor s sh hash
decide log c actor (command.Merge name sh other) = with_stream log name λ s. merge log c actor s sh other
decide log c actor (command.Keep name wanted raise) = with_stream log name λ s. keep log c actor s wanted raise
decide log c actor (command.Scale name target) = with_stream log name λ s. scale_stream log c actor name s target
decide log c actor (command.Enforce name is_on) = with_stream log name λ s. enforce log c actor s is_on
decide log c actor command.Survey = survey log c
decide log c actor (command.MakeLease key start) = make_lease log c actor key start
decide log c actor (command.Take key counter owner) = take_lease log c actor key counter owner
decide log c actor (command.Renew t counter) = renew log c actor t counter
decide log c actor (command.Free t counter) = free log c actor t counter
decide log c actor (command.OpenShard t) = open_shard log c actor t
decide log c actor (command.Read t position limit) = read log c actor t position limit
decide log c actor (command.Give t) = give log c actor t
decide log c actor (command.Mark t counter goal) = mark log c actor t counter goal
decide log c actor (command.CutLease key counter) = cut_lease log c actor key counter

-- The lines that a decision adds to the journal; a refusal adds none.
abbrev pub lines_of : (decision : Decision) → List Line
lines_of (Refused r) = []
lines_of (Accepted lines reply) = lines

-- A decision's reply as `Ok`, or its refusal as `Err`.
abbrev pub answer_of : (decision : Decision) → Result Reply Refusal
answer_of (Refused r) = Err r
answer_of (Accepted lines reply) = Ok reply

-- The clock of a history: the greatest time of its turns, or 0 if it has none.
abbrev pub clock : (h : List Turn) → ℕ
clock [] = 0
clock (turn ∷ h) = max (clock h) turn.at

-- The decision on the command of a turn.
abbrev pub decision : (log : Journal) (c : ℕ) (turn : Turn) → Decision
decision log c turn = decide log c turn.by turn.what

-- The journal that a history leaves; a turn is decided after the earlier lines, at the clock with its own time.
abbrev pub journal : (h : List Turn) → Journal
journal [] = []
journal (turn ∷ h) = with_lines (lines_of (decision (journal h) (clock (turn ∷ h)) turn)) (journal h)

-- The answer to a turn after a history.
abbrev pub answer : (h : List Turn) (turn : Turn) → Result Reply Refusal
answer h turn = answer_of (decision (journal h) (clock (turn ∷ h)) turn)

-- The answers to `turns`, which follow the history; unlike a history, both have the oldest first.
abbrev pub answers : (h turns : List Turn) → List (Result Reply Refusal)
answers h [] = []
answers h (turn ∷ turns) = answer h turn ∷ answers (turn ∷ h) turns
