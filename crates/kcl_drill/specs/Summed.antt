-- The summary of a drill's stream, and the text that the drill should print.
use Rattle.std.specs.Prelude.{ℕ, ◌≡◌, ◌+◌, List, [], ◌∷◌, ◌++◌, length, map, flat_map, reverse, codes, decimal}
use Rattle.std.specs.Prelude.{if◌then◌else◌, Option, Some, None}
use Rattle.std.specs.List.{AllByRecursion}
use Rattle.std.specs.Option.{option_map}
use Rattle.kds_base.specs.declared.lease_key.Checkpoint.{Checkpoint}
use Rattle.kds_base.specs.declared.lease_key.Checkpoint.TheVariants as checkpoint
use Rattle.kds_defs.specs.declared.command.Command.{Command}
use Rattle.kds_defs.specs.declared.command.Turn.{Turn}
use Rattle.kds_defs.specs.Histories.{journal}
use Rattle.kds_defs.specs.Journal.{Journal}
use Rattle.kds_defs.specs.Keys.{ref}
use Rattle.kds_defs.specs.Leases.{row, checkpoint_in}
use Rattle.kds_defs.specs.Records.{Logged, records}
use Rattle.kds_defs.specs.Shards.{ShardState, is_open, shards, listed_shards}
use Rattle.kds_defs.specs.Streams.{stream_named}
use Rattle.kds_token.specs.Ids.{shard_id}
use Rattle.kcl_script_fields.specs.Answers.{checkpoint_text}
use Rattle.kcl_drill.specs.Generated.{drill_name, generated}

-- ---- The text of a summary

-- What a summary says of a shard: number, records, payload bytes, and its row's checkpoint.
pub record Summed : Type 0 where
  pub no : ℕ
  pub count : ℕ
  pub bytes : ℕ
  pub checkpoint : Checkpoint

-- A shard's line in a summary: id, number of records, checkpoint; its payload bytes aren't printed.
abbrev pub line_text : (x : Summed) → List ℕ
line_text x = shard_id x.no ++ 32 ∷ (decimal x.count ++ 32 ∷ (checkpoint_text x.checkpoint ++ 10 ∷ []))

-- The sum of `f` over the shards.
abbrev pub sum_of : (f : Summed → ℕ) (xs : List Summed) → ℕ
sum_of f [] = 0
sum_of f (x ∷ xs) = f x + sum_of f xs

-- A summary's text: a line for each shard, then the totals of records and of payload bytes.
abbrev pub text_of : (xs : List Summed) → List ℕ
text_of xs =
    flat_map line_text xs
    ++ (codes "total " ++ (decimal (sum_of (λ x. x.count) xs) ++ 32 ∷ (decimal (sum_of (λ x. x.bytes) xs) ++ 10 ∷ [])))

-- ---- The summary of a journal

-- The total number of payload bytes of the records.
abbrev pub bytes_of : (rs : List Logged) → ℕ
bytes_of [] = 0
bytes_of (r ∷ rs) = length r.payload + bytes_of rs

-- The summary of the shard `n` with the records `rs` and the checkpoint `mark`.
abbrev pub summed : (n : ℕ) (rs : List Logged) (mark : Checkpoint) → Summed
summed n rs mark = record { no = n; count = length rs; bytes = bytes_of rs; checkpoint = mark }

-- The summary of the shard `x` of the stream `s`; without a row its checkpoint is TRIM_HORIZON.
abbrev pub summed_at : (log : Journal) (s : ℕ) (x : ShardState) → Summed
summed_at log s x = summed x.no (records log s x.no) (checkpoint_in (row log (ref s x.no)))

-- The summary of the shards of `s` listed at the clock `c`; empty without a stream.
abbrev pub summary_of : (log : Journal) (c : ℕ) (s : Option ℕ) → List ℕ
summary_of log c None = []
summary_of log c (Some s) = text_of (map (summed_at log s) (listed_shards log c s))

-- The summary of the drill's stream in the journal `log` at the clock `c`.
abbrev pub summary_text : (log : Journal) (c : ℕ) → List ℕ
summary_text log c = summary_of log c (stream_named log drill_name)

-- ---- The text that a drill should print

-- The checkpoint at the last record, or TRIM_HORIZON without records.
abbrev pub last_checkpoint : (rs : List Logged) → Checkpoint
last_checkpoint [] = checkpoint.TrimHorizon
last_checkpoint (r ∷ []) = checkpoint.At r.seq
last_checkpoint (r ∷ s ∷ rs) = last_checkpoint (s ∷ rs)

-- The checkpoint once the shard was read to its end: SHARD_END if closed, otherwise at its last record.
abbrev pub final_checkpoint : (x : ShardState) (rs : List Logged) → Checkpoint
final_checkpoint x rs = if is_open x then last_checkpoint rs else checkpoint.ShardEnd

-- The summary of the shard `x` of the stream `s` once it was read to its end.
abbrev pub final_at : (log : Journal) (s : ℕ) (x : ShardState) → Summed
final_at log s x = summed x.no (records log s x.no) (final_checkpoint x (records log s x.no))

-- The summary of all shards of `s` once each was read to its end; empty without a stream.
abbrev pub final_of : (log : Journal) (s : Option ℕ) → List ℕ
final_of log None = []
final_of log (Some s) = text_of (map (final_at log s) (shards log s))

-- The commands as turns of the actor 0 at the moment 0, newest first.
abbrev pub turns_of : (commands : List Command) → List Turn
turns_of commands = map (λ command. record { by = 0; at = 0; what = command }) (reverse commands)

-- The text that the drill should print: the final summary after the generator's commands alone.
abbrev pub drill_text : (number records : ℕ) → List ℕ
drill_text number records =
    final_of (journal (turns_of (generated number records)))
    (stream_named (journal (turns_of (generated number records))) drill_name)

-- ---- What a drain leaves

-- The shard has a row whose checkpoint is final (`final_checkpoint`).
abbrev pub IsDrained : (log : Journal) (s : ℕ) (x : ShardState) → Type 0
IsDrained log s x = option_map (λ r. r.checkpoint) (row log (ref s x.no))
    ≡ Some (final_checkpoint x (records log s x.no))

-- Each shard that is listed at the clock `c`, of any stream, was read to its end (`IsDrained`).
abbrev pub AreDrained : (log : Journal) (c : ℕ) → Type 0
AreDrained log c = (s : ℕ) → AllByRecursion (IsDrained log s) (listed_shards log c s)
