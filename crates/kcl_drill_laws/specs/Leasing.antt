-- What turns on leases leave unchanged: the streams of the journal.
use Rattle.std.specs.Prelude.{ℕ, ◌≡◌, false, List}
use Rattle.std.specs.List.{AllByRecursion}
use Rattle.kds_defs.specs.declared.command.Turn.{Turn}
use Rattle.kds_defs.specs.Journal.{Journal}
use Rattle.kds_defs.specs.Kinds.{is_service}
use Rattle.kds_defs.specs.Records.{next_number, records}
use Rattle.kds_defs.specs.Shards.{shards}
use Rattle.kds_defs.specs.Streams.{hours, is_live, live_streams, stream_named, trim_floor}

-- Each turn is on leases, and not for the stream service.
abbrev pub AreOnLeases : (more : List Turn) → Type 0
AreOnLeases more = AllByRecursion (λ turn. is_service turn.what ≡ false) more

-- Both journals have the same live streams by the same names, with the same shards, records and retention.
pub record HasSameStreams (log log' : Journal) : Type 0 where
  pub live : live_streams log ≡ live_streams log'
  pub named : (name : List ℕ) → stream_named log name ≡ stream_named log' name
  pub shards : (s : ℕ) → shards log s ≡ shards log' s
  pub records : (s sh : ℕ) → records log s sh ≡ records log' s sh
  pub next : (s : ℕ) → next_number log s ≡ next_number log' s
  pub hours : (s : ℕ) → hours log s ≡ hours log' s

-- The same streams are live in both journals, with the same trim floors at the clock `c`.
pub record HasSameFloors (c : ℕ) (log log' : Journal) : Type 0 where
  pub live : (s : ℕ) → is_live log s ≡ is_live log' s
  pub floors : (s : ℕ) → trim_floor log c s ≡ trim_floor log' c s
