-- Facts about legal journals for a drain: from which checkpoints a shard can be drained, and streams' numbers.
use Rattle.std.proofs.Common.{◌≡◌, ℕ, ◌+◌, ◌≤◌, Bool, true, false, [], ◌∷◌, Some, refl, subst, arith}
use Rattle.std.specs.Prelude.{◌==◌, ◌||◌, not}
use Rattle.kds_base.specs.declared.lease_key.Checkpoint.{Checkpoint}
use Rattle.kds_base.specs.declared.lease_key.Checkpoint.TheVariants.{TrimHorizon, At, ShardEnd}
use Rattle.kds_base.specs.declared.lease_key.ShardRef.{ShardRef}
use Rattle.kds_base.proofs.Facts.{both_right, equal_so}
use Rattle.kds_defs.specs.declared.entry.Entry.{Entry}
use Rattle.kds_defs.specs.declared.entry.Entry.TheVariants as entry
use Rattle.kds_defs.specs.declared.reply.Reply.{Reply}
use Rattle.kds_defs.specs.declared.reply.Row.{Row}
use Rattle.kds_defs.specs.Decision.{Accepted}
use Rattle.kds_defs.specs.Journal.{Line, Journal}
use Rattle.kds_defs.specs.Leases.{row}
use Rattle.kds_defs.specs.Legal.{IsLegal, last_clock, told}
use Rattle.kds_defs.specs.Listings.{is_closed_at}
use Rattle.kds_defs.specs.Streams.{is_live, is_live_after, made_count, made_count_after}
use Rattle.kcl_laws.proofs.CoverageLemmas.{CheckpointOk, all_ok}
use Rattle.kcl_drill_drain.specs.Draining.{IsStart, records_of, shard_of}
use Rattle.kcl_laws.specs.Recorded.{HasFrom}
use Rattle.kds_defs.specs.Shards.{start_of}
use Rattle.kcl_laws.proofs.Trims.{made_number}

pub ended_closed : (log : Journal) → IsLegal log → (c : ℕ) → last_clock log ≤ c → (key : ShardRef) (r : Row)
    → row log key ≡ Some r → r.checkpoint ≡ ShardEnd → is_closed_at (shard_of log key) ≡ true
ended_closed log legal c le key r there is =
    (subst (CheckpointOk log c key r.floor) is ((all_ok log legal c le).rows key r there).covered).0

pub starts : (log : Journal) (key : ShardRef) (floor : ℕ) (checkpoint : Checkpoint)
    → floor ≡ start_of (shard_of log key)
    → ((q : ℕ) → checkpoint ≡ At q → HasFrom q (records_of log key))
    → (checkpoint ≡ ShardEnd → is_closed_at (shard_of log key) ≡ true)
    → IsStart (shard_of log key) (records_of log key) floor checkpoint
starts log key floor TrimHorizon first reached ended = first
starts log key floor (At q) first reached ended = reached q refl
starts log key floor ShardEnd first reached ended = ended refl

-- ---- The streams are numbered from 1 on

live_by : (log : Journal) (line : Line) (e : Entry) (reply : Reply) (s : ℕ) → line.what ≡ e
    → told log line e ≡ Accepted (line ∷ []) reply → (is_live log s ≡ true → (1 ≤ s) × (s ≤ made_count log))
    → is_live_after e s (is_live log s) ≡ true → (1 ≤ s) × (s ≤ made_count_after e (made_count log))
live_by log line (entry.Made stream name count) reply s is h is_before live =
    either (stream == s) (is_live log s) refl live is_before
  where
    either : (b d : Bool) → (stream == s) ≡ b → (b || d) ≡ true → (d ≡ true → (1 ≤ s) × (s ≤ made_count log))
        → (1 ≤ s) × (s ≤ made_count log + 1)
    either true d e m k =
        let n = equal_so stream s e in
        let made = made_number log line stream count name reply is h in
        (omega arith, omega arith)
    either false d e m k = let b = k m in (b.0, omega (arith, b.1))
live_by log line (entry.Gone stream) reply s is h is_before live =
    is_before (both_right (not (stream == s)) (is_live log s) live)
live_by log line _ reply s is h is_before live = is_before live

pub live_numbers : (log : Journal) → IsLegal log → (s : ℕ) → is_live log s ≡ true → (1 ≤ s) × (s ≤ made_count log)
live_numbers [] legal s live = absurd cc
live_numbers (line ∷ log) legal s live =
    live_by log line line.what legal.0.reply s refl legal.0.allowed (live_numbers log legal.1 s) live
