-- A legal journal's streams, shards and tenures are few enough for 64-bit numbers.
use Rattle.std.proofs.Common.{◌≡◌, ℕ, zero, suc, ◌+◌, ◌^◌, ◌<◌, ◌≤◌, Bool, true, false, List, [], ◌∷◌, length, refl, ap}
use Rattle.std.proofs.Common.{arith}
use Rattle.std.specs.Prelude.{◌==◌, slice_get, if◌then◌else◌, Option, Some, None}
use Rattle.std.specs.List.{filter}
use Rattle.std.proofs.lemmas.Bool.Decides.{nat_tests}
use Rattle.std.proofs.lemmas.Bool.{or_parts}
use Rattle.kds_base.proofs.Facts.{equal_so}
use Rattle.kds_defs.specs.declared.entry.Entry.{Entry}
use Rattle.kds_defs.specs.declared.entry.Entry.TheVariants as entry
use Rattle.kds_defs.specs.declared.reply.Reply.{Reply}
use Rattle.kds_defs.specs.Decision.{Accepted}
use Rattle.kds_defs.specs.Journal.{Line, Journal}
use Rattle.kds_defs.specs.Legal.{IsInRange, IsLegal, told}
use Rattle.kds_defs.specs.Leases.{taken_count, taken_count_after}
use Rattle.kds_defs.specs.Records.{next_number}
use Rattle.kds_defs.specs.Shards.{ShardState, closing_of, home, home_among, is_listed, is_listed_state, is_open}
use Rattle.kds_defs.specs.Shards.{shard_at, shards, shards_after}
use Rattle.kds_defs.specs.StreamCommands.{last_number}
use Rattle.kds_defs.specs.Streams.{live_streams, made_count, made_count_after, name_of, same_name, stream_named}
use Rattle.kds_defs.specs.Tiled.{AreNumbered}
use Rattle.kds_defs.proofs.Decisions.{found, passes}
use Rattle.kds_defs.proofs.Counted.{length_merged, length_split}
use Rattle.kcl_laws.proofs.Added.{not_past}
use Rattle.kcl_sim_scribe.proofs.Lists.{found_is}
use Rattle.kcl_sim_scribe.proofs.Making.{length_made}
use Rattle.kcl_sim_scribe.proofs.Readings.{live_below}

pub one_more : (n : ℕ) → (n == last_number) ≡ false → n ≤ last_number → n + 1 ≤ last_number
one_more n h le = grind (arith, nat_tests)

-- ---- Streams and tenures

made_by : (log : Journal) (line : Line) (e : Entry) (reply : Reply) → told log line e ≡ Accepted (line ∷ []) reply
    → made_count log ≤ last_number
    → made_count_after e (made_count log) ≤ last_number
made_by log line (entry.Made s name count) reply h le =
    let a = passes _ _ _ _ reply h in
    let b = passes _ _ _ _ reply a.1 in
    let d = passes _ _ _ _ reply b.1 in
    one_more (made_count log) d.0 le
made_by log line _ reply h le = le

-- At most `last_number` streams are made in a legal journal.
pub made_fits : (log : Journal) → IsLegal log → made_count log ≤ last_number
made_fits [] legal = omega arith
made_fits (line ∷ log) legal = made_by log line line.what legal.0.reply legal.0.allowed (made_fits log legal.1)

taken_by : (log : Journal) (line : Line) (e : Entry) (reply : Reply) → told log line e ≡ Accepted (line ∷ []) reply
    → taken_count log ≤ last_number
    → taken_count_after e (taken_count log) ≤ last_number
taken_by log line (entry.Taken key t counter owner) reply h le =
    let f = found _ _ _ _ reply h in
    let a = passes _ _ _ _ reply f.2 in
    let b = passes _ _ _ _ reply a.1 in
    let d = passes _ _ _ _ reply b.1 in
    one_more (taken_count log) (or_parts _ _ d.0).1 le
taken_by log line _ reply h le = le

-- At most `last_number` tenures begin in a legal journal.
pub taken_fits : (log : Journal) → IsLegal log → taken_count log ≤ last_number
taken_fits [] legal = omega arith
taken_fits (line ∷ log) legal = taken_by log line line.what legal.0.reply legal.0.allowed (taken_fits log legal.1)

pub named_fits : (log : Journal) (name : List ℕ) (s : ℕ) → IsLegal log → stream_named log name ≡ Some s → s < 2 ^ 64
named_fits log name s legal h =
    let made : s ≤ made_count log =
    found_is (λ n. n ≤ made_count log) (λ n. same_name (name_of log n) name) (live_streams log) s (live_below log)
    h in
    omega (arith, made, made_fits log legal)

-- ---- Shards

either_fits : (b : Bool) (xs ys : List ShardState) → (b ≡ true → length xs ≤ 2 ^ 64) → length ys ≤ 2 ^ 64
    → length (if b then xs else ys) ≤ 2 ^ 64
either_fits true xs ys h g = h refl
either_fits false xs ys h g = g

shards_by : (log : Journal) (line : Line) (e : Entry) (reply : Reply) (s start : ℕ) → IsInRange e
    → told log line e ≡ Accepted (line ∷ []) reply
    → length (shards log s) ≤ 2 ^ 64 → length (shards_after line e s start (shards log s)) ≤ 2 ^ 64
shards_by log line (entry.Made stream name count) reply s start range h le =
    either_fits (stream == s) _ _ (λ is. omega (arith, length_made count start, range.1)) le
shards_by log line (entry.Split stream sh hash number low high) reply s start range h le =
    let a = passes _ _ _ _ reply h in
    let b = passes _ _ _ _ reply a.1 in
    let d = passes _ _ _ _ reply b.1 in
    let e = passes _ _ _ _ reply d.1 in
    let f = passes _ _ _ _ reply e.1 in
    let g = passes _ _ _ _ reply f.1 in
    let room = not_past (length (shards log stream) + 1) last_number (or_parts _ _ g.0).0 in
    either_fits (stream == s) _ _
    (λ is. omega (
      arith,
      room,
      ap (λ k. length (shards log k)) (equal_so stream s is),
      length_split sh hash start (closing_of line number) (shards log s),
    )) le
shards_by log line (entry.Merged stream sh other number child) reply s start range h le =
    let a = passes _ _ _ _ reply h in
    let b = passes _ _ _ _ reply a.1 in
    let d = passes _ _ _ _ reply b.1 in
    let e = passes _ _ _ _ reply d.1 in
    let f = passes _ _ _ _ reply e.1 in
    let room = not_past (length (shards log stream)) last_number (or_parts _ _ f.0).0 in
    either_fits (stream == s) _ _
    (λ is. omega (
      arith,
      room,
      ap (λ k. length (shards log k)) (equal_so stream s is),
      length_merged sh other start (closing_of line number) (shards log s),
    )) le
shards_by log line _ reply s start range h le = le

-- A stream of a legal journal has at most 2^64 shards.
pub shards_fit : (log : Journal) → IsLegal log → (s : ℕ) → length (shards log s) ≤ 2 ^ 64
shards_fit [] legal s = omega arith
shards_fit (line ∷ log) legal s =
    shards_by log line line.what legal.0.reply s (next_number (line ∷ log) s) legal.0.in_range legal.0.allowed
    (shards_fit log legal.1 s)

below_length : (sh : ℕ) (xs : List ShardState) (x : ShardState) → slice_get xs sh ≡ Some x → sh < length xs
below_length sh [] x h = absurd cc
below_length zero (y ∷ xs) x h = omega arith
below_length (suc sh) (y ∷ xs) x h = omega (arith, below_length sh xs x h)

there_below : (log : Journal) (c s sh : ℕ) (o : Option ShardState) → shard_at log s sh ≡ o
    → is_listed_state log c s o ≡ true → sh < length (shards log s)
there_below log c s sh None is h = absurd cc
there_below log c s sh (Some x) is h = below_length sh (shards log s) x is

pub listed_fits : (log : Journal) (c s sh : ℕ) → IsLegal log → is_listed log c s sh ≡ true → sh < 2 ^ 64
listed_fits log c s sh legal h =
    omega (arith, there_below log c s sh (shard_at log s sh) refl h, shards_fit log legal s)

home_below : (xs : List ShardState) (n k m : ℕ) → AreNumbered n xs → n + length xs ≤ m → 0 < m
    → home_among (filter is_open xs) k < m
home_below [] n k m numbers le some = some
home_below (x ∷ xs) n k m numbers le some =
    grind (arith, numbers.0, le, home_below xs (n + 1) k m numbers.1 (omega arith) some)

pub home_fits : (log : Journal) (s k : ℕ) → AreNumbered 0 (shards log s) → length (shards log s) ≤ 2 ^ 64
    → home log s k < 2 ^ 64
home_fits log s k numbers le = home_below (shards log s) 0 k (2 ^ 64) numbers (omega arith) (omega arith)
