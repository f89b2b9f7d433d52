-- Each line of a command that is accepted after a legal journal can be written as text.
use Rattle.std.proofs.Common.{◌≡◌, ℕ, ◌+◌, ◌^◌, ◌<◌, ◌≤◌, Bool, true, false, List, [], ◌∷◌, length, arith}
use Rattle.std.specs.Prelude.{Ok, Result, ◌==◌, ◌&&◌, not, if◌then◌else◌}
use Rattle.std.specs.List.{AllByRecursion}
use Rattle.std.proofs.lemmas.Bool.Decides.{nat_tests}
use Rattle.std.proofs.lemmas.Bool.{or_parts}
use Rattle.kds_defs.specs.declared.command.Command.{Command}
use Rattle.kds_defs.specs.declared.command.Origin.{Origin}
use Rattle.kds_defs.specs.declared.command.Origin.TheVariants as origin
use Rattle.kds_defs.specs.declared.entry.Entry.TheVariants as entry
use Rattle.kds_defs.specs.declared.reply.Refusal.{Refusal}
use Rattle.kds_defs.specs.declared.reply.Reply.{Reply}
use Rattle.kds_defs.specs.Decision.{Accepted}
use Rattle.kds_defs.specs.Histories.{decide}
use Rattle.kds_defs.specs.Journal.{Journal, Line}
use Rattle.kds_defs.specs.Lawful.{IsLawfulCommand}
use Rattle.kds_defs.specs.LeaseCommands.{follows_parent}
use Rattle.kds_defs.specs.Legal.{IsLegal}
use Rattle.kds_defs.specs.Records.{Logged, batch, left_among, left_from, next_number, numbers_of, records}
use Rattle.kds_defs.specs.Shards.{shards, start_of, shard_at}
use Rattle.kds_defs.specs.StreamCommands.{last_number}
use Rattle.kds_defs.specs.Streams.{is_live, trim_floor}
use Rattle.kds_defs.specs.Tiled.{AreNumbered}
use Rattle.kds_defs.proofs.Decisions.{holds_so}
use Rattle.kds_defs.proofs.Walk.{Outcome, Refuses, Answers, Adds, Stores, Scales, accepted}
use Rattle.kds_defs.proofs.Walk.{Tells, Creates, Deletes, Puts, Splits, Merges, Keeps, Enforces, Makes, Takes, Renews}
use Rattle.kds_defs.proofs.Walk.{Frees, Opens, Reads, Gives, Marks, Cuts}
use Rattle.kcl_laws.proofs.Added.{not_past}
use Rattle.kcl_laws.specs.Recorded.{AreDrawn, RiseBetween}
use Rattle.kcl_script_fields.specs.Commands.{AreNumbers}
use Rattle.kcl_script_fields.specs.Origins.{IsOrigin}
use Rattle.kcl_journal.specs.declared.line.TheConstants.{VERSION}
use Rattle.kcl_journal.specs.Ranges.{Is64, IsEntryLine}
use Rattle.kcl_sim_scribe.specs.Added.{told_by}
use Rattle.kcl_audit_streams.proofs.BatchSteps.{below, below_beginning, below_left}
use Rattle.kcl_audit_sound.proofs.Counts.{listed_fits, made_fits, named_fits, shards_fit, taken_fits}
use Rattle.kcl_audit_sound.proofs.Streams.{AreTold, IsBy, line_told, plan_at, put_told, puts_told, steps_told}

next_counter : (n counter : ℕ) → not (n == counter) ≡ false → (n == last_number) ≡ false → counter < 2 ^ 64
    → (1 ≤ counter + 1) × (counter + 1 < 2 ^ 64)
next_counter n counter same free fits = (omega arith, grind (arith, nat_tests))

row_counter : (n counter : ℕ) → not (n == counter) ≡ false → (n == last_number) ≡ false → counter < 2 ^ 64
    → (1 ≤ n + 1) × (n + 1 < 2 ^ 64)
row_counter n counter same free fits = (omega arith, grind (arith, nat_tests))

after_free : (n : ℕ) → (n == last_number) ≡ false → n ≤ last_number → n + 1 < 2 ^ 64
after_free n free le = grind (arith, nat_tests)

both_hold : (a b : Bool) → not (a && b) ≡ false → (a ≡ true) × (b ≡ true)
both_hold a b h = (grind (arith, h), grind (arith, h))

origin_counts : (b : Bool) (beginning : Origin) → IsOrigin beginning
    → IsOrigin (if b then origin.TrimHorizon else beginning)
origin_counts true beginning is = tt
origin_counts false beginning is = is

-- ---- The sequence numbers of a batch fit into 64 bits

rise_to : (first : ℕ) (rs : List Logged) (next : ℕ) → RiseBetween first rs next → first ≤ next
rise_to first [] next h = h
rise_to first (r ∷ rs) next h = omega (arith, h.0, rise_to (r.seq + 1) rs next h.1)

below_next : (first : ℕ) (rs : List Logged) (next : ℕ) → RiseBetween first rs next → below next rs
below_next first [] next h = tt
below_next first (r ∷ rs) next h = (omega (arith, rise_to (r.seq + 1) rs next h.1), below_next (r.seq + 1) rs next h.1)

live_below : (live : Bool) (m : ℕ) (rs : List Logged) → below m rs → below m (if live then rs else [])
live_below true m rs h = h
live_below false m rs h = tt

numbers_fit : (m : ℕ) (rs : List Logged) → m ≤ last_number → below m rs → AllByRecursion Is64 (numbers_of rs)
numbers_fit m [] le h = tt
numbers_fit m (r ∷ rs) le h = (omega (arith, le, h.0), numbers_fit m rs le h.1)

-- ---- The lines of each command

-- Assumed: shards are numbered from 0, and sequence numbers rise below the next, at most `last_number`.
module _
    (numbered : (log : Journal) (s : ℕ) → AreNumbered 0 (shards log s))
    (drawn : (log : Journal) → IsLegal log → (s sh : ℕ) → AreDrawn log s sh)
    (next_fits : (log : Journal) → IsLegal log → (s : ℕ) → next_number log s ≤ last_number) where
  batch_fits : (log : Journal) (c s sh reach limit : ℕ) → IsLegal log
      → AllByRecursion Is64 (numbers_of (batch log c s sh reach limit))
  batch_fits log c s sh reach limit legal =
      let next = next_number log s in
      let left = left_among (trim_floor log c s) reach (records log s sh) in
      numbers_fit next (batch log c s sh reach limit) (next_fits log legal s)
      (below_beginning next limit _ (left_from log c s sh reach)
      (live_below (is_live log s) next left
      (below_left next (trim_floor log c s) reach (records log s sh)
      (below_next (start_of (shard_at log s sh)) (records log s sh) next (drawn log legal s sh)))))

  told_one : (log : Journal) (c actor : ℕ) (command : Command) (line : Line) (r : Reply)
      → Tells log c actor command line r
      → IsLegal log → IsBy c actor
      → IsLawfulCommand command → AreNumbers command → IsEntryLine VERSION (told_by line)
  told_one log c actor _ _ _ (Creates name count fits) legal is lawful bits =
      line_told c actor _ is (after_free _ fits (made_fits log legal), lawful)
  told_one log c actor _ _ _ (Deletes name s named) legal is lawful bits =
      line_told c actor _ is (named_fits log name s legal named)
  told_one log c actor _ _ _ (Puts name item s named fits) legal is lawful bits =
      put_told log c actor s item is (named_fits log name s legal named) (numbered log s) (shards_fit log legal s)
      (next_fits log legal s) lawful.1
  told_one log c actor _ _ _ (Splits name sh moment s named listed fits) legal is lawful bits =
      let room = not_past (length (shards log s) + 1) last_number (or_parts _ _ fits).0 in
      line_told c actor _ is (
        named_fits log name s legal named,
        (
          listed_fits log c s sh legal (holds_so _ listed),
          (lawful.1, (omega (arith, next_fits log legal s), (omega arith, omega arith))),
        ),
      )
  told_one log c actor _ _ _ (Merges name sh other s named listed fits) legal is lawful bits =
      let room = not_past (length (shards log s)) last_number (or_parts _ _ fits).0 in
      let both = both_hold _ _ listed in
      line_told c actor _ is (
        named_fits log name s legal named,
        (
          listed_fits log c s sh legal both.0,
          (listed_fits log c s other legal both.1, (omega (arith, next_fits log legal s), omega arith)),
        ),
      )
  told_one log c actor _ _ _ (Keeps name wanted raise s named fits) legal is lawful bits =
      line_told c actor _ is (named_fits log name s legal named, lawful.1)
  told_one log c actor _ _ _ (Enforces name is_on s named) legal is lawful bits =
      line_told c actor _ is (named_fits log name s legal named)
  told_one log c actor _ _ _ (Makes key beginning) legal is lawful bits =
      line_told c actor _ is (bits.0, origin_counts (follows_parent log key) beginning bits.1)
  told_one log c actor _ _ _ (Takes key counter owner r there same fits) legal is lawful bits =
      let free = or_parts _ _ fits in
      line_told c actor _ is (
        bits.0,
        (
          after_free _ free.1 (taken_fits log legal),
          (row_counter _ counter same free.0 bits.1.0, (lawful, bits.1.1)),
        ),
      )
  told_one log c actor _ _ _ (Renews t counter T begun same fits) legal is lawful bits =
      line_told c actor _ is (bits.0, next_counter _ counter same fits bits.1)
  told_one log c actor _ _ _ (Frees t counter T begun same fits) legal is lawful bits =
      line_told c actor _ is (bits.0, next_counter _ counter same fits bits.1)
  told_one log c actor _ _ _ (Opens t) legal is lawful bits = line_told c actor _ is bits
  told_one log c actor _ _ _ (Reads t position limit T reach ended begun same) legal is lawful bits =
      line_told c actor _ is (bits.0, (lawful, batch_fits log c _ _ _ limit legal))
  told_one log c actor _ _ _ (Gives t T begun) legal is lawful bits = line_told c actor _ is bits
  told_one log c actor _ _ _ (Marks t counter target T begun same fits) legal is lawful bits =
      line_told c actor (entry.Marked t (counter + 1) target) is (
        bits.0,
        (next_counter _ counter same fits bits.1.0, bits.1.1),
      )
  told_one log c actor _ _ _ (Cuts key counter) legal is lawful bits = line_told c actor _ is (bits.0, bits.1)

  told_of : (log : Journal) (c actor : ℕ) (command : Command) (lines : List Line) (answer : Result Reply Refusal)
      → Outcome log c actor command lines answer
      → IsLegal log → IsBy c actor → IsLawfulCommand command → AreNumbers command → AreTold lines
  told_of log c actor _ _ _ (Refuses command r may) legal is lawful bits = tt
  told_of log c actor _ _ _ (Answers command r shows) legal is lawful bits = tt
  told_of log c actor _ _ _ (Adds command line r tells) legal is lawful bits =
      (told_one log c actor command line r tells legal is lawful bits, tt)
  told_of log c actor _ _ _ (Stores name items s named fits) legal is lawful bits =
      puts_told items log c actor s is (named_fits log name s legal named) (numbered log s) (shards_fit log legal s)
      (not_past _ _ fits) lawful.1.each
  told_of log c actor _ _ _ (Scales name goal s named few fits) legal is lawful bits =
      let each = or_parts _ _ fits in
      steps_told numbered _ log c actor s is (named_fits log name s legal named) (plan_at _ goal lawful.1.0 lawful.1.1)
      (not_past _ _ each.0) (not_past _ _ each.1)

  pub told_lines : (log : Journal) (c actor : ℕ) (command : Command) (lines : List Line) (reply : Reply) → IsLegal log
      → IsBy c actor → IsLawfulCommand command
      → AreNumbers command
      → decide log c actor command ≡ Accepted lines reply → AreTold lines
  told_lines log c actor command lines reply legal is lawful bits h =
      told_of log c actor command lines (Ok reply) (accepted log c actor command lines reply h) legal is lawful bits
