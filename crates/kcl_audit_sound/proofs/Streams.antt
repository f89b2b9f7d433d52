-- The lines of puts and scalings can be written as text: their numbers are in range.
use Rattle.std.proofs.Common.{◌≡◌, ℕ, ◌+◌, ◌-◌, ◌*◌, ◌^◌, ◌<◌, ◌≤◌, Bool, true, false, List, [], ◌∷◌, ◌++◌, length, map}
use Rattle.std.proofs.Common.{refl, ap, arith}
use Rattle.std.specs.Prelude.{chars, if◌then◌else◌}
use Rattle.std.specs.List.{AllByRecursion}
use lib.Utf8.{encode, encodes}
use Rattle.std.proofs.lemmas.List.{length-append}
use Rattle.std.proofs.lemmas.Str.{encodes-chars, len_utf8_bounds, length-encode, length-le-encodes}
use Rattle.kds_base.proofs.Facts.{all_filter, is_itself}
use Rattle.kds_defs.specs.declared.command.NewItem.{NewItem}
use Rattle.kds_defs.specs.declared.entry.Entry.{Entry}
use Rattle.kds_defs.specs.declared.scale.ScaleStep.{ScaleStep}
use Rattle.kds_defs.specs.declared.scale.ScaleStep.TheVariants.{Join, Cut}
use Rattle.kds_defs.specs.Journal.{Line, Journal, plain_line}
use Rattle.kds_defs.specs.Lawful.{IsItem, IsPartitionKey}
use Rattle.kds_defs.specs.PutCommands.{is_held_back, put_lines}
use Rattle.kds_defs.specs.Records.{next_number}
use Rattle.kds_defs.specs.ScaleCommands.{made_by, step_entry, step_lines}
use Rattle.kds_defs.specs.Scaling.{left_out, scale, uniform_starts}
use Rattle.kds_defs.specs.Shards.{shards}
use Rattle.kds_defs.specs.StreamCommands.{last_number, put_line}
use Rattle.kds_defs.specs.Tiled.{AreNumbered}
use Rattle.kds_scale.proofs.Partitions.{below_wanted}
use Rattle.kcl_laws.proofs.Added.{draws_one}
use Rattle.kcl_journal.specs.declared.line.TheConstants.{VERSION}
use Rattle.kcl_journal.specs.Ranges.{AreSizes, IsEntryLine, IsTellable}
use Rattle.kcl_sim_scribe.specs.Added.{told_by}
use Rattle.kds_defs.proofs.Counted.{length_merged, length_split}
use Rattle.kcl_audit_sound.proofs.Counts.{home_fits}

-- Each line can be written as text in the present version.
abbrev pub AreTold : List Line → Type 0
AreTold lines = AllByRecursion (λ line. IsEntryLine VERSION (told_by line)) lines

-- A line's clock is below 2^62, and its actor fits into 32 bits.
pub record IsBy (c sender : ℕ) : Type 0 where
  pub clock : c < 2 ^ 62
  pub actor : sender < 2 ^ 32

pub line_told : (c actor : ℕ) (entry : Entry) → IsBy c actor → IsTellable VERSION entry
    → IsEntryLine VERSION (record { clock = c; by = actor; what = entry })
line_told c actor entry is tellable = record { clock = is.clock; by = is.actor; what = tellable }

-- ---- Puts

few_bytes : (cs : List ℕ) → length (encodes cs) ≤ 4 * length cs
few_bytes [] = omega arith
few_bytes (c ∷ cs) = omega (
  arith,
  few_bytes cs,
  length-append (encode c) (encodes cs),
  length-encode c,
  (len_utf8_bounds c).1,
)

key_sizes : (key : List ℕ) → IsPartitionKey key → (1 ≤ length key) × (length key ≤ 1024)
key_sizes key is =
    let same = ap length (encodes-chars key is.text) in (
      omega (arith, same, is.some, length-le-encodes (chars key)),
      omega (arith, same, is.few, few_bytes (chars key)),
    )

pub sizes : (item : NewItem) → IsItem item → AreSizes VERSION (length item.payload) (length item.key)
sizes item is = (key_sizes item.key is.key, is.bytes)

pub put_told : (log : Journal) (c actor s : ℕ) (item : NewItem) → IsBy c actor → s < 2 ^ 64
    → AreNumbered 0 (shards log s)
    → length (shards log s) ≤ 2 ^ 64
    → next_number log s ≤ last_number → IsItem item
    → IsEntryLine VERSION (told_by (put_line log c actor s (next_number log s) item))
put_told log c actor s item is stream numbers few next lawful =
    line_told c actor _ is (
      stream,
      (home_fits log s item.hash numbers few, (omega arith, (lawful.hash, sizes item lawful))),
    )

-- The line of a put into `s` with the stream's next sequence number.
abbrev next_line : Journal → ℕ → ℕ → ℕ → NewItem → Line
next_line log c actor s item = put_line log c actor s (next_number log s) item

-- The lines of a put of `item` and the items after it; if `back`, the limits hold `item` back.
abbrev lines_from : Bool → Journal → ℕ → ℕ → ℕ → NewItem → List NewItem → List Line
lines_from back log c actor s item items =
    if back
    then put_lines log c actor s items
    else next_line log c actor s item ∷ put_lines (next_line log c actor s item ∷ log) c actor s items

item_told : (back : Bool) (item : NewItem) (items : List NewItem) (log : Journal) (c actor s : ℕ)
    → next_number log s + length (lines_from back log c actor s item items) ≤ last_number
    → (next_number log s + length (put_lines log c actor s items) ≤ last_number
    → AreTold (put_lines log c actor s items))
    → (next_number log s ≤ last_number → IsEntryLine VERSION (told_by (next_line log c actor s item)))
    → (next_number (next_line log c actor s item ∷ log) s
    + length (put_lines (next_line log c actor s item ∷ log) c actor s items) ≤ last_number
    → AreTold (put_lines (next_line log c actor s item ∷ log) c actor s items))
    → AreTold (lines_from back log c actor s item items)
item_told true item items log c actor s fits skip one take = skip fits
item_told false item items log c actor s fits skip one take =
    (one (omega arith), take (omega (arith, fits, draws_one s (next_number log s) (next_number log s) refl)))

-- Puts can be written as text if sequence numbers last; each item is decided after those before it.
pub puts_told : (items : List NewItem) (log : Journal) (c actor s : ℕ) → IsBy c actor → s < 2 ^ 64
    → AreNumbered 0 (shards log s) → length (shards log s) ≤ 2 ^ 64
    → next_number log s + length (put_lines log c actor s items) ≤ last_number → AllByRecursion IsItem items
    → AreTold (put_lines log c actor s items)
puts_told [] log c actor s is stream numbers few fits lawful = tt
puts_told (item ∷ items) log c actor s is stream numbers few fits lawful =
    item_told (is_held_back log c s item) item items log c actor s fits
    (λ room. puts_told items log c actor s is stream numbers few room lawful.1)
    (λ next. put_told log c actor s item is stream numbers few next lawful.0)
    (λ room. puts_told items (next_line log c actor s item ∷ log) c actor s is stream numbers few room lawful.1)

-- ---- Scalings: a plan of splits and merges

-- A split's hash key is below 2^128.
abbrev IsAtKey : ScaleStep → Type 0
IsAtKey (Join b) = Unit {0}
IsAtKey (Cut b) = b < 2 ^ 128

-- The line of a step of a scaling of the stream `s`.
abbrev step_line : Journal → ℕ → ℕ → ℕ → ScaleStep → Line
step_line log c actor s step = plain_line c actor (step_entry log s step)

many_join : (log : Journal) (c actor s b : ℕ) → length (shards (step_line log c actor s (Join b) ∷ log) s)
    ≡ length (shards log s) + 1
many_join log c actor s b = rw (is_itself s) (length_merged _ _ _ _ (shards log s))

many_cut : (log : Journal) (c actor s b : ℕ) → length (shards (step_line log c actor s (Cut b) ∷ log) s)
    ≡ length (shards log s) + 2
many_cut log c actor s b = rw (is_itself s) (length_split _ _ _ _ (shards log s))

module _ (numbered : (log : Journal) (s : ℕ) → AreNumbered 0 (shards log s)) where
  -- A scaling's steps can be written as text if sequence and shard numbers last for all.
  pub steps_told : (steps : List ScaleStep) (log : Journal) (c actor s : ℕ) → IsBy c actor → s < 2 ^ 64
      → AllByRecursion IsAtKey steps
      → next_number log s + length steps ≤ last_number → length (shards log s) + made_by steps ≤ last_number
      → AreTold (step_lines log c actor s steps)
  steps_told [] log c actor s is stream is_at fits room = tt
  steps_told (Join b ∷ steps) log c actor s is stream is_at fits room =
      let line = step_line log c actor s (Join b) in
      let low = home_fits log s (b - 1) (numbered log s) (omega arith) in
      let high = home_fits log s b (numbered log s) (omega arith) in (
        line_told c actor (step_entry log s (Join b)) is (
          stream,
          (low, (high, (omega arith, omega arith))),
        ),
        steps_told steps (line ∷ log) c actor s is stream is_at.1
            (omega (arith, fits, draws_one s (next_number log s) (next_number log s) refl))
            (omega (arith, room, many_join log c actor s b)),
      )
  steps_told (Cut b ∷ steps) log c actor s is stream is_at fits room =
      let line = step_line log c actor s (Cut b) in
      let sh = home_fits log s b (numbered log s) (omega arith) in (
        line_told c actor (step_entry log s (Cut b)) is (
          stream,
          (sh, (is_at.0, (omega arith, (omega arith, omega arith)))),
        ),
        steps_told steps (line ∷ log) c actor s is stream is_at.1
            (omega (arith, fits, draws_one s (next_number log s) (next_number log s) refl))
            (omega (arith, room, many_cut log c actor s b)),
      )

-- Each hash key is below 2^128.
abbrev AreBelow : List ℕ → Type 0
AreBelow bs = AllByRecursion (λ b. b < 2 ^ 128) bs

cuts_at : (bs : List ℕ) → AreBelow bs → AllByRecursion IsAtKey (map Cut bs)
cuts_at [] h = tt
cuts_at (b ∷ bs) h = (h.0, cuts_at bs h.1)

joins_at : (bs : List ℕ) (steps : List ScaleStep) → AllByRecursion IsAtKey steps
    → AllByRecursion IsAtKey (map Join bs ++ steps)
joins_at [] steps h = h
joins_at (b ∷ bs) steps h = (tt, joins_at bs steps h)

-- A scaling plan splits at hash keys, where uniform ranges begin.
pub plan_at : (starts : List ℕ) (target : ℕ) → 1 ≤ target → target ≤ 500 → AllByRecursion IsAtKey (scale starts target)
plan_at starts target least most =
    let wanted = uniform_starts target in
    joins_at (left_out wanted starts) (map Cut (left_out starts wanted)) (cuts_at (left_out starts wanted)
    (all_filter (λ b. b < 2 ^ 128) _ wanted (below_wanted target least most)))
