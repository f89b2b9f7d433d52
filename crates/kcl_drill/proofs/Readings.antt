-- Untrimmed, what a journal says of streams follows from its stream lines without clocks.
use Rattle.std.proofs.Common.{◌≡◌, ◌≢◌, ℕ, ◌+◌, ◌<◌, ◌≤◌, max, Bool, true, false, List, [], ◌∷◌, length, Option, Some}
use Rattle.std.proofs.Common.{None, refl, sym, ap, ◌∙◌, arith}
use Rattle.std.specs.Prelude.{◌==◌, ◌*◌, ◌||◌, not, map, cond, slice_get, if◌then◌else◌}
use Rattle.std.specs.List.{filter, find}
use Rattle.std.proofs.lemmas.Bool.Decides.{nat_tests}
use Rattle.std.proofs.lemmas.Bool.{cond_both}
use Rattle.kds_base.specs.Span.{uniform}
use Rattle.kds_defs.proofs.Elsewhere.{of_no_stream, of_none}
use Rattle.kds_defs.proofs.Elsewhere as elsewhere
use Rattle.kds_defs.specs.declared.entry.Entry.{Entry}
use Rattle.kds_defs.specs.declared.entry.Entry.TheVariants as entry
use Rattle.kds_defs.specs.declared.limits.TheConstants.{FIRST_HOURS}
use Rattle.kds_defs.specs.Journal.{Line, Journal}
use Rattle.kds_defs.specs.Legal.{IsInRange, IsLegal, last_clock}
use Rattle.kds_defs.specs.PutCommands.{enforced_after, is_enforced}
use Rattle.kds_defs.specs.Records.{draws, next_number}
use Rattle.kds_defs.specs.Shards.{ShardState, Closing, shards, shards_after, shard_at, is_open, open_shards, open_in}
use Rattle.kds_defs.specs.Shards.{open_count, home_among, home}
use Rattle.kds_defs.specs.Shards.{range_of, is_listed, is_listed_state, is_closed_below, was_closed_below, made_shards}
use Rattle.kds_defs.specs.StreamCommands.{is_open_at}
use Rattle.kds_defs.specs.Streams.{made_count, made_count_after, is_live, is_live_after, name_of, name_of_after, hours}
use Rattle.kds_defs.specs.Streams.{hours_after, numbers_from}
use Rattle.kds_defs.specs.Streams.{live_streams, stream_named, same_name, floor_at, floor_after, floor_of_lines}
use Rattle.kds_defs.specs.Streams.{trim_floor, was_made}
use Rattle.kds_defs.specs.Subjects.{stream_of}
use Rattle.kcl_drill.proofs.Undated.{undated_all, length_undated, at_undated, range_undated, firsts_undated}
use Rattle.kcl_drill.proofs.Undated.{split_undated, merged_undated, chosen}
use Rattle.kcl_drill.proofs.Undated.{open_undated, opens_undated, home_undated, listed_at, listed_undated}
use Rattle.kcl_drill.specs.Apart.{LEAST_RETENTION, is_stream_entry}

-- The line at the clock 0, with the value of `f` for its actor.
abbrev pub forget : (ℕ → ℕ) → Line → Line
forget f line = record line { clock = 0; by = f line.by }

-- The lines about streams, each at the clock 0 and with the value of `f` for its actor.
abbrev pub kept : (ℕ → ℕ) → Journal → Journal
kept f log = map (forget f) (filter (λ line. is_stream_entry line.what) log)

-- ---- A reading that follows the journal line by line

-- `step` computes the reading `R` line by line, unchanged by other lines; `φ` sets the clocks in a value to 0.
module _ {A : Type 0} (f : ℕ → ℕ) (R : Journal → A) (step : Line → A → A) (φ : A → A)
    (along : (line : Line) (log : Journal) → R (line ∷ log) ≡ step line (R log))
    (first : φ (R []) ≡ R [])
    (others : (line : Line) (a : A) → is_stream_entry line.what ≡ false → step line a ≡ a)
    (undates : (line : Line) (a : A) → φ (step line a) ≡ step (forget f line) (φ a)) where
  read_step : (line : Line) (log rest : Journal) (b : Bool) → is_stream_entry line.what ≡ b
      → φ (R log) ≡ R (map (forget f) rest)
      → φ (R (line ∷ log)) ≡ R (map (forget f) (cond b (line ∷ rest) rest))
  read_step line log rest true is so =
      ap φ (along line log) ∙ undates line (R log) ∙ ap (step (forget f line)) so
      ∙ sym (along (forget f line) (map (forget f) rest))
  read_step line log rest false is so = ap φ (along line log ∙ others line (R log) is) ∙ so

  -- The reading, with its clocks set to 0, follows from the lines on streams alone.
  pub reads_same : (log : Journal) → φ (R log) ≡ R (kept f log)
  reads_same [] = first
  reads_same (line ∷ log) =
      read_step line log (filter (λ l. is_stream_entry l.what) log) (is_stream_entry line.what) refl (reads_same log)

-- The function that changes nothing, for a reading without clocks.
abbrev same : {A : Type 0} → A → A
same a = a

pub no_stream : (e : Entry) (s : ℕ) → is_stream_entry e ≡ false → stream_of e ≢ Some s
no_stream e s is = of_no_stream e s (of_none (stream_of e) is)

-- The next sequence number and the shards of a stream, computed together.
record Grown : Type 0 where
  pub next : ℕ
  pub all : List ShardState

grown : Journal → ℕ → Grown
grown log s = record { next = next_number log s; all = shards log s }

grow : ℕ → Line → Grown → Grown
grow s line g = record {
  next = draws line.what s + g.next;
  all = shards_after line line.what s (draws line.what s + g.next) g.all;
}

undated_grown : Grown → Grown
undated_grown g = record g { all = undated_all g.all }

grow_other : (s : ℕ) (line : Line) (g : Grown) → is_stream_entry line.what ≡ false → grow s line g ≡ g
unfolding grow
grow_other s line g is =
    let none = no_stream line.what s is in
    let n = elsewhere.next_same line.what s g.next none in
    ap (λ n. record { next = n; all = shards_after line line.what s n g.all }) n
    ∙ ap (λ xs. record { next = g.next; all = xs }) (elsewhere.shards_same line line.what s g.next g.all none)

-- Each line's clock is below 24 hours, and its entry's numbers are in their ranges (`IsInRange`).
abbrev pub IsYoung : Journal → Type 0
IsYoung [] = Unit {0}
IsYoung (line ∷ log) = (line.clock < LEAST_RETENTION) × IsInRange line.what × IsYoung log

pub young_if_legal : (log : Journal) → IsLegal log → last_clock log < LEAST_RETENTION → IsYoung log
young_if_legal [] legal below = tt
young_if_legal (line ∷ log) legal below =
    (below, legal.0.in_range, young_if_legal log legal.1 (omega (arith, legal.0.in_order, below)))

least_by : (e : Entry) (s n : ℕ) → IsInRange e → 24 ≤ n → 24 ≤ hours_after e s n
least_by (entry.Made stream name shards) s n range so =
    cond_both (stream == s) FIRST_HOURS n (λ m. 24 ≤ m) (λ own. omega arith) (λ other. so)
least_by (entry.Kept stream wanted) s n range so =
    cond_both (stream == s) wanted n (λ m. 24 ≤ m) (λ own. range.0) (λ other. so)
least_by _ s n range so = so

least_hours : (log : Journal) (s : ℕ) → IsYoung log → 24 ≤ hours log s
least_hours [] s young = omega arith
least_hours (line ∷ log) s young = least_by line.what s (hours log s) young.1 (least_hours log s young.2)

no_floor : (clock hours : ℕ) → clock < 86400000 → 24 ≤ hours → floor_at clock (hours * 3600000) ≡ 0
no_floor clock hours below least = omega arith

floor_line : (log : Journal) (line : Line) (s : ℕ) → IsYoung (line ∷ log) → floor_after log line s ≡ 0
floor_line log line s young =
    none (was_made (line ∷ log) s) (was_made log s) _ _
    (no_floor line.clock (hours (line ∷ log) s) young.0 (least_hours (line ∷ log) s young))
    (no_floor line.clock (hours log s) young.0 (least_hours log s young.2))
  where
    none : (b d : Bool) (n m : ℕ) → n ≡ 0 → m ≡ 0 → (if b then max n (if d then m else 0) else 0) ≡ 0
    none true true n m h g = omega arith
    none true false n m h g = omega arith
    none false d n m h g = refl

pub both_none : (n m : ℕ) → n ≡ 0 → m ≡ 0 → max n m ≡ 0
both_none n m h g = omega arith

floor_lines : (log : Journal) (s : ℕ) → IsYoung log → floor_of_lines log s ≡ 0
floor_lines [] s young = refl
floor_lines (line ∷ log) s young = both_none _ _ (floor_line log line s young) (floor_lines log s young.2)

pub untrimmed : (log : Journal) (c s : ℕ) → IsYoung log → c < LEAST_RETENTION → trim_floor log c s ≡ 0
untrimmed log c s young below =
    both_none _ _ (no_floor c (hours log s) below (least_hours log s young)) (floor_lines log s young)

listed_by : (log : Journal) (c s : ℕ) (o : Option ShardState) → trim_floor log c s ≡ 0
    → is_listed_state log c s o ≡ listed_at (is_live log s) o
listed_by log c s None none = refl
listed_by log c s (Some x) none = ap (λ f. not (not (is_live log s) || is_closed_below f x)) none
    ∙ never (is_live log s) x.closing
  where
    never : (b : Bool) (c : Option Closing) → not (not b || was_closed_below 0 c) ≡ b
    never true None = refl
    never true (Some c) = grind (arith, nat_tests)
    never false c = refl

-- ---- Each reading is the same for the lines on streams alone

module _ (f : ℕ → ℕ) where
  pub made_count_same : (log : Journal) → made_count log ≡ made_count (kept f log)
  made_count_same log = reads_same f made_count (λ line n. made_count_after line.what n) same (λ line log. refl) refl
      (λ line n is. elsewhere.count_same line.what n (of_none (stream_of line.what) is)) (λ line n. refl) log

  pub is_live_same : (log : Journal) (s : ℕ) → is_live log s ≡ is_live (kept f log) s
  is_live_same log s = reads_same f (λ l. is_live l s) (λ line b. is_live_after line.what s b) same (λ line log. refl)
      refl
      (λ line b is. elsewhere.live_same line.what s b (no_stream line.what s is)) (λ line b. refl) log

  pub name_same : (log : Journal) (s : ℕ) → name_of log s ≡ name_of (kept f log) s
  name_same log s = reads_same f (λ l. name_of l s) (λ line n. name_of_after line.what s n) same (λ line log. refl) refl
      (λ line n is. elsewhere.name_same line.what s n (no_stream line.what s is)) (λ line n. refl) log

  pub hours_same : (log : Journal) (s : ℕ) → hours log s ≡ hours (kept f log) s
  hours_same log s = reads_same f (λ l. hours l s) (λ line n. hours_after line.what s n) same (λ line log. refl) refl
      (λ line n is. elsewhere.hours_same line.what s n (no_stream line.what s is)) (λ line n. refl) log

  pub enforced_same : (log : Journal) (s : ℕ) → is_enforced log s ≡ is_enforced (kept f log) s
  enforced_same log s =
      reads_same f (λ l. is_enforced l s) (λ line b. enforced_after line.what s b) same (λ line log. refl) refl
      (λ line b is. elsewhere.enforced_same line.what s b (no_stream line.what s is)) (λ line b. refl) log

  pub next_number_same : (log : Journal) (s : ℕ) → next_number log s ≡ next_number (kept f log) s
  next_number_same log s =
      reads_same f (λ l. next_number l s) (λ line n. draws line.what s + n) same (λ line log. refl) refl
      (λ line n is. elsewhere.next_same line.what s n (no_stream line.what s is)) (λ line n. refl) log

  shards_after_undated : (line : Line) (e : Entry) (s start : ℕ) (xs : List ShardState)
      → undated_all (shards_after line e s start xs) ≡ shards_after (forget f line) e s start (undated_all xs)
  shards_after_undated line (entry.Made stream name count) s start xs =
      chosen (stream == s) (made_shards count start) xs (made_shards count start) (undated_all xs)
      (firsts_undated 0 start (uniform count)) refl
  shards_after_undated line (entry.Split stream sh hash number low high) s start xs =
      chosen (stream == s) _ xs _ (undated_all xs) (split_undated sh hash number line.clock start xs) refl
  shards_after_undated line (entry.Merged stream sh other number child) s start xs =
      chosen (stream == s) _ xs _ (undated_all xs) (merged_undated sh other number line.clock start xs) refl
  shards_after_undated line _ s start xs = refl

  grow_undated : (s : ℕ) (line : Line) (g : Grown)
      → undated_grown (grow s line g) ≡ grow s (forget f line) (undated_grown g)
  unfolding grow undated_grown
  grow_undated s line g =
      ap (λ xs. record { next = draws line.what s + g.next; all = xs })
      (shards_after_undated line line.what s (draws line.what s + g.next) g.all)

  pub shards_same : (log : Journal) (s : ℕ) → undated_all (shards log s) ≡ shards (kept f log) s
  unfolding grown grow undated_grown
  shards_same log s = ap (λ g. g.all)
      (reads_same f (λ l. grown l s) (grow s) undated_grown (λ line log. refl) refl (grow_other s) (grow_undated s) log)

  pub open_shards_same : (log : Journal) (s : ℕ) → undated_all (open_shards log s) ≡ open_shards (kept f log) s
  open_shards_same log s = sym (opens_undated (shards log s)) ∙ ap (filter is_open) (shards_same log s)

  pub home_same : (log : Journal) (s k : ℕ) → home log s k ≡ home (kept f log) s k
  home_same log s k = sym (home_undated (open_shards log s) k) ∙ ap (λ xs. home_among xs k) (open_shards_same log s)

  pub length_same : (log : Journal) (s : ℕ) → length (shards log s) ≡ length (shards (kept f log) s)
  length_same log s = sym (length_undated (shards log s)) ∙ ap length (shards_same log s)

  pub range_same : (log : Journal) (s sh : ℕ) → range_of (shard_at log s sh) ≡ range_of (shard_at (kept f log) s sh)
  range_same log s sh =
      sym (range_undated (shards log s) sh) ∙ ap (λ xs. range_of (slice_get xs sh)) (shards_same log s)

  pub open_same : (log : Journal) (s sh : ℕ) → is_open_at (shard_at log s sh) ≡ is_open_at (shard_at (kept f log) s sh)
  open_same log s sh =
      sym (open_undated (shard_at log s sh)) ∙ ap is_open_at (sym (at_undated (shards log s) sh))
      ∙ ap (λ xs. is_open_at (slice_get xs sh)) (shards_same log s)

  pub live_same : (log : Journal) → live_streams log ≡ live_streams (kept f log)
  live_same log = λ i. filter (λ s. is_live_same log s i) (numbers_from 1 (made_count_same log i))

  pub named_same : (log : Journal) (name : List ℕ) → stream_named log name ≡ stream_named (kept f log) name
  named_same log name = λ i. find (λ s. same_name (name_same log s i) name) (live_same log i)

  open_in_same : (log : Journal) (ss : List ℕ) → open_in log ss ≡ open_in (kept f log) ss
  open_in_same log [] = refl
  open_in_same log (s ∷ ss) =
      let one : length (open_shards log s) ≡ length (open_shards (kept f log) s) =
      sym (length_undated (open_shards log s)) ∙ ap length (open_shards_same log s) in
      ap (λ n. n + open_in log ss) one ∙ ap (λ n. length (open_shards (kept f log) s) + n) (open_in_same log ss)

  pub open_count_same : (log : Journal) → open_count log ≡ open_count (kept f log)
  open_count_same log = open_in_same log (live_streams log) ∙ ap (open_in (kept f log)) (live_same log)

  young_step : (line : Line) (rest : Journal) (b : Bool) → IsInRange line.what → IsYoung (map (forget f) rest)
      → IsYoung (map (forget f) (cond b (line ∷ rest) rest))
  young_step line rest true range young = (omega arith, range, young)
  young_step line rest false range young = young

  pub young_undated : (log : Journal) → IsYoung log → IsYoung (kept f log)
  young_undated [] young = tt
  young_undated (line ∷ log) young =
      young_step line (filter (λ l. is_stream_entry l.what) log) (is_stream_entry line.what) young.1
      (young_undated log young.2)

  -- Below 24 hours, whether a shard is listed follows from the lines on streams alone.
  pub listed_same : (log : Journal) (c d s sh : ℕ) → IsYoung log → c < LEAST_RETENTION → d < LEAST_RETENTION
      → is_listed log c s sh ≡ is_listed (kept f log) d s sh
  listed_same log c d s sh young below below' =
      listed_by log c s (shard_at log s sh) (untrimmed log c s young below)
      ∙ ap (λ b. listed_at b (shard_at log s sh)) (is_live_same log s)
      ∙ sym (listed_undated (is_live (kept f log) s) (shard_at log s sh))
      ∙ ap (listed_at (is_live (kept f log) s)) (sym (at_undated (shards log s) sh)
      ∙ ap (λ xs. slice_get xs sh) (shards_same log s))
      ∙ sym (listed_by (kept f log) d s (shard_at (kept f log) s sh)
      (untrimmed (kept f log) d s (young_undated log young) below'))
