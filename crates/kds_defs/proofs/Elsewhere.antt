-- A line about another stream or a lease changes nothing of a stream; a line about a stream no row or tenure.
use Rattle.std.proofs.Common.{◌≡◌, ◌≢◌, ℕ, ◌+◌, ◌*◌, ◌≤◌, max, Bool, true, false, List, [], ◌∷◌, Option, Some, None}
use Rattle.std.proofs.Common.{refl, sym, ap, ◌∙◌, arith}
use Rattle.std.specs.Prelude.{◌==◌, is_some, if◌then◌else◌}
use Rattle.std.proofs.lemmas.Bool.{cond-false, ne_eqb}
use Rattle.std.proofs.lemmas.Option.{none-some, same_Some}
use Rattle.kds_base.specs.declared.lease_key.ShardRef.{ShardRef}
use Rattle.kds_defs.specs.declared.entry.Entry.{Entry}
use Rattle.kds_defs.specs.declared.entry.Entry.TheVariants as entry
use Rattle.kds_defs.specs.declared.limits.TheConstants.{HOUR}
use Rattle.kds_defs.specs.declared.reply.Row.{Row}
use Rattle.kds_defs.specs.Journal.{Line, Journal}
use Rattle.kds_defs.specs.Leases.{TenureState, row_after, row_keys_after, taken_count_after, tenure_after}
use Rattle.kds_defs.specs.PutCommands.{enforced_after, is_enforced}
use Rattle.kds_defs.specs.Rates.{SizedPut, puts, puts_after}
use Rattle.kds_defs.specs.Records.{Logged, draws, next_number, records, records_after}
use Rattle.kds_defs.specs.Shards.{ShardState, shards, shards_after}
use Rattle.kds_defs.specs.Streams.{floor_after, floor_at, floor_of_lines, hours, hours_after, is_live, is_live_after}
use Rattle.kds_defs.specs.Streams.{made_at, made_at_after}
use Rattle.kds_defs.specs.Streams.{made_count_after, name_of, name_of_after, trim_floor, was_made, was_made_after}
use Rattle.kds_defs.specs.Subjects.{IsFresh, stream_of}

-- ---- Entries that aren't about a stream

pub of_no_stream : (change : Entry) (s : ℕ) → stream_of change ≡ None → stream_of change ≢ Some s
of_no_stream change s none = λ h. none-some s (sym none ∙ h)

pub of_other : (change : Entry) (s m : ℕ) → stream_of change ≡ Some s → s ≢ m → stream_of change ≢ Some m
of_other change s m is apart = λ h. apart (same_Some s m (sym is ∙ h))

pub of_some : (o : Option ℕ) → is_some o ≡ true → o ≢ None
of_some None h = absurd cc
of_some (Some s) h = λ e. cc

pub of_none : (o : Option ℕ) → is_some o ≡ false → o ≡ None
of_none None h = refl
of_none (Some s) h = absurd cc

-- ---- What a journal says of a stream after an entry that isn't about this stream

differ : (a s : ℕ) → Some a ≢ Some s → (a == s) ≡ false
differ a s h = ne_eqb a s (λ e. h (ap Some e))

pub live_same : (change : Entry) (s : ℕ) (old : Bool) → stream_of change ≢ Some s → is_live_after change s old ≡ old
live_same (entry.Made a name count) s old h = rw (differ a s h) refl
live_same (entry.Gone a) s old h = rw (differ a s h) refl
live_same _ s old h = refl

pub made_same : (change : Entry) (s : ℕ) (old : Bool) → stream_of change ≢ Some s → was_made_after change s old ≡ old
made_same (entry.Made a name count) s old h = rw (differ a s h) refl
made_same _ s old h = refl

pub name_same : (change : Entry) (s : ℕ) (old : List ℕ) → stream_of change ≢ Some s
    → name_of_after change s old ≡ old
name_same (entry.Made a name count) s old h = rw (differ a s h) refl
name_same _ s old h = refl

pub made_at_same : (line : Line) (change : Entry) (s old : ℕ) → stream_of change ≢ Some s
    → made_at_after line change s old ≡ old
made_at_same line (entry.Made a name count) s old h = rw (differ a s h) refl
made_at_same line _ s old h = refl

pub hours_same : (change : Entry) (s old : ℕ) → stream_of change ≢ Some s → hours_after change s old ≡ old
hours_same (entry.Made a name count) s old h = rw (differ a s h) refl
hours_same (entry.Kept a wanted) s old h = rw (differ a s h) refl
hours_same _ s old h = refl

pub none_drawn : (change : Entry) (s : ℕ) → stream_of change ≢ Some s → draws change s ≡ 0
none_drawn (entry.Put a sh number hash bytes key_bytes) s h = rw (differ a s h) refl
none_drawn (entry.Split a sh key_hash number low high) s h = rw (differ a s h) refl
none_drawn (entry.Merged a sh other number child) s h = rw (differ a s h) refl
none_drawn _ s h = refl

pub next_same : (change : Entry) (s next : ℕ) → stream_of change ≢ Some s → draws change s + next ≡ next
next_same change s next h = let none = none_drawn change s h in omega (arith)

pub shards_same : (line : Line) (change : Entry) (s start : ℕ) (old : List ShardState) → stream_of change ≢ Some s
    → shards_after line change s start old ≡ old
shards_same line (entry.Made a name count) s start old h = rw (differ a s h) refl
shards_same line (entry.Split a sh hash number low high) s start old h = rw (differ a s h) refl
shards_same line (entry.Merged a sh other number child) s start old h = rw (differ a s h) refl
shards_same line _ s start old h = refl

-- An entry about another stream or a lease leaves a shard's records as they are.
pub records_same : (line : Line) (change : Entry) (s sh : ℕ) (old : List Logged) → stream_of change ≢ Some s
    → records_after line change s sh old ≡ old
records_same line (entry.Put a shard number hash bytes key_bytes) s sh old h = rw (differ a s h) refl
records_same line _ s sh old h = refl

pub puts_same : (line : Line) (change : Entry) (s sh : ℕ) (old : List SizedPut) → stream_of change ≢ Some s
    → puts_after line change s sh old ≡ old
puts_same line (entry.Put a shard number hash bytes key_bytes) s sh old h = rw (differ a s h) refl
puts_same line _ s sh old h = refl

pub enforced_same : (change : Entry) (s : ℕ) (old : Bool) → stream_of change ≢ Some s
    → enforced_after change s old ≡ old
enforced_same (entry.Enforced a is_on) s old h = rw (differ a s h) refl
enforced_same _ s old h = refl

-- Two journals say the same of stream `s`, perhaps except for its trim floor.
pub record SameStream (log log' : Journal) (s : ℕ) : Type 0 where
  pub live : is_live log s ≡ is_live log' s
  pub was : was_made log s ≡ was_made log' s
  pub named : name_of log s ≡ name_of log' s
  pub made_is : made_at log s ≡ made_at log' s
  pub hours_are : hours log s ≡ hours log' s
  pub next_is : next_number log s ≡ next_number log' s
  pub shards_are : shards log s ≡ shards log' s
  pub records_are : (sh : ℕ) → records log s sh ≡ records log' s sh
  pub puts_are : (sh : ℕ) → puts log s sh ≡ puts log' s sh
  pub enforced_is : is_enforced log s ≡ is_enforced log' s

pub same_stream : (log : Journal) (line : Line) (s : ℕ) → stream_of line.what ≢ Some s → SameStream (line ∷ log) log s
same_stream log line s h = record {
  live = live_same line.what s (is_live log s) h;
  was = made_same line.what s (was_made log s) h;
  named = name_same line.what s (name_of log s) h;
  made_is = made_at_same line line.what s (made_at log s) h;
  hours_are = hours_same line.what s (hours log s) h;
  next_is = next_same line.what s (next_number log s) h;
  shards_are = shards_same line line.what s (next_number (line ∷ log) s) (shards log s) h;
  records_are = λ sh. records_same line line.what s sh (records log s sh) h;
  puts_are = λ sh. puts_same line line.what s sh (puts log s sh) h;
  enforced_is = enforced_same line.what s (is_enforced log s) h;
}

pub same_again : (log : Journal) (s : ℕ) → SameStream log log s
same_again log s = record {
  live = refl;
  was = refl;
  named = refl;
  made_is = refl;
  hours_are = refl;
  next_is = refl;
  shards_are = refl;
  records_are = λ sh. refl;
  puts_are = λ sh. refl;
  enforced_is = refl;
}

pub same_along : (log log' log'' : Journal) (s : ℕ) → SameStream log log' s → SameStream log' log'' s
    → SameStream log log'' s
same_along log log' log'' s a b = record {
  live = a.live ∙ b.live;
  was = a.was ∙ b.was;
  named = a.named ∙ b.named;
  made_is = a.made_is ∙ b.made_is;
  hours_are = a.hours_are ∙ b.hours_are;
  next_is = a.next_is ∙ b.next_is;
  shards_are = a.shards_are ∙ b.shards_are;
  records_are = λ sh. a.records_are sh ∙ b.records_are sh;
  puts_are = λ sh. a.puts_are sh ∙ b.puts_are sh;
  enforced_is = a.enforced_is ∙ b.enforced_is;
}

pub count_same : (change : Entry) (n : ℕ) → stream_of change ≡ None → made_count_after change n ≡ n
count_same (entry.Made s name count) n h = absurd cc
count_same _ n h = refl

-- ---- The trim floor of a stream after a line that doesn't change the retention

floor_by : Bool → Bool → ℕ → ℕ → ℕ → ℕ → ℕ → ℕ
floor_by made old c d hours hours_before low =
    let now = floor_at d (hours * HOUR) in
    let earlier = if old then floor_at d (hours_before * HOUR) else 0 in
    max (floor_at c (hours * HOUR)) (max (if made then max now earlier else 0) low)

floor_is : (log : Journal) (line : Line) (s c : ℕ)
    → trim_floor (line ∷ log) c s
    ≡ floor_by (was_made (line ∷ log) s) (was_made log s) c line.clock (hours (line ∷ log) s) (hours log s)
    (floor_of_lines log s)
unfolding floor_by
floor_is log line s c = refl

no_higher : (made old : Bool) (c d h low : ℕ) → d ≤ c
    → floor_by made old c d h h low ≡ max (floor_at c (h * HOUR)) low
unfolding floor_by
no_higher true true c d h low later = omega (arith)
no_higher true false c d h low later = omega (arith)
no_higher false old c d h low later = omega arith

-- Only a change of the retention moves the trim floor of a later clock.
pub floor_same : (log : Journal) (line : Line) (s c : ℕ) → line.clock ≤ c → hours (line ∷ log) s ≡ hours log s
    → trim_floor (line ∷ log) c s ≡ trim_floor log c s
floor_same log line s c later same =
    floor_is log line s c
    ∙ ap (λ h. floor_by (was_made (line ∷ log) s) (was_made log s) c line.clock h (hours log s) (floor_of_lines log s))
    same
    ∙ no_higher (was_made (line ∷ log) s) (was_made log s) c line.clock (hours log s) (floor_of_lines log s) later

-- ---- A stream that no line is about

pub fresh_empty : (s : ℕ) → IsFresh [] s
fresh_empty s = record {
  gone = refl;
  unmade = refl;
  undrawn = refl;
  no_floor = refl;
  no_shards = refl;
  no_records = λ sh. refl;
  no_puts = λ sh. refl;
  not_enforced = refl;
}

no_floor_by : (log : Journal) (line : Line) (s : ℕ) → was_made (line ∷ log) s ≡ false → floor_after log line s ≡ 0
no_floor_by log line s h = cond-false (was_made (line ∷ log) s) _ 0 h

pub fresh_other : (log : Journal) (line : Line) (s : ℕ) → IsFresh log s → stream_of line.what ≢ Some s
    → IsFresh (line ∷ log) s
fresh_other log line s fresh other =
    let same = same_stream log line s other in
    let none = no_floor_by log line s (same.was ∙ fresh.unmade) in
    record {
      gone = same.live ∙ fresh.gone;
      unmade = same.was ∙ fresh.unmade;
      undrawn = same.next_is ∙ fresh.undrawn;
      no_floor = omega (arith);
      no_shards = same.shards_are ∙ fresh.no_shards;
      no_records = λ sh. same.records_are sh ∙ fresh.no_records sh;
      no_puts = λ sh. same.puts_are sh ∙ fresh.no_puts sh;
      not_enforced = same.enforced_is ∙ fresh.not_enforced;
    }

-- ---- Rows and tenures after an entry about a stream

pub row_same : (log : Journal) (line : Line) (change : Entry) (key : ShardRef) (old : Option Row)
    → stream_of change ≢ None
    → row_after log line change key old ≡ old
row_same log line (entry.LeaseMade k origin) key old h = absurd (h refl)
row_same log line (entry.LeaseCut k counter) key old h = absurd (h refl)
row_same log line (entry.Taken k t counter owner) key old h = absurd (h refl)
row_same log line (entry.Renewed t counter) key old h = absurd (h refl)
row_same log line (entry.Freed t counter) key old h = absurd (h refl)
row_same log line (entry.Marked t counter target) key old h = absurd (h refl)
row_same log line _ key old h = refl

pub keys_same : (change : Entry) (old : List ShardRef) → stream_of change ≢ None → row_keys_after change old ≡ old
keys_same (entry.LeaseMade key origin) old h = absurd (h refl)
keys_same (entry.LeaseCut key counter) old h = absurd (h refl)
keys_same _ old h = refl

pub taken_same : (change : Entry) (old : ℕ) → stream_of change ≢ None → taken_count_after change old ≡ old
taken_same (entry.Taken key t counter owner) old h = absurd (h refl)
taken_same _ old h = refl

pub tenure_same : (log : Journal) (line : Line) (change : Entry) (t : ℕ) (old : Option TenureState)
    → stream_of change ≢ None
    → tenure_after log line change t old ≡ old
tenure_same log line (entry.Taken key u counter owner) t old h = absurd (h refl)
tenure_same log line (entry.Opened u) t old h = absurd (h refl)
tenure_same log line (entry.Read u limit ended numbers) t old h = absurd (h refl)
tenure_same log line (entry.Given u) t old h = absurd (h refl)
tenure_same log line _ t old h = refl
