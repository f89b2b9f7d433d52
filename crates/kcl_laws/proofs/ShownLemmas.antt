-- If a journal is legal, so is the journal that its text shows.
use Rattle.std.proofs.Common.{◌≡◌, ℕ, zero, suc, ◌+◌, ◌≤◌, Bool, true, false, List, [], ◌∷◌, length, map, slice_get}
use Rattle.std.proofs.Common.{Option, Some, None, refl, sym, ap, subst, ◌∙◌}
use Rattle.std.specs.Prelude.{◌==◌, ◌&&◌, ◌||◌, not, is_some, nat_le, nat_lt, if◌then◌else◌}
use Rattle.kds_base.specs.declared.lease_key.ShardRef.{ShardRef}
use Rattle.kds_base.specs.Span.{are_adjacent, is_inside}
use Rattle.kds_defs.specs.declared.command.Target.{Target}
use Rattle.kds_defs.specs.declared.command.Target.TheVariants as target
use Rattle.kds_defs.specs.declared.entry.Entry.{Entry}
use Rattle.kds_defs.specs.declared.entry.Entry.TheVariants as entry
use Rattle.kds_defs.specs.declared.limits.TheConstants.{LIVE_STREAMS, OPEN_SHARDS}
use Rattle.kds_defs.specs.declared.reply.Refusal.{Refusal}
use Rattle.kds_defs.specs.declared.reply.Reply.{Reply}
use Rattle.kds_defs.specs.Decision.{Decision, Refused, Accepted, refuse◌if◌else◌, with◌or◌then◌}
use Rattle.kcl_laws.specs.ShownLines.{blank, entry_line, shown_journal, shown_line}
use Rattle.kds_defs.specs.Journal.{Line, Journal, plain_line}
use Rattle.kds_defs.specs.Keys.{ref}
use Rattle.kds_defs.specs.LeaseCommands.{is_unread, past_parent, past_parents, past_target, with_held, with_tenure}
use Rattle.kds_defs.specs.RowWrites.{least}
use Rattle.kds_defs.specs.Leases.{TenureState, checkpoint_in, counter_in, floor_in, reach, is_marked_to_end, row}
use Rattle.kds_defs.specs.Leases.{tenure_in}
use Rattle.kds_defs.specs.Legal.{IsGood, IsLegal, IsReached, in_stream, reach_in, told}
use Rattle.kds_defs.specs.Records.{position_after}
use Rattle.kds_defs.specs.Shards.{ShardState, range_of, shard_at}
use Rattle.kds_defs.specs.Rates.{is_throttled}
use Rattle.kds_defs.specs.StreamCommands.{is_open_at, last_number}
use Rattle.kds_defs.proofs.Decisions.{passes, same_line}
use Rattle.kcl_laws.proofs.ShownReadings.{clock_is, ends_is, enforced_is, home_is, hours_is, listed_is, live_is}
use Rattle.kcl_laws.proofs.ShownReadings.{made_is, named_is, next_is, numbers_are, open_is, origin_is, puts_are, row_is}
use Rattle.kcl_laws.proofs.ShownReadings.{shards_are, streams_are, taken_is, tenure_is}

-- If the first decision accepts, so does the second, with the lines that the text shows.
abbrev Shows : Decision → Decision → Type 0
Shows (Refused r) d = Unit {0}
Shows (Accepted lines reply) (Refused r) = ⊥
Shows (Accepted lines reply) (Accepted lines' reply') = lines' ≡ map shown_line lines

past : (r r' : Refusal) (b b' : Bool) (d d' : Decision) → b' ≡ b → Shows d d'
    → Shows (refuse r if b else d) (refuse r' if b' else d')
unfolding refuse◌if◌else◌
past r r' true b' d d' e h = tt
past r r' false true d d' e h = absurd cc
past r r' false false d d' e h = h

past_with : {A : Type 0} (o o' : Option A) (r r' : Refusal) (f f' : A → Decision) → o' ≡ o
    → ((x : A) → Shows (f x) (f' x)) → Shows (with o or r then f) (with o' or r' then f')
unfolding with◌or◌then◌
past_with None o' r r' f f' e h = tt
past_with (Some x) None r r' f f' e h = absurd cc
past_with (Some x) (Some y) r r' f f' e h = let same : x ≡ y = cc in subst (λ z. Shows (f x) (f' z)) same (h x)

-- ---- The commands on streams

live_past : (log : Journal) (s : ℕ) (d d' : Decision) → Shows d d'
    → Shows (in_stream log s d) (in_stream (shown_journal log) s d')
live_past log s d d' h = past _ _ _ _ _ _ (ap not (live_is log s)) h

tenure_past : (log : Journal) (actor t : ℕ) (f f' : TenureState → Decision) → ((T : TenureState) → Shows (f T) (f' T))
    → Shows (with_tenure log actor t f) (with_tenure (shown_journal log) actor t f')
tenure_past log actor t f f' h = past_with _ _ _ _ _ _ (tenure_is log t) (λ T. past _ _ _ _ _ _ refl (h T))

held_past : (log : Journal) (actor t : ℕ) (f f' : TenureState → Decision) → ((T : TenureState) → Shows (f T) (f' T))
    → Shows (with_held log actor t f) (with_held (shown_journal log) actor t f')
held_past log actor t f f' h =
    tenure_past log actor t _ _ (λ T. past _ _ _ _ _ _ (λ i. not (tenure_in (row_is log T.key i) == t)) (h T))

counter_past : (log : Journal) (key : ShardRef) (counter : ℕ) (r r' : Refusal) (d d' : Decision) → Shows d d'
    → Shows (refuse r if not (counter_in (row log key) == counter) else d)
    (refuse r' if not (counter_in (row (shown_journal log) key) == counter) else d')
counter_past log key counter r r' d d' h = past _ _ _ _ _ _ (λ i. not (counter_in (row_is log key i) == counter)) h

spent_past : (log : Journal) (key : ShardRef) (r r' : Refusal) (d d' : Decision) → Shows d d'
    → Shows (refuse r if counter_in (row log key) == last_number else d)
    (refuse r' if counter_in (row (shown_journal log) key) == last_number else d')
spent_past log key r r' d d' h = past _ _ _ _ _ _ (λ i. counter_in (row_is log key i) == last_number) h

unread_is : (log : Journal) (c : ℕ) (key : ShardRef) → is_unread (shown_journal log) c key ≡ is_unread log c key
unread_is log c key = λ i. listed_is log c key.stream key.shard i && not (is_marked_to_end (row_is log key i))

parent_past : (log : Journal) (c s : ℕ) (o : Option ℕ) (d d' : Decision) → Shows d d'
    → Shows (past_parent log c s o d) (past_parent (shown_journal log) c s o d')
parent_past log c s None d d' h = h
parent_past log c s (Some n) d d' h = past _ _ _ _ _ _ (unread_is log c (ref s n)) h

parents_of : (log : Journal) (c s : ℕ) (o : Option ShardState) (d d' : Decision) → Shows d d'
    → Shows (past_parents log c s o d) (past_parents (shown_journal log) c s o d')
parents_of log c s None d d' h = h
parents_of log c s (Some x) d d' h = parent_past log c s x.parent _ _ (parent_past log c s x.adjacent d d' h)

parents_past : (log : Journal) (c : ℕ) (key : ShardRef) (d d' : Decision) → Shows d d'
    → Shows (past_parents log c key.stream (shard_at log key.stream key.shard) d)
    (past_parents (shown_journal log) c key.stream (shard_at (shown_journal log) key.stream key.shard) d')
parents_past log c key d d' h =
    subst (λ (xs : List ShardState).
    Shows (past_parents log c key.stream (shard_at log key.stream key.shard) d)
    (past_parents (shown_journal log) c key.stream (slice_get xs key.shard) d')) (sym (shards_are log key.stream))
    (parents_of log c key.stream (shard_at log key.stream key.shard) d d' h)

target_past : (log : Journal) (T : TenureState) (goal : Target) (d d' : Decision) → Shows d d'
    → Shows (past_target log T goal d) (past_target (shown_journal log) T goal d')
target_past log T (target.At q) d d' h =
    past _ _ _ _ _ _ (λ i. is_marked_to_end (row_is log T.key i))
    (past _ _ _ _ _ _ refl
    (past _ _ _ _ _ _ (λ i. nat_lt q (least (checkpoint_in (row_is log T.key i)) (floor_in (row_is log T.key i))))
    h))
target_past log T target.End d d' h = past _ _ _ _ _ _ refl h

-- ---- Each entry

pub length-blank : (n : ℕ) → length (blank n) ≡ n
length-blank zero = refl
length-blank (suc n) = ap suc (length-blank n)

-- The byte counts of a put are the lengths of the line's payload and key.
abbrev IsSized : Line → Entry → Type 0
IsSized line (entry.Put s sh n hash bytes key_bytes) = (length line.payload ≡ bytes) × (length line.key ≡ key_bytes)
IsSized line _ = Unit {0}

shows_told : (log : Journal) (line : Line) (change : Entry) → line.what ≡ change → IsSized line change
    → Shows (told log line change) (told (shown_journal log) (entry_line line.clock line.by change) change)
shows_told log line (entry.Made s name count) is sized =
    past _ _ _ _ _ _ (ap is_some (named_is log name))
    (past _ _ _ _ _ _ (λ i. nat_le LIVE_STREAMS (length (streams_are log i))
    || nat_lt OPEN_SHARDS (open_is log i + count)) (past _ _ _ _ _ _ (ap (λ n. n == last_number) (made_is log))
    (λ i. plain_line line.clock line.by (entry.Made (made_is log i + 1) name count) ∷ [])))
shows_told log line (entry.Gone s) is sized = live_past log s _ _ refl
shows_told log line (entry.Put s sh n hash bytes key_bytes) is sized = live_past log s _ _ (
    past _ _ _ _ _ _ (λ i. enforced_is log s i
    && is_throttled (puts_are log s (home_is log s hash i) i) line.clock (bytes_len i + key_len i))
    (past _ _ _ _ _ _ (ap (λ m. m == last_number) (next_is log s))
    (λ i. (record {
      clock = line.clock;
      by = line.by;
      what = entry.Put s (home_is log s hash i) (next_is log s i) hash (bytes_len i) (key_len i);
      key = blank (sym sized.1 i);
      payload = blank (sym sized.0 i);
    }) ∷ [])))
  where
    bytes_len : length (blank bytes) ≡ length line.payload
    bytes_len = length-blank bytes ∙ sym sized.0

    key_len : length (blank key_bytes) ≡ length line.key
    key_len = length-blank key_bytes ∙ sym sized.1
shows_told log line (entry.Split s sh key_hash n low high) is sized = live_past log s _ _ (
    past _ _ _ _ _ _ (ap not (listed_is log line.clock s sh))
    (past _ _ _ _ _ _ (λ i. not (is_open_at (slice_get (shards_are log s i) sh)))
    (past _ _ _ _ _ _ (λ i. not (is_inside (range_of (slice_get (shards_are log s i) sh)) key_hash))
    (past _ _ _ _ _ _ (ap (nat_le OPEN_SHARDS) (open_is log))
    (past _ _ _ _ _ _ (λ i. nat_lt last_number (length (shards_are log s i) + 1) || next_is log s i
    == last_number)
    (λ i. plain_line line.clock line.by
    (entry.Split s sh key_hash (next_is log s i) (length (shards_are log s i)) (length (shards_are log s i) + 1))
    ∷ []))))))
shows_told log line (entry.Merged s sh other n child) is sized = live_past log s _ _ (
    past _ _ _ _ _ _ (λ i. not (listed_is log line.clock s sh i && listed_is log line.clock s other i))
    (past _ _ _ _ _ _ (λ i.
    not (is_open_at (slice_get (shards_are log s i) sh) && is_open_at (slice_get (shards_are log s i) other)))
    (past _ _ _ _ _ _ (λ i.
    not (are_adjacent (range_of (slice_get (shards_are log s i) sh))
    (range_of (slice_get (shards_are log s i) other))))
    (past _ _ _ _ _ _ (λ i. nat_lt last_number (length (shards_are log s i)) || next_is log s i == last_number)
    (λ i. plain_line line.clock line.by (entry.Merged s sh other (next_is log s i) (length (shards_are log s i)))
    ∷ [])))))
shows_told log line (entry.Kept s wanted) is sized = live_past log s _ _ (
    past _ _ _ _ _ _ (λ i. if not (nat_lt wanted (hours_is log s i)) then nat_lt wanted (hours_is log s i) else nat_lt
    (hours_is log s i) wanted) refl)
shows_told log line (entry.Enforced s is_on) is sized = live_past log s _ _ refl
shows_told log line (entry.LeaseMade key origin) is sized =
    past _ _ _ _ _ _ (ap not (listed_is log line.clock key.stream key.shard))
    (past _ _ _ _ _ _ (ap is_some (row_is log key))
    (λ i. plain_line line.clock line.by (entry.LeaseMade key (origin_is log key origin i)) ∷ []))
shows_told log line (entry.Taken key t counter owner) is sized =
    past_with _ _ _ _ _ _ (row_is log key)
    (λ r. past _ _ _ _ _ _ refl
    (past _ _ _ _ _ _ refl (past _ _ _ _ _ _ (λ i. r.counter == last_number || taken_is log i == last_number)
    (λ i. plain_line line.clock line.by (entry.Taken key (taken_is log i + 1) (r.counter + 1) owner) ∷ []))))
shows_told log line (entry.Renewed t counter) is sized =
    held_past log line.by t _ _ (λ T. counter_past log T.key _ _ _ _ _ (spent_past log T.key _ _ _ _ refl))
shows_told log line (entry.Freed t counter) is sized =
    held_past log line.by t _ _ (λ T. counter_past log T.key _ _ _ _ _ (spent_past log T.key _ _ _ _ refl))
shows_told log line (entry.Opened t) is sized =
    held_past log line.by t _ _
    (λ T. past _ _ _ _ _ _ refl
    (past _ _ _ _ _ _ (ap not (listed_is log line.clock T.key.stream T.key.shard))
    (parents_past log line.clock T.key _ _ refl)))
shows_told log line (entry.Read t limit ended numbers) is sized =
    tenure_past log line.by t _ _
    (λ T. past _ _ _ _ _ _ refl
    (past _ _ _ _ _ _ (ap not (listed_is log line.clock T.key.stream T.key.shard)) (past _ _ _ _ _ _ refl
    (past _ _ _ _ _ _ (λ i. not (reach_in (tenure_is log t i) == reach T)) (λ i. (
    let ns = numbers_are log line.clock T.key.stream T.key.shard (reach T) limit in
    plain_line line.clock line.by
    (entry.Read t limit (ends_is log line.clock T.key.stream T.key.shard (position_after (reach T) (ns i)) i) (ns i))
    ∷ []))))))
shows_told log line (entry.Given t) is sized = tenure_past log line.by t _ _ (λ T. past _ _ _ _ _ _ refl refl)
shows_told log line (entry.Marked t counter goal) is sized =
    held_past log line.by t _ _
    (λ T. counter_past log T.key _ _ _ _ _ (target_past log T goal _ _ (spent_past log T.key _ _ _ _ refl)))
shows_told log line (entry.LeaseCut key counter) is sized =
    past_with _ _ _ _ _ _ (row_is log key)
    (λ r. past _ _ _ _ _ _ refl (past _ _ _ _ _ _ (listed_is log line.clock key.stream key.shard) refl))

-- ---- A good line

same_bytes : (s s' h sh n n' hash hash' bytes bytes' k k' : ℕ)
    → entry.Put s h n hash bytes k ≡ entry.Put s' sh n' hash' bytes' k' → (bytes ≡ bytes') × (k ≡ k')
same_bytes s s' h sh n n' hash hash' bytes bytes' k k' e = (cc, cc)

good_sized : (log : Journal) (line : Line) (change : Entry) (reply : Reply) → line.what ≡ change
    → told log line change ≡ Accepted (line ∷ []) reply → IsSized line change
good_sized log line (entry.Put s sh n hash bytes key_bytes) reply is h =
    let live = passes _ _ _ _ _ h in
    let admitted = passes _ _ _ _ _ live.1 in
    let spent = passes _ _ _ _ _ admitted.1 in
    same_bytes s s _ sh _ n hash hash (length line.payload) bytes (length line.key) key_bytes
    (ap (λ (l : Line). l.what) (same_line _ line _ reply spent.1) ∙ is)
good_sized log line _ reply is h = tt

accepted_so : (reply : Reply) (line : Line) (d : Decision) → Shows (Accepted (line ∷ []) reply) d → (reply' : Reply)
    × (d ≡ Accepted (shown_line line ∷ []) reply')
accepted_so reply line (Refused r) h = absurd h
accepted_so reply line (Accepted lines answer) h = (answer, ap (λ ls. Accepted ls answer) h)

shown_good : (log : Journal) (line : Line) → IsGood log line → IsGood (shown_journal log) (shown_line line)
shown_good log line g =
    let d = told (shown_journal log) (shown_line line) line.what in
    let shows = shows_told log line line.what refl (good_sized log line line.what g.reply refl g.allowed) in
    let so = accepted_so g.reply line d (subst (λ (x : Decision). Shows x d) g.allowed shows) in
    record {
      in_order = subst (λ n. n ≤ line.clock) (sym (clock_is log)) g.in_order;
      in_range = g.in_range;
      reply = so.0;
      allowed = so.1;
    }

pub shown_legal : (log : Journal) → IsLegal log → IsLegal (shown_journal log)
shown_legal [] h = tt
shown_legal (line ∷ log) h = (shown_good log line h.0, shown_legal log h.1)

pub shown_reached : (log : Journal) (c : ℕ) → IsReached log c → IsReached (shown_journal log) c
shown_reached log c h =
    record { legal = shown_legal log h.legal; order = subst (λ n. n ≤ c) (sym (clock_is log)) h.order }
