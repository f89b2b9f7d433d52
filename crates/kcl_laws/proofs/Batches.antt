-- Sequence numbers of a shard rise, and a batch has all untrimmed records up to the position after it.
use Rattle.std.proofs.Common.{◌≡◌, ℕ, zero, suc, ◌+◌, ◌-◌, ◌<◌, ◌≤◌, Bool, true, false, List, [], ◌∷◌, ◌++◌, Some, refl}
use Rattle.std.proofs.Common.{sym, ap, subst, ◌∙◌, arith, inl, inr}
use Rattle.std.specs.Prelude.{◌==◌, ◌&&◌, ◌||◌, ◌⊎◌, not, nat_le, nat_lt, cond, if◌then◌else◌}
use Rattle.std.specs.List.{AllByRecursion, filter}
use Rattle.std.proofs.lemmas.Bool.Decides.{nat_tests}
use Rattle.std.proofs.lemmas.Bool.{and_parts}
use Rattle.kds_base.proofs.Facts.{apart, equal_so, all_weaker}
use Rattle.kds_defs.specs.declared.entry.Entry.{Entry}
use Rattle.kds_defs.specs.declared.entry.Entry.TheVariants as entry
use Rattle.kds_defs.specs.declared.limits.TheConstants.{BATCH_BYTES}
use Rattle.kds_defs.specs.Journal.{Line, Journal}
use Rattle.kds_defs.specs.Legal.{IsLegal}
use Rattle.kds_defs.specs.Listings.{is_closed_at, are_none, ends_at}
use Rattle.kds_defs.specs.Records.{Logged, records, records_after, next_number, draws, left_from, left_among, beginning}
use Rattle.kds_defs.specs.Records.{batch, numbers_of, position_after}
use Rattle.kds_defs.specs.Safe.{IsAmong, IsPlaced, RiseFrom}
use Rattle.kds_defs.specs.Shards.{ShardState, shard_at, is_open}
use Rattle.kds_defs.specs.Streams.{is_live, is_trimmed, trim_floor}
use Rattle.kcl_laws.proofs.Numbering.{all_placed}

-- ---- All items of a list

pub all_push : {A : Type 0} (P : A → Type 0) (xs : List A) (y : A) → AllByRecursion P xs → P y
    → AllByRecursion P (xs ++ (y ∷ []))
all_push P [] y h g = (g, tt)
all_push P (x ∷ xs) y h g = (h.0, all_push P xs y h.1 g)

filter_head : {A : Type 0} (f : A → Bool) (P : A → Type 0) (x : A) (xs : List A) (b : Bool) → f x ≡ b
    → (AllByRecursion P (filter f xs) → AllByRecursion (λ y. f y ≡ true → P y) xs)
    → AllByRecursion P (cond b (x ∷ filter f xs) (filter f xs)) → AllByRecursion (λ y. f y ≡ true → P y) (x ∷ xs)
filter_head f P x xs true is rest h = (λ e. h.0, rest h.1)
filter_head f P x xs false is rest h = (λ e. absurd (apart (f x) e is), rest h)

pub all_filter : {A : Type 0} (f : A → Bool) (P : A → Type 0) (xs : List A) → AllByRecursion P (filter f xs)
    → AllByRecursion (λ x. f x ≡ true → P x) xs
all_filter f P [] h = tt
all_filter f P (x ∷ xs) h = filter_head f P x xs (f x) refl (all_filter f P xs) h

none_head : {A : Type 0} (f : A → Bool) (x : A) (xs : List A) (b : Bool) → f x ≡ b
    → (are_none (filter f xs) ≡ true → AllByRecursion (λ y. f y ≡ false) xs)
    → are_none (cond b (x ∷ filter f xs) (filter f xs)) ≡ true → AllByRecursion (λ y. f y ≡ false) (x ∷ xs)
none_head f x xs true is rest h = absurd cc
none_head f x xs false is rest h = (is, rest h)

pub none_pass : {A : Type 0} (f : A → Bool) (xs : List A) → are_none (filter f xs) ≡ true
    → AllByRecursion (λ y. f y ≡ false) xs
none_pass f [] h = tt
none_pass f (x ∷ xs) h = none_head f x xs (f x) refl (none_pass f xs) h

-- ---- Rising records

-- The sequence numbers rise strictly, from `p` on and below `q`; without records, `p` is at most `q`.
abbrev pub IsRising : ℕ → List Logged → ℕ → Type 0
IsRising p [] q = p ≤ q
IsRising p (r ∷ rs) q = (p ≤ r.seq) × IsRising (r.seq + 1) rs q

pub rising_le : (p : ℕ) (rs : List Logged) (q : ℕ) → IsRising p rs q → p ≤ q
rising_le p [] q h = h
rising_le p (r ∷ rs) q h = omega (arith, h.0, rising_le (r.seq + 1) rs q h.1)

pub rising_above : (p : ℕ) (rs : List Logged) (q q' : ℕ) → q ≤ q' → IsRising p rs q → IsRising p rs q'
rising_above p [] q q' le h = omega arith
rising_above p (r ∷ rs) q q' le h = (h.0, rising_above (r.seq + 1) rs q q' le h.1)

pub rising_below : (p p' : ℕ) (rs : List Logged) (q : ℕ) → p ≤ p' → IsRising p' rs q → IsRising p rs q
rising_below p p' [] q le h = omega arith
rising_below p p' (r ∷ rs) q le h = (omega (arith, h.0), h.1)

pub rising_push : (p : ℕ) (rs : List Logged) (q : ℕ) (r : Logged) → IsRising p rs q → r.seq ≡ q
    → IsRising p (rs ++ (r ∷ [])) (q + 1)
rising_push p [] q r h e = (omega arith, omega arith)
rising_push p (x ∷ xs) q r h e = (h.0, rising_push (x.seq + 1) xs q r h.1 e)

rising_cond : (b : Bool) (p : ℕ) (r : Logged) (rs : List Logged) (q : ℕ) → p ≤ r.seq → IsRising (r.seq + 1) rs q
    → IsRising p (cond b (r ∷ rs) rs) q
rising_cond true p r rs q le h = (le, h)
rising_cond false p r rs q le h = rising_below p (r.seq + 1) rs q (omega arith) h

pub rising_filter : (f : Logged → Bool) (p : ℕ) (rs : List Logged) (q : ℕ) → IsRising p rs q
    → IsRising p (filter f rs) q
rising_filter f p [] q h = h
rising_filter f p (r ∷ rs) q h = rising_cond (f r) p r (filter f rs) q h.0 (rising_filter f (r.seq + 1) rs q h.1)

from_cond : (f : Logged → Bool) (b : Bool) (m : ℕ) (r : Logged) (rs : List Logged) (q : ℕ) → f r ≡ b
    → ((x : Logged) → f x ≡ true → m ≤ x.seq) → IsRising (r.seq + 1) rs q → IsRising m rs q
    → IsRising m (cond b (r ∷ rs) rs) q
from_cond f true m r rs q is g h k = (g r is, h)
from_cond f false m r rs q is g h k = k

pub rising_filter_from : (f : Logged → Bool) (p m : ℕ) (rs : List Logged) (q : ℕ) → IsRising p rs q → m ≤ q
    → ((x : Logged) → f x ≡ true → m ≤ x.seq) → IsRising m (filter f rs) q
rising_filter_from f p m [] q h le g = le
rising_filter_from f p m (r ∷ rs) q h le g =
    from_cond f (f r) m r (filter f rs) q refl g (rising_filter f (r.seq + 1) rs q h.1)
    (rising_filter_from f (r.seq + 1) m rs q h.1 le g)

-- ---- The numbers of a prefix of rising records

-- The sequence numbers of the longest prefix within `limit` records and `room` bytes.
abbrev pub taken_numbers : ℕ → ℕ → List Logged → List ℕ
taken_numbers limit room rs = numbers_of (beginning limit room rs)

-- The numbers rise strictly, from `p` on and below `q`; without numbers, `p` is at most `q`.
abbrev pub RisesTo : ℕ → List ℕ → ℕ → Type 0
RisesTo p [] q = p ≤ q
RisesTo p (n ∷ ns) q = (p ≤ n) × RisesTo (n + 1) ns q

pub rises_append : (p : ℕ) (ms ns : List ℕ) (q r : ℕ) → RisesTo p ms q → RisesTo q ns r → RisesTo p (ms ++ ns) r
rises_append p [] [] q r h g = omega arith
rises_append p [] (n ∷ ns) q r h g = (omega (arith, h, g.0), g.1)
rises_append p (m ∷ ms) ns q r h g = (h.0, rises_append (m + 1) ms ns q r h.1 g)

pub rises_from : (p : ℕ) (ns : List ℕ) (q : ℕ) → RisesTo p ns q → RiseFrom p ns
rises_from p [] q h = tt
rises_from p (n ∷ ns) q h = (h.0, rises_from (n + 1) ns q h.1)

-- The numbers rise from `p` up to a position of at most `q`, and include each record of `rs` below that position.
pub record Begins (p : ℕ) (ns : List ℕ) (rs : List Logged) (q : ℕ) : Type 0 where
  pub rises : RisesTo p ns (position_after p ns)
  pub position : position_after p ns ≤ q
  pub from : p ≤ position_after p ns
  pub has : AllByRecursion (λ r. r.seq < position_after p ns → IsAmong r.seq ns) rs

above_all : (p position : ℕ) (rs : List Logged) (q : ℕ) (ns : List ℕ) → IsRising p rs q → position ≤ p
    → AllByRecursion (λ r. r.seq < position → IsAmong r.seq ns) rs
above_all p position [] q ns h le = tt
above_all p position (r ∷ rs) q ns h le =
    (λ below. absurd (omega (arith, h.0)), above_all (r.seq + 1) position rs q ns h.1 (omega (arith, h.0)))

nothing_begins : (p : ℕ) (rs : List Logged) (q : ℕ) → IsRising p rs q → Begins p [] rs q
nothing_begins p rs q h =
    record {
      rises = omega arith;
      position = rising_le p rs q h;
      from = omega arith;
      has = above_all p p rs q [] h (omega arith);
    }

begin_cond : (b : Bool) (p : ℕ) (r : Logged) (ns : List ℕ) (bs rs : List Logged) (q : ℕ) → p ≤ r.seq
    → IsRising p (r ∷ rs) q → numbers_of bs ≡ ns → Begins (r.seq + 1) ns rs q
    → Begins p (numbers_of (if b then r ∷ bs else [])) (r ∷ rs) q
begin_cond false p r ns bs rs q le h is rest = nothing_begins p (r ∷ rs) q h
begin_cond true p r ns bs rs q le h is rest =
    subst (λ ms. Begins p (r.seq ∷ ms) (r ∷ rs) q) (sym is) (record {
      rises = (le, rest.rises);
      position = rest.position;
      from = omega (arith, le, rest.from);
      has = (
        λ below. inl refl,
        all_weaker (λ (x : Logged). x.seq < position_after (r.seq + 1) ns
            → IsAmong x.seq ns) (λ (x : Logged). x.seq < position_after p (r.seq ∷ ns)
            → IsAmong x.seq (r.seq ∷ ns)) (λ x g below. inr (g below)) rs rest.has,
      );
    })

pub begins : (limit room p : ℕ) (rs : List Logged) (q : ℕ) → IsRising p rs q
    → Begins p (taken_numbers limit room rs) rs q
begins zero room p rs q h = nothing_begins p rs q h
begins (suc limit) room p [] q h = nothing_begins p [] q h
begins (suc limit) room p (r ∷ rs) q h =
    begin_cond (nat_le r.bytes room) p r _ (beginning limit (room - r.bytes) rs) rs q h.0 h refl
    (begins limit (room - r.bytes) (r.seq + 1) rs q h.1)

-- ---- One more line

-- One more line leaves the records of a shard unchanged, or adds one with the stream's next sequence number.
pub data RecordsStep (log : Journal) (line : Line) (s sh : ℕ) : Type 0 where
  SameRecords : records (line ∷ log) s sh ≡ records log s sh → RecordsStep log line s sh
  NewRecord : (r : Logged) (x : ShardState) → records (line ∷ log) s sh ≡ records log s sh ++ (r ∷ [])
      → r.seq ≡ next_number log s → next_number (line ∷ log) s ≡ r.seq + 1 → shard_at log s sh ≡ Some x
      → is_open x ≡ true → RecordsStep log line s sh

records_step_put : (log : Journal) (line : Line) (stream shard number hash bytes key_bytes s sh : ℕ)
    → IsPlaced log (entry.Put stream shard number hash bytes key_bytes)
    → (b : Bool) → ((stream == s) && (shard == sh)) ≡ b
    → (r : Logged) → r.seq ≡ number
    → ((if b then records log s sh ++ (r ∷ []) else records log s sh) ≡ records (line ∷ log) s sh)
    → (next_number (line ∷ log) s ≡ (if stream == s then 1 else 0) + next_number log s)
    → RecordsStep log line s sh
records_step_put log line stream shard number hash bytes key_bytes s sh is_at false is r num recs next =
    SameRecords (sym recs)
records_step_put log line stream shard number hash bytes key_bytes s sh is_at true is r num recs next =
    let two = and_parts (stream == s) (shard == sh) is in
    let target = equal_so stream s two.0 in
    let target' = equal_so shard sh two.1 in
    let n : number ≡ next_number log s = is_at.1 ∙ ap (next_number log) target in
    NewRecord r is_at.0.state (sym recs) (num ∙ n)
    (next ∙ plus_one (stream == s) two.0 (next_number log s) ∙ ap (λ k. k + 1) (sym (num ∙ n)))
    (ap (λ k. shard_at log k sh) (sym target) ∙ ap (shard_at log stream) (sym target') ∙ is_at.0.made)
    is_at.0.is_open_now
  where
    plus_one : (b : Bool) → b ≡ true → (n : ℕ) → (if b then 1 else 0) + n ≡ n + 1
    plus_one true h n = omega arith
    plus_one false h n = absurd cc

records_step_by : (log : Journal) (line : Line) (e : Entry) (s sh : ℕ) → IsPlaced log e
    → records_after line e s sh (records log s sh) ≡ records (line ∷ log) s sh
    → next_number (line ∷ log) s ≡ draws e s + next_number log s → RecordsStep log line s sh
records_step_by log line (entry.Put stream shard number hash bytes key_bytes) s sh is_at recs next =
    records_step_put log line stream shard number hash bytes key_bytes s sh is_at _ refl
    (record {
      seq = number;
      arrival = line.clock;
      bytes = bytes + key_bytes;
      key = line.key;
      payload = line.payload;
    }) refl recs next
records_step_by log line _ s sh is_at recs next = SameRecords (sym recs)

-- In a legal journal, one more line leaves a shard's records unchanged or adds one to an open shard.
pub records_step : (log : Journal) (line : Line) → IsLegal (line ∷ log) → (s sh : ℕ) → RecordsStep log line s sh
records_step log line legal s sh = records_step_by log line line.what s sh (all_placed (line ∷ log) legal).0 refl refl

rising_by : (log : Journal) (line : Line) (s sh : ℕ) → RecordsStep log line s sh
    → IsRising 1 (records log s sh) (next_number log s)
    → IsRising 1 (records (line ∷ log) s sh) (next_number (line ∷ log) s)
rising_by log line s sh (SameRecords is) h =
    subst (λ rs. IsRising 1 rs (next_number (line ∷ log) s)) (sym is)
    (rising_above 1 _ (next_number log s) _ (omega arith) h)
rising_by log line s sh (NewRecord r x is seq next there open_now) h =
    subst (λ rs. IsRising 1 rs (next_number (line ∷ log) s)) (sym is)
    (subst (IsRising 1 (records log s sh ++ (r ∷ []))) (ap (λ k. k + 1) (sym seq) ∙ sym next)
    (rising_push 1 _ (next_number log s) r h seq))

-- In a legal journal, a shard's sequence numbers rise from 1 on and stay below the stream's next one.
pub rising : (log : Journal) → IsLegal log → (s sh : ℕ) → IsRising 1 (records log s sh) (next_number log s)
rising [] legal s sh = omega arith
rising (line ∷ log) legal s sh = rising_by log line s sh (records_step log line legal s sh) (rising log legal.1 s sh)

-- ---- A batch

-- The record is below `position`, one of the numbers, or trimmed.
abbrev pub IsTaken : Journal → ℕ → ℕ → ℕ → List ℕ → Logged → Type 0
IsTaken log c s position ns r = (r.seq < position) ⊎ (IsAmong r.seq ns ⊎ (is_trimmed log c s r.arrival ≡ true))

-- The numbers of a batch: each untrimmed record from `position` up to the position after them is included.
pub record IsBatch (log : Journal) (c s sh position : ℕ) (ns : List ℕ) : Type 0 where
  pub rises : RisesTo position ns (position_after position ns)
  pub next : position_after position ns ≤ next_number log s
  pub from : position ≤ position_after position ns
  pub has : AllByRecursion (λ r. r.seq < position_after position ns → IsTaken log c s position ns r) (records log s sh)

passes_above : (t : Bool) (p n : ℕ) → (not t && nat_le p n) ≡ true → p ≤ n
passes_above true p n h = absurd cc
passes_above false p n h = grind (arith, nat_tests)

taken_or : (log : Journal) (c s position : ℕ) (ns : List ℕ) (r : Logged) (t : Bool) → is_trimmed log c s r.arrival ≡ t
    → ((not t && nat_le position r.seq) ≡ true → r.seq < position_after position ns → IsAmong r.seq ns) → (b : Bool)
    → nat_le position r.seq ≡ b → r.seq < position_after position ns → IsTaken log c s position ns r
taken_or log c s position ns r true is g b is_at below = inr (inr is)
taken_or log c s position ns r false is g true is_at below = inr (inl (g is_at below))
taken_or log c s position ns r false is g false is_at below = inl (grind (arith, nat_tests))

none_passes : (rs : List Logged) → filter (λ (r : Logged). false) rs ≡ []
none_passes [] = refl
none_passes (r ∷ rs) = none_passes rs

left_if : (b : Bool) (floor position : ℕ) (rs : List Logged)
    → (if b then left_among floor position rs else [])
    ≡ filter (λ (r : Logged). not (not b || nat_lt r.arrival floor) && nat_le position r.seq) rs
left_if true floor position rs = refl
left_if false floor position rs = sym (none_passes rs)

pub left_is : (log : Journal) (c s sh position : ℕ)
    → left_from log c s sh position
    ≡ filter (λ (r : Logged). not (is_trimmed log c s r.arrival) && nat_le position r.seq)
    (records log s sh)
left_is log c s sh position = left_if (is_live log s) (trim_floor log c s) position (records log s sh)

-- A batch in a legal journal leaves out no untrimmed record between its positions.
pub batch_is : (log : Journal) → IsLegal log → (c s sh position limit : ℕ) → position ≤ next_number log s
    → IsBatch log c s sh position (numbers_of (batch log c s sh position limit))
batch_is log legal c s sh position limit le =
    let f : Logged → Bool = λ r. not (is_trimmed log c s r.arrival) && nat_le position r.seq in
    let left = filter f (records log s sh) in
    let ns = numbers_of (beginning limit BATCH_BYTES left) in
    let up = rising_filter_from f 1 position (records log s sh) (next_number log s) (rising log legal s sh) le
    (λ x h. passes_above (is_trimmed log c s x.arrival) position x.seq h) in
    let b = begins limit BATCH_BYTES position left (next_number log s) up in
    let taken : IsBatch log c s sh position ns = record {
      rises = b.rises;
      next = b.position;
      from = b.from;
      has = all_weaker (λ (r : Logged). f r ≡ true → r.seq < position_after position ns
          → IsAmong r.seq ns) (λ (r : Logged). r.seq < position_after position ns
          → IsTaken log c s position ns r)
          (λ r g below. taken_or log c s position ns r (is_trimmed log c s r.arrival) refl g (nat_le position r.seq)
          refl below) (records log s sh)
          (all_filter f (λ (r : Logged). r.seq < position_after position ns → IsAmong r.seq ns) (records log s sh)
          b.has);
    } in
    subst (λ (rs : List Logged). IsBatch log c s sh position (numbers_of (beginning limit BATCH_BYTES rs)))
    (sym (left_is log c s sh position)) taken

below_or : (log : Journal) (c s position : ℕ) (r : Logged) (t : Bool) → is_trimmed log c s r.arrival ≡ t
    → (not t && nat_le position r.seq) ≡ false → (r.seq < position) ⊎ (is_trimmed log c s r.arrival ≡ true)
below_or log c s position r true is h = inr is
below_or log c s position r false is h = inl (grind (arith, nat_tests))

pub end_is : (log : Journal) (c s sh position : ℕ) → ends_at log c s sh position ≡ true
    → (is_closed_at (shard_at log s sh) ≡ true)
    × AllByRecursion (λ r. (r.seq < position) ⊎ (is_trimmed log c s r.arrival ≡ true)) (records log s sh)
end_is log c s sh position h =
    let two = and_parts (is_closed_at (shard_at log s sh)) (are_none (left_from log c s sh position)) h in
    let f : Logged → Bool = λ r. not (is_trimmed log c s r.arrival) && nat_le position r.seq in (
      two.0,
      all_weaker (λ (r : Logged). f r ≡ false) (λ (r : Logged). (r.seq < position)
          ⊎ (is_trimmed log c s r.arrival ≡ true))
          (λ r g. below_or log c s position r (is_trimmed log c s r.arrival) refl g) (records log s sh)
          (none_pass f (records log s sh) (ap are_none (sym (left_is log c s sh position)) ∙ two.1)),
    )
