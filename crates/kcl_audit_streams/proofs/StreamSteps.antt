-- A good entry changes the model as its line changes the journal.
use Rattle.std.proofs.Common.{◌≡◌, ℕ, ◌+◌, ◌*◌, max, ◌≤◌, Bool, true, false, List, [], ◌∷◌, ◌++◌, Some, map, refl, sym}
use Rattle.std.proofs.Common.{ap, ◌∙◌, arith}
use Rattle.std.specs.Prelude.{◌==◌, if◌then◌else◌, Ok}
use Rattle.std.proofs.lemmas.List.{map_push}
use Rattle.std.proofs.lemmas.Option.{same_Some}
use Rattle.kds_base.proofs.Facts.{is_equal, is_itself, zero_plus}
use Rattle.kds_defs.proofs.Elsewhere.{floor_same}
use Rattle.kds_defs.specs.declared.entry.Entry.{Entry}
use Rattle.kds_defs.specs.declared.entry.Entry.TheVariants as entry
use Rattle.kds_defs.specs.declared.limits.TheConstants.{FIRST_HOURS, HOUR}
use Rattle.kcl_laws.specs.Recorded.{bare}
use Rattle.kcl_laws.specs.ShownLines.{entry_line}
use Rattle.kds_defs.specs.Journal.{Line, Journal}
use Rattle.kds_defs.specs.Legal.{last_clock}
use Rattle.kds_defs.specs.PutCommands.{enforced_after}
use Rattle.kds_defs.specs.Rates.{SizedPut, puts, puts_after}
use Rattle.kds_defs.specs.Records.{Logged, draws, next_number, records, records_after}
use Rattle.kds_defs.specs.Shards.{Closing, made_shards, merged_shards, shards_after, split_shards}
use Rattle.kds_defs.specs.Streams.{floor_at, hours, hours_after, is_live_after, made_count_after, name_of_after}
use Rattle.kds_defs.specs.Streams.{trim_floor, was_made, was_made_after}
use Rattle.kds_defs.specs.Subjects.{IsFresh, stream_of}
use Rattle.kcl_audit_streams.specs.declared.records.Sized.{Sized}
use Rattle.kcl_audit_streams.specs.Judging.{entry_verdict, new_stream, with_entry}
use Rattle.kcl_audit_streams.specs.Standing.{IsStream, StreamValue, floor_in, is_in, logged, puts_from, puts_in}
use Rattle.kcl_audit_streams.specs.Standing.{records_in}
use Rattle.kcl_audit_streams.proofs.Changed.{merge_draws, split_draws}
use Rattle.kcl_audit_streams.proofs.RateSteps.{sized}
use Rattle.kcl_audit_streams.proofs.Floors.{changed_later, first_later}

-- The entry doesn't make a stream.
abbrev pub IsLater : Entry → Type 0
IsLater (entry.Made s name count) = ⊥
IsLater _ = Unit {0}

pub made_kept : (change : Entry) (n : ℕ) → IsLater change → made_count_after change n ≡ n
made_kept (entry.Made s name count) n later = absurd later
made_kept _ n later = refl

its : (a s : ℕ) → Some a ≡ Some s → (a == s) ≡ true
its a s is_of = is_equal a s (same_Some a s is_of)

one_drawn : (n : ℕ) → 1 + n ≡ n + 1
one_drawn n = omega arith

-- ---- Records: one more

in_last : (sh : ℕ) (rs : List Sized) (r : Sized) (b : Bool) → is_in sh r ≡ b
    → records_in (rs ++ r ∷ []) sh ≡ (if b then records_in rs sh ++ logged r ∷ [] else records_in rs sh)
in_last sh [] r true h = rw h refl
in_last sh [] r false h = rw h refl
in_last sh (x ∷ rs) r b h = grind (arith, in_last sh rs r b h)

-- Journal and model still agree on the shard's records after `x` and `r`, equal but for key and payload.
record_more : (q : ℕ) (old : List Logged) (x : Logged) (rs : List Sized) (r : Sized) → bare x ≡ logged r
    → map bare old ≡ records_in rs q
    → map bare (if is_in q r then old ++ x ∷ [] else old) ≡ records_in (rs ++ r ∷ []) q
record_more q old x rs r same h = cases (is_in q r) ∙ sym (in_last q rs r (is_in q r) refl)
  where
    cases : (b : Bool) → map bare (if b then old ++ x ∷ [] else old)
        ≡ (if b then records_in rs q ++ logged r ∷ [] else records_in rs q)
    cases true = map_push bare old x ∙ ap (λ xs. xs ++ bare x ∷ []) h ∙ ap (λ y. records_in rs q ++ y ∷ []) same
    cases false = h

-- ---- Puts: one more

from_last : (old : List SizedPut) (rs : List Sized) (r : Sized) (sh : ℕ)
    → puts_from old (rs ++ r ∷ []) sh
    ≡ (if is_in sh r then sized r ∷ puts_from old rs sh else puts_from old rs sh)
from_last old [] r sh = refl
from_last old (x ∷ rs) r sh = from_last (if is_in sh x then sized x ∷ old else old) rs r sh

put_more : (q : ℕ) (old : List SizedPut) (rs : List Sized) (r : Sized) → old ≡ puts_in rs q
    → (if is_in q r then sized r ∷ old else old) ≡ puts_in (rs ++ r ∷ []) q
put_more q old rs r h = (λ i. if is_in q r then sized r ∷ h i else h i) ∙ sym (from_last [] rs r q)

-- ---- Each reading of the journal after an entry of the stream

-- `v` models the stream `s`; each lemma compares one reading after the entry with the changed model.
module _ (d actor s : ℕ) (v : StreamValue) where
  was_step : (change : Entry) (old : Bool) → IsLater change → was_made_after change s old ≡ old
  was_step (entry.Made a name count) old later = absurd later
  was_step _ old later = refl

  name_step : (change : Entry) → IsLater change → name_of_after change s v.name ≡ (with_entry d change v).name
  name_step (entry.Made a name count) later = absurd later
  name_step _ later = refl

  live_step : (change : Entry) → IsLater change → stream_of change ≡ Some s
      → is_live_after change s v.live ≡ (with_entry d change v).live
  live_step (entry.Made a name count) later is_of = absurd later
  live_step (entry.Gone a) later is_of = rw (its a s is_of) refl
  live_step _ later is_of = refl

  hours_step : (change : Entry) → IsLater change → stream_of change ≡ Some s
      → hours_after change s v.hours ≡ (with_entry d change v).hours
  hours_step (entry.Made a name count) later is_of = absurd later
  hours_step (entry.Kept a wanted) later is_of = rw (its a s is_of) refl
  hours_step _ later is_of = refl

  limits_step : (change : Entry) → IsLater change → stream_of change ≡ Some s
      → enforced_after change s v.enforced ≡ (with_entry d change v).enforced
  limits_step (entry.Made a name count) later is_of = absurd later
  limits_step (entry.Enforced a is_on) later is_of = rw (its a s is_of) refl
  limits_step _ later is_of = refl

  next_step : (change : Entry) → IsLater change → stream_of change ≡ Some s
      → draws change s + v.next ≡ (with_entry d change v).next
  next_step (entry.Made a name count) later is_of = absurd later
  next_step (entry.Put a sh n hash bytes key_bytes) later is_of = rw (its a s is_of) (one_drawn v.next)
  next_step (entry.Split a sh key_hash n low high) later is_of = rw (its a s is_of) (one_drawn v.next)
  next_step (entry.Merged a sh other n child) later is_of = rw (its a s is_of) (one_drawn v.next)
  next_step _ later is_of = zero_plus v.next

  shards_step : (full : Bool) (change : Entry) → IsLater change → stream_of change ≡ Some s
      → entry_verdict full d change v ≡ Ok tt
      → (start : ℕ) → start ≡ (with_entry d change v).next
      → shards_after (entry_line d actor change) change s start v.tree
      ≡ (with_entry d change v).tree
  shards_step full (entry.Made a name count) later is_of good start is = absurd later
  shards_step full (entry.Split a sh hash n low high) later is_of good start is =
      let closing : Closing = record { number = n; clock = d } in
      let drawn = (split_draws v d sh hash full n low high good).1.0 in
      rw (its a s is_of) (ap (λ m. split_shards sh hash closing m v.tree) (is ∙ ap (λ m. m + 1) (sym drawn)))
  shards_step full (entry.Merged a sh other n child) later is_of good start is =
      let closing : Closing = record { number = n; clock = d } in
      let drawn = (merge_draws v d sh other n child good).1.0 in
      rw (its a s is_of) (ap (λ m. merged_shards sh other closing m v.tree) (is ∙ ap (λ m. m + 1) (sym drawn)))
  shards_step full _ later is_of good start is = refl

  records_step : (change : Entry) → IsLater change → stream_of change ≡ Some s → (q : ℕ) (old : List Logged)
      → map bare old ≡ records_in v.records q → map bare (records_after (entry_line d actor change) change s q old)
      ≡ records_in (with_entry d change v).records q
  records_step (entry.Made a name count) later is_of q old h = absurd later
  records_step (entry.Put a sh n hash bytes key_bytes) later is_of q old h =
      let line : Line = entry_line d actor (entry.Put a sh n hash bytes key_bytes) in
      let x : Logged = record {
        seq = n;
        arrival = d;
        bytes = bytes + key_bytes;
        key = line.key;
        payload = line.payload;
      } in
      rw (its a s is_of) (record_more q old x v.records
      (record { shard = sh; seq = n; arrival = d; bytes = bytes + key_bytes }) refl h)
  records_step _ later is_of q old h = h

  puts_step : (change : Entry) → IsLater change → stream_of change ≡ Some s → (q : ℕ) (old : List SizedPut)
      → old ≡ puts_in v.records q
      → puts_after (entry_line d actor change) change s q old ≡ puts_in (with_entry d change v).records q
  puts_step (entry.Made a name count) later is_of q old h = absurd later
  puts_step (entry.Put a sh n hash bytes key_bytes) later is_of q old h =
      rw (its a s is_of) (put_more q old v.records
      (record { shard = sh; seq = n; arrival = d; bytes = bytes + key_bytes }) h)
  puts_step _ later is_of q old h = h

  floor_step : (log : Journal) (change : Entry) → IsLater change → stream_of change ≡ Some s → IsStream log s v
      → last_clock log ≤ d
      → (c : ℕ) → d ≤ c → trim_floor (entry_line d actor change ∷ log) c s ≡ floor_in (with_entry d change v) c
  floor_step log (entry.Made a name count) later is_of st order c after = absurd later
  floor_step log (entry.Kept a wanted) later is_of st order c after =
      let line : Line = entry_line d actor (entry.Kept a wanted) in
      let lasts : hours (line ∷ log) s ≡ wanted = rw (its a s is_of) refl in
      changed_later log line s c wanted after st.was st.was lasts
      ∙ ap (λ n. max (max n (floor_at d (wanted * HOUR))) (floor_at c (wanted * HOUR))) (st.trims d order)
  floor_step log change later is_of st order c after =
      floor_same log (entry_line d actor change) s c after refl ∙ st.trims c (omega arith)

  pub stream_step : (log : Journal) (full : Bool) (change : Entry) → IsLater change → stream_of change ≡ Some s
      → entry_verdict full d change v ≡ Ok tt
      → last_clock log ≤ d → IsStream log s v → IsStream (entry_line d actor change ∷ log) s (with_entry d change v)
  stream_step log full change later is_of good order st =
      let line : Line = entry_line d actor change in
      let next : next_number (line ∷ log) s ≡ (with_entry d change v).next =
      ap (λ n. draws change s + n) st.draws ∙ next_step change later is_of in
      record {
        was = was_step change (was_made log s) later ∙ st.was;
        named = ap (name_of_after change s) st.named ∙ name_step change later;
        lives = ap (is_live_after change s) st.lives ∙ live_step change later is_of;
        lasts = ap (hours_after change s) st.lasts ∙ hours_step change later is_of;
        trims = λ c after. floor_step log change later is_of st order c after;
        draws = next;
        shards_are =
            ap (shards_after line change s (next_number (line ∷ log) s)) st.shards_are
            ∙ shards_step full change later is_of good (next_number (line ∷ log) s) next;
        records_are = λ q. records_step change later is_of q (records log s q) (st.records_are q);
        limited = ap (enforced_after change s) st.limited ∙ limits_step change later is_of;
        puts_are = λ q. puts_step change later is_of q (puts log s q) (st.puts_are q);
      }

-- ---- A stream that is made

pub made_step : (log : Journal) (d actor s count : ℕ) (name : List ℕ) → IsFresh log s
    → IsStream (entry_line d actor (entry.Made s name count) ∷ log) s (new_stream name count)
made_step log d actor s count name fresh =
    let line : Line = entry_line d actor (entry.Made s name count) in
    let was : was_made (line ∷ log) s ≡ true = rw (is_itself s) refl in
    let lasts : hours (line ∷ log) s ≡ FIRST_HOURS = rw (is_itself s) refl in
    let start : next_number (line ∷ log) s ≡ 1 = zero_plus (next_number log s) ∙ fresh.undrawn in
    record {
      was = was;
      named = rw (is_itself s) refl;
      lives = rw (is_itself s) refl;
      lasts = lasts;
      trims = λ c later. first_later log line s c FIRST_HOURS later was fresh.unmade fresh.no_floor lasts;
      draws = start;
      shards_are = rw (is_itself s) (ap (made_shards count) start);
      records_are = λ sh. ap (map bare) (fresh.no_records sh);
      limited = fresh.not_enforced;
      puts_are = fresh.no_puts;
    }
