-- PutRecord: its answer, what the stream shows after it, and its invariant.
use Rattle.std.proofs.Common.{◌≡◌, ◌≢◌, ℕ, zero, suc, ◌+◌, ◌^◌, ◌<◌, ◌≤◌, Bool, true, false, List, [], ◌∷◌, ◌++◌}
use Rattle.std.proofs.Common.{length, Option, Some, None, refl, sym, ap, subst, ◌∙◌, arith}
use Rattle.std.specs.Prelude.{◌==◌, ◌&&◌, not, nat_le, nat_lt, if◌then◌else◌, Result, Ok, Err}
use Rattle.std.specs.List.{AllByRecursion, filter}
use Rattle.std.proofs.lemmas.Bool.Decides.{nat_tests}
use Rattle.std.proofs.lemmas.List.Elements.{filter-append}
use Rattle.kds_base.proofs.Facts.{chosen, is_itself, is_other, all_weaker, all_append, is_equal}
use Rattle.kds_defs.proofs.Elsewhere.{floor_same}
use Rattle.kds_defs.proofs.Decisions.{after_accepted, after_refused, passed_if, refused_if}
use Rattle.kds_defs.specs.declared.command.NewItem.{NewItem}
use Rattle.kds_defs.specs.declared.reply.Place.{Place}
use Rattle.kds_defs.specs.declared.reply.Refusal.{Refusal}
use Rattle.kds_defs.specs.declared.reply.Refusal.TheVariants as refusal
use Rattle.kds_defs.specs.declared.reply.Reply.{Reply}
use Rattle.kds_defs.specs.declared.reply.Reply.TheVariants as reply
use Rattle.kds_defs.specs.Decision.{Decision}
use Rattle.kds_defs.specs.Histories.{answer_of, lines_of}
use Rattle.kds_defs.specs.Journal.{Journal, with_lines}
use Rattle.kds_defs.specs.Lawful.{item_bytes}
use Rattle.kds_defs.specs.PutCommands.{is_enforced, is_held_back, put}
use Rattle.kds_defs.specs.Rates.{SizedPut, is_throttled, puts}
use Rattle.kds_defs.specs.Records.{Logged, is_left, left_among, next_number, records}
use Rattle.kds_defs.specs.Shards.{Closing, ShardState, home, home_among, is_open, shards}
use Rattle.kds_defs.specs.StreamCommands.{last_number, put_line, put_place}
use Rattle.kds_defs.specs.Streams.{floor_of}
use Rattle.kds_log.specs.Log.{LogValue}
use Rattle.kds_rate.specs.Windows.{WindowValue}
use Rattle.kds_stream.proofs.LogLemmas.{all-appended, arrived_later, length-appended}
use Rattle.kds_stream_logs.proofs.Rates.{put_elsewhere, stand_along}
use Rattle.kds_stream_logs.specs.Rating.{StandFor, with_put}
use Rattle.kds_stream.specs.Rating.{AreRated, ShowsRates}
use Rattle.kds_stream.specs.Showing.{AreKept, IsKept, Shows, ShowsStored}
use Rattle.kds_stream_logs.specs.Logs.{HasArrived, IsBelow, IsUnder, with_appended}
use Rattle.kds_stream.specs.Value.{EndsUnder, IsClosedUnder, IsStream, StreamValue}

-- ---- The next sequence number after a line that takes one

pub one_more : (b : Bool) (n m : ℕ) → b ≡ true → n ≡ m → (if b then 1 else 0) + n ≡ m + 1
one_more true n m h e = omega arith
one_more false n m h e = absurd cc

-- ---- What holds at a stream also holds at an equal one

pub led_along : (decided : StreamValue → Decision) (u u' w : StreamValue) (log : Journal) (a : Result Reply Refusal)
    → u ≡ u' → (a ≡ answer_of (decided u)) × Shows w (with_lines (lines_of (decided u)) log)
    → (a ≡ answer_of (decided u')) × Shows w (with_lines (lines_of (decided u')) log)
led_along decided u u' w log a is h =
    (h.0 ∙ ap (λ x. answer_of (decided x)) is, subst (λ x. Shows w (with_lines (lines_of (decided x)) log)) is h.1)

-- ---- The record that a put stores

-- The record that a put of `item` stores in the stream, with its next number and its clock.
abbrev pub put_record : StreamValue → NewItem → Logged
put_record v item = record {
  seq = v.next;
  arrival = v.clock;
  bytes = length item.payload + length item.key;
  key = item.key;
  payload = item.payload;
}

left_one : (start : ℕ) (rs : List Logged) (r : Logged) → start ≤ r.arrival
    → left_among start 0 (rs ++ r ∷ []) ≡ left_among start 0 rs ++ r ∷ []
left_one start rs r le =
    filter-append (is_left start 0) rs (r ∷ [])
    ∙ ap (λ xs. left_among start 0 rs ++ xs) (chosen (is_left start 0 r) (r ∷ []) [] (late start r.arrival r.seq le))
  where
    late : (start arrival seq : ℕ) → start ≤ arrival → (not (nat_lt arrival start) && nat_le 0 seq) ≡ true
    late start arrival seq h = grind (arith, nat_tests)

kept_put : (floor : ℕ) (log log' : Journal) (s n i moment : ℕ) (r : Logged) (ls : List LogValue) → floor ≤ r.arrival
    → moment ≡ n + i → records log' s moment ≡ records log s moment ++ r ∷ []
    → ((sh : ℕ) → moment ≢ sh → records log' s sh ≡ records log s sh)
    → AreKept floor log s n ls → AreKept floor log' s n (with_appended i r ls)
kept_put floor log log' s n i moment r [] late is here others h = tt
kept_put floor log log' s n zero moment r (l ∷ ls) late is here others h =
    let e : moment ≡ n = omega arith in
    let here' : records log' s n ≡ records log s n ++ r ∷ [] =
    subst (λ m. records log' s m ≡ records log s m ++ r ∷ []) e here in
    let rest : l.kept ++ r ∷ [] ≡ left_among h.0.from 0 (records log s n ++ r ∷ []) =
    ap (λ rs. rs ++ r ∷ []) h.0.rest
    ∙ sym (left_one h.0.from (records log s n) r (omega (arith, late, h.0.early))) in (
      record { from = h.0.from; early = h.0.early; rest = rest ∙ ap (left_among h.0.from 0) (sym here') },
      kept_after floor log log' s (n + 1) ls (λ sh beyond. others sh (omega arith)) h.1,
    )
  where
    kept_after : (floor : ℕ) (log log' : Journal) (s n : ℕ) (ls : List LogValue)
        → ((sh : ℕ) → n ≤ sh → records log' s sh ≡ records log s sh) → AreKept floor log s n ls
        → AreKept floor log' s n ls
    kept_after floor log log' s n [] same h = tt
    kept_after floor log log' s n (l ∷ ls) same h = (
      subst (λ rs. IsKept floor rs l.kept) (sym (same n (omega arith))) h.0,
      kept_after floor log log' s (n + 1) ls (λ sh beyond. same sh (omega arith)) h.1,
    )
kept_put floor log log' s n (suc i) moment r (l ∷ ls) late is here others h = (
  subst (λ rs. IsKept floor rs l.kept) (sym (others n (λ e. absurd (apart moment n i is e)))) h.0,
  kept_put floor log log' s (n + 1) i moment r ls late (omega arith) here others h.1,
)
  where
    apart : (moment n i : ℕ) → moment ≡ n + suc i → moment ≡ n → ⊥
    apart moment n i is e = omega arith

-- ---- The throughput

-- A put of `item`, as the window of its shard counts it.
abbrev pub put_of : StreamValue → NewItem → SizedPut
put_of v item = record { clock = v.clock; bytes = item_bytes item }

module _ (v : StreamValue) (log : Journal) (actor n : ℕ) (item : NewItem) (same : shards log v.no ≡ v.tree) where
  pub home_so : home log v.no item.hash ≡ home_among (filter is_open v.tree) item.hash
  home_so = ap (λ xs. home_among (filter is_open xs) item.hash) same

  -- The line of the put adds it to the puts of the item's home alone.
  pub puts_more : (sh : ℕ) → puts (put_line log v.clock actor v.no n item ∷ log) v.no sh
      ≡ with_put (home_among (filter is_open v.tree) item.hash) (put_of v item) (puts log v.no) sh
  puts_more sh =
      ap (λ b. if b && (home log v.no item.hash == sh) then put_of v item ∷ puts log v.no sh else puts log v.no sh)
      (is_itself v.no)
      ∙ ap (λ h. if h == sh then put_of v item ∷ puts log v.no sh else puts log v.no sh) home_so

  pub rates_put : (windows : List WindowValue) → home_among (filter is_open v.tree) item.hash < length v.tree
      → ShowsRates log v.no v.enforced (length v.tree) v.windows
      → StandFor (with_put (home_among (filter is_open v.tree) item.hash) (put_of v item) (puts log v.no)) 0 windows
      → ShowsRates (put_line log v.clock actor v.no n item ∷ log) v.no v.enforced (length v.tree) windows
  rates_put windows within rates stand = record {
    enforced_is = rates.enforced_is;
    stand = stand_along (with_put (home_among (filter is_open v.tree) item.hash) (put_of v item) (puts log v.no))
        (puts (put_line log v.clock actor v.no n item ∷ log) v.no) 0 windows (λ sh any. sym (puts_more sh)) stand;
    none_beyond = λ sh beyond.
        puts_more sh
        ∙ sym (put_elsewhere (home_among (filter is_open v.tree) item.hash) sh (put_of v item) (puts log v.no)
        (is_other _ sh (λ e. absurd (omega arith))))
        ∙ rates.none_beyond sh beyond;
  }

-- The decision throttles an item exactly if limits are on and its home has no room for it.
pub held_is : (log : Journal) (c s : ℕ) (xs : List ShardState) (item : NewItem) (is_on : Bool) (sh bytes : ℕ)
    (ps : List SizedPut) → shards log s ≡ xs → is_enforced log s ≡ is_on → sh ≡ home_among (filter is_open xs) item.hash
    → bytes ≡ item_bytes item → ps ≡ puts log s sh
    → is_held_back log c s item ≡ (is_on && is_throttled ps c bytes)
held_is log c s xs item is_on sh bytes ps same enforces is_at counted are =
    let home_is : home log s item.hash ≡ sh = ap (λ ys. home_among (filter is_open ys) item.hash) same ∙ sym is_at in
    ap (λ b. b && is_throttled (puts log s (home log s item.hash)) c (item_bytes item)) enforces
    ∙ ap (λ h. is_on && is_throttled (puts log s h) c (item_bytes item)) home_is
    ∙ ap (λ qs. is_on && is_throttled qs c (item_bytes item)) (sym are)
    ∙ ap (λ n. is_on && is_throttled ps c n) (sym counted)

-- ---- The decision

module _ (v : StreamValue) (log : Journal) (actor : ℕ) (item : NewItem) (shown : Shows v log) where
  pub put_throttled : (sh : ℕ) → sh ≡ home_among (filter is_open v.tree) item.hash
      → is_held_back log v.clock v.no item ≡ true
      → (Err (refusal.Throttled sh) ≡ answer_of (put log v.clock actor v.no item))
      × Shows v (with_lines (lines_of (put log v.clock actor v.no item)) log)
  put_throttled sh is_at held =
      let both = after_refused _ (refusal.Throttled (home log v.no item.hash)) log (λ l. Shows v l)
      (refused_if _ _ _ held) shown in (
        ap (λ n. Err (refusal.Throttled n)) (is_at ∙ sym (home_so v log actor 0 item shown.stored.shards_are)) ∙ both.0,
        both.1,
      )

  pub put_spent : is_held_back log v.clock v.no item ≡ false → v.next ≡ last_number
      → (Err refusal.Spent ≡ answer_of (put log v.clock actor v.no item))
      × Shows v (with_lines (lines_of (put log v.clock actor v.no item)) log)
  put_spent free spent =
      after_refused _ refusal.Spent log (λ l. Shows v l) (passed_if _ _ _ free
      ∙ refused_if _ _ _ (is_equal (next_number log v.no) last_number (shown.stored.next_is ∙ spent))) shown

module _ (v : StreamValue) (log : Journal) (actor : ℕ) (item : NewItem) (shown : ShowsStored v log) where
  home_is : home log v.no item.hash ≡ home_among (filter is_open v.tree) item.hash
  home_is = ap (λ xs. home_among (filter is_open xs) item.hash) shown.shards_are

  record_is : record {
    seq = next_number log v.no;
    arrival = v.clock;
    bytes = length item.payload + length item.key;
    key = item.key;
    payload = item.payload;
  } ≡ put_record v item
  record_is = ap (λ n. let r : Logged = record {
    seq = n;
    arrival = v.clock;
    bytes = length item.payload + length item.key;
    key = item.key;
    payload = item.payload;
  } in r) shown.next_is

  -- The records of shard `sh` after the line of the put; only the item's home gains the new one.
  records_by : (a b : Bool) (sh : ℕ) → (v.no == v.no) ≡ a → (home log v.no item.hash == sh) ≡ b
      → records (put_line log v.clock actor v.no (next_number log v.no) item ∷ log) v.no sh
      ≡ (if a && b then records log v.no sh ++ record {
        seq = next_number log v.no;
        arrival = v.clock;
        bytes = length item.payload + length item.key;
        key = item.key;
        payload = item.payload;
      }
      ∷ [] else records log v.no sh)
  records_by a b sh isa isb =
      ap (λ c. if c && (home log v.no item.hash == sh) then records log v.no sh ++ record {
        seq = next_number log v.no;
        arrival = v.clock;
        bytes = length item.payload + length item.key;
        key = item.key;
        payload = item.payload;
      }
      ∷ [] else records log v.no sh) isa
      ∙ ap (λ c. if a && c then records log v.no sh ++ record {
        seq = next_number log v.no;
        arrival = v.clock;
        bytes = length item.payload + length item.key;
        key = item.key;
        payload = item.payload;
      }
      ∷ [] else records log v.no sh) isb

  here : (sh : ℕ) → home log v.no item.hash ≡ sh
      → records (put_line log v.clock actor v.no (next_number log v.no) item ∷ log) v.no sh ≡ records log v.no sh
      ++ put_record v item ∷ []
  here sh is = records_by true true sh (is_itself v.no) (is_equal (home log v.no item.hash) sh is)
      ∙ ap (λ r. records log v.no sh ++ r ∷ []) record_is

  elsewhere : (sh : ℕ) → home log v.no item.hash ≢ sh
      → records (put_line log v.clock actor v.no (next_number log v.no) item ∷ log) v.no sh ≡ records log v.no sh
  elsewhere sh differ = records_by true false sh (is_itself v.no) (is_other (home log v.no item.hash) sh differ)

  -- With the record in the log of its home, the stream shows the journal with the put's line, throughput aside.
  pub shows_put : (sh : ℕ) → sh ≡ home_among (filter is_open v.tree) item.hash → sh < length v.tree
      → floor_of v.cut ≤ v.clock
      → ShowsStored (record v {
        logs = with_appended sh (put_record v item) v.logs;
        next = v.next + 1;
        clock_before = v.clock;
        cut_before = v.cut;
      }) (put_line log v.clock actor v.no (next_number log v.no) item
      ∷ log)
  shows_put sh is_at within trims =
      let is : home log v.no item.hash ≡ sh = home_is ∙ sym is_at in
      record {
        live = shown.live;
        was = shown.was;
        named = shown.named;
        made_is = shown.made_is;
        hours_are = shown.hours_are;
        shards_are = shown.shards_are;
        next_is = one_more (v.no == v.no) (next_number log v.no) v.next (is_itself v.no) shown.next_is;
        floor_is = floor_same log (put_line log v.clock actor v.no (next_number log v.no) item) v.no v.clock
            (omega arith)
            refl ∙ shown.floor_is;
        kept =
            kept_put (floor_of v.cut) log (put_line log v.clock actor v.no (next_number log v.no) item ∷ log)
            v.no 0 sh sh
            (put_record v item) v.logs trims (omega arith) (here sh is)
            (λ other differ. elsewhere other (λ e. differ (sym is ∙ e))) shown.kept;
        none_beyond = λ other beyond. elsewhere other (λ e. past sh other (length v.tree) within beyond (sym is ∙ e))
            ∙ shown.none_beyond other beyond;
      }
    where
      past : (sh other len : ℕ) → sh < len → len ≤ other → sh ≡ other → ⊥
      past sh other len within beyond e = omega arith

  place_is : (sh : ℕ) → sh ≡ home_among (filter is_open v.tree) item.hash
      → record { shard = sh; seq = v.next } ≡ put_place log v.no (next_number log v.no) item
  place_is sh is_at =
      ap (λ n. let p : Place = record { shard = n; seq = v.next } in p) (is_at ∙ sym home_is)
      ∙ ap (λ n. let p : Place = record { shard = home log v.no item.hash; seq = n } in p) (sym shown.next_is)

  put_shows : (sh next : ℕ) (logs : List LogValue) (windows : List WindowValue) → next ≡ v.next + 1
      → sh ≡ home_among (filter is_open v.tree) item.hash → sh < length v.tree → floor_of v.cut ≤ v.clock
      → logs ≡ with_appended sh (put_record v item) v.logs
      → ShowsRates log v.no v.enforced (length v.tree) v.windows
      → StandFor (with_put sh (put_of v item) (puts log v.no)) 0 windows
      → Shows (record v { logs = logs; windows = windows; next = next; clock_before = v.clock; cut_before = v.cut })
      (put_line log v.clock actor v.no (next_number log v.no) item ∷ log)
  put_shows sh next logs windows drawn is_at within trims are rates stand =
      let after : Journal = put_line log v.clock actor v.no (next_number log v.no) item ∷ log in
      let stored = shows_put sh is_at within trims in
      let inside : home_among (filter is_open v.tree) item.hash < length v.tree =
      subst (λ n. n < length v.tree) is_at within in
      let stand' = subst (λ n. StandFor (with_put n (put_of v item) (puts log v.no)) 0 windows) is_at stand in
      let w : StreamValue =
      record v {
        logs = with_appended sh (put_record v item) v.logs;
        windows = windows;
        next = v.next + 1;
        clock_before = v.clock;
        cut_before = v.cut;
      } in
      let full : Shows w after =
      record {
        stored = stored;
        rates = rates_put v log actor (next_number log v.no) item shown.shards_are windows inside rates stand';
      } in
      subst (λ (n : ℕ). Shows (record v {
        logs = logs;
        windows = windows;
        next = n;
        clock_before = v.clock;
        cut_before = v.cut;
      }) after) (sym drawn)
      (subst (λ (ls : List LogValue).
      Shows (record v {
        logs = ls;
        windows = windows;
        next = v.next + 1;
        clock_before = v.clock;
        cut_before = v.cut;
      }) after) (sym are) full)

  -- An accepted PutRecord answers with the record's place, and the stream shows the journal with its line.
  pub put_done : (sh next : ℕ) (logs : List LogValue) (windows : List WindowValue)
      → is_held_back log v.clock v.no item ≡ false → next ≡ v.next + 1 → v.next ≢ last_number
      → sh ≡ home_among (filter is_open v.tree) item.hash → sh < length v.tree → floor_of v.cut ≤ v.clock
      → logs ≡ with_appended sh (put_record v item) v.logs
      → ShowsRates log v.no v.enforced (length v.tree) v.windows
      → StandFor (with_put sh (put_of v item) (puts log v.no)) 0 windows
      → (Ok (reply.Put (record { shard = sh; seq = v.next })) ≡ answer_of (put log v.clock actor v.no item))
      × Shows (record v { logs = logs; windows = windows; next = next; clock_before = v.clock; cut_before = v.cut })
      (with_lines (lines_of (put log v.clock actor v.no item)) log)
  put_done sh next logs windows free drawn more is_at within trims are rates stand =
      let w : StreamValue =
      record v { logs = logs; windows = windows; next = next; clock_before = v.clock; cut_before = v.cut } in
      let both = after_accepted (put log v.clock actor v.no item)
      (put_line log v.clock actor v.no (next_number log v.no) item
      ∷ []) (reply.Put (put_place log v.no (next_number log v.no) item)) log (λ l. Shows w l)
      (passed_if _ _ _ free
      ∙ passed_if _ _ _ (is_other (next_number log v.no) last_number (λ e. more (sym shown.next_is ∙ e))))
      (put_shows sh next logs windows drawn is_at within trims are rates stand) in
      (ap (λ (p : Place). Ok (reply.Put p)) (place_is sh is_at) ∙ both.0, both.1)

-- ---- The invariant of the stream

pub ends_later : (next higher : ℕ) (xs : List ShardState) → next ≤ higher → AllByRecursion (EndsUnder next) xs
    → AllByRecursion (EndsUnder higher) xs
ends_later next higher xs le h = all_weaker (EndsUnder next) (EndsUnder higher) (λ x a. under x.closing a) xs h
  where
    under : (o : Option Closing) → IsClosedUnder next o → IsClosedUnder higher o
    under None a = tt
    under (Some closing) a = omega arith

under_more : (last : Option ℕ) (next higher : ℕ) → next + 1 ≤ higher → IsUnder next last → IsUnder higher last
under_more None next higher more h = tt
under_more (Some n) next higher more h = omega arith

pub one_free : (n m : ℕ) → m ≡ n + 1 → n ≢ last_number → n < 2 ^ 64 → m < 2 ^ 64
one_free n m is free fits = omega arith

-- A stream keeps its invariant when a record with its next number and its clock is added to a log.
pub stream_put : (v : StreamValue) (sh next : ℕ) (r : Logged) (logs : List LogValue) (windows : List WindowValue)
    → next ≡ v.next + 1 → v.next ≢ last_number → r.seq ≡ v.next → r.arrival ≡ v.clock → logs ≡ with_appended sh r v.logs
    → AreRated v.clock (length v.tree) windows → IsStream v
    → IsStream (record v { logs = logs; windows = windows; next = next; clock_before = v.clock; cut_before = v.cut })
stream_put v sh next r logs windows drawn free number arrival are rated is =
    let one : next ≤ v.next + 1 = omega arith in
    let more : v.next + 1 ≤ next = omega arith in
    record {
      as_many = ap length are ∙ length-appended sh r v.logs ∙ is.as_many;
      few = is.few;
      lasting = is.lasting;
      numbers =
          subst (AllByRecursion (IsBelow next)) (sym are)
          (all-appended (IsBelow v.next) (IsBelow next) sh r (λ l h. under_more l.last v.next next more h)
          (λ l h. omega arith) v.logs is.numbers);
      endings = ends_later v.next next v.tree (omega arith) is.endings;
      arrivals =
          subst (AllByRecursion (HasArrived v.clock)) (sym are)
          (all-appended (HasArrived v.clock) (HasArrived v.clock) sh r (λ l h. h)
          (λ l h. all_append (λ (x : Logged). x.arrival ≤ v.clock) l.kept (r ∷ []) h (omega arith, tt))
          v.logs (arrived_later v.clock_before v.clock v.logs is.order is.arrivals));
      order = omega arith;
      trims = is.trims;
      trims_before = is.trims;
      rated = rated;
      drawn = omega arith;
      fits = one_free v.next next drawn free is.fits;
    }
