-- PutRecords: its answer, what the stream shows after it, and its invariant.
use Rattle.std.proofs.Common.{◌≡◌, ◌≢◌, ℕ, suc, ◌+◌, ◌^◌, ◌<◌, ◌≤◌, Bool, true, false, List, [], ◌∷◌, length, refl, sym}
use Rattle.std.proofs.Common.{ap, subst, ◌∙◌, arith}
use Rattle.std.specs.Prelude.{◌==◌, nat_lt, if◌then◌else◌, Ok, Err}
use Rattle.std.specs.List.{AllByRecursion, filter}
use Rattle.std.proofs.lemmas.Bool.Decides.{nat_tests}
use Rattle.kds_base.proofs.Facts.{is_other, is_equal, all_both}
use Rattle.kds_defs.proofs.Decisions.{after_accepted, after_refused, passed_if, refused_if}
use Rattle.kds_defs.specs.declared.command.NewItem.{NewItem}
use Rattle.kds_defs.specs.declared.reply.Outcome.{Outcome}
use Rattle.kds_defs.specs.declared.reply.Outcome.TheVariants as outcome
use Rattle.kds_defs.specs.declared.reply.Place.{Place}
use Rattle.kds_defs.specs.declared.reply.Refusal.TheVariants as refusal
use Rattle.kds_defs.specs.declared.reply.Reply.TheVariants as reply
use Rattle.kds_defs.specs.Histories.{answer_of, lines_of}
use Rattle.kds_defs.specs.Journal.{Journal, Line, with_lines}
use Rattle.kds_defs.specs.Lawful.{item_bytes}
use Rattle.kds_defs.specs.PutCommands.{is_enforced, is_held_back, put_lines, put_many, put_outcomes}
use Rattle.kds_defs.specs.Rates.{SizedPut, puts}
use Rattle.kds_defs.specs.Records.{next_number}
use Rattle.kds_defs.specs.Shards.{ShardState, home, home_among, is_open, shards}
use Rattle.kds_defs.specs.StreamCommands.{last_number, put_line, put_place}
use Rattle.kds_defs.specs.Streams.{floor_of}
use Rattle.kds_log.specs.Log.{LogValue}
use Rattle.kds_stream.proofs.Clocks.{settled_stream, shows_settled}
use Rattle.kds_stream.proofs.LogLemmas.{arrived_later, below_higher}
use Rattle.kds_rate.specs.Windows.{WindowValue}
use Rattle.kds_stream.proofs.Puts.{held_is, home_so, one_more, put_of, put_record, puts_more, shows_put, stream_put}
use Rattle.kds_stream_logs.proofs.Rates.{put_elsewhere, stand_along}
use Rattle.kds_stream.proofs.Rates.{rated_later}
use Rattle.kds_stream_logs.specs.declared.routes.Routed.{Routed}
use Rattle.kds_stream_logs.specs.declared.routes.Routes.{Routes}
use Rattle.kds_stream_logs.specs.Rating.{StandFor}
use Rattle.kds_stream.specs.Rating.{AreRated, ShowsRates}
use Rattle.kds_stream_logs.specs.Routes.{AreRoutedInOrder, AreRouted, CanTake, IsWithin, after_item, after_items}
use Rattle.kds_stream_logs.specs.Routes.{after_number}
use Rattle.kds_stream_logs.specs.Routes.{is_throttled_item}
use Rattle.kds_stream_logs.specs.Routes.{outcome_of, outcomes, taken, routed_items, settled_each, with_each}
use Rattle.kds_stream.specs.Showing.{Shows, ShowsStored}
use Rattle.kds_stream_logs.specs.Logs.{IsBelow, settled_at, with_appended}
use Rattle.kds_stream.specs.Value.{EndsUnder, IsStream, StreamValue}
use Rattle.kds_stream_logs.proofs.Routings.{IsFrom, all_from, apart, turns}

-- ---- The records of the items that are taken

taken_at : (xs : List ShardState) (c : ℕ) (is_on : Bool) (f : ℕ → List SizedPut) (item : NewItem) (items : List NewItem)
    (b : Bool) → is_throttled_item xs c is_on f item ≡ b
    → taken xs c is_on f (item ∷ items)
    ≡ (if b then taken xs c is_on (after_item xs c f item b) items else item
    ∷ taken xs c is_on (after_item xs c f item b) items)
taken_at xs c is_on f item items b is =
    ap (λ d. if d then taken xs c is_on (after_item xs c f item d) items else item
    ∷ taken xs c is_on (after_item xs c f item d) items) is

after_at : (xs : List ShardState) (c : ℕ) (is_on : Bool) (f : ℕ → List SizedPut) (item : NewItem) (items : List NewItem)
    (b : Bool) (sh : ℕ) → is_throttled_item xs c is_on f item ≡ b
    → after_items xs c is_on f (item ∷ items) sh ≡ after_items xs c is_on (after_item xs c f item b) items sh
after_at xs c is_on f item items b sh is = ap (λ d. after_items xs c is_on (after_item xs c f item d) items sh) is

outcomes_at : (xs : List ShardState) (c : ℕ) (is_on : Bool) (f : ℕ → List SizedPut) (n : ℕ) (item : NewItem)
    (items : List NewItem) (b : Bool) → is_throttled_item xs c is_on f item ≡ b
    → outcomes xs c is_on f n (item ∷ items) ≡ outcome_of xs n item b
    ∷ outcomes xs c is_on (after_item xs c f item b) (after_number n b) items
outcomes_at xs c is_on f n item items b is =
    ap (λ d. outcome_of xs n item d ∷ outcomes xs c is_on (after_item xs c f item d) (after_number n d) items) is

pub can_take : (v : StreamValue) (items : List NewItem) (rs : List Routed) → IsStream v
    → rs ≡ routed_items v.tree v.clock v.next items → AllByRecursion (IsWithin (length v.tree)) rs
    → AllByRecursion (CanTake v.logs) rs
can_take v items rs is are within =
    let is_from : AllByRecursion (IsFrom v.next v.clock) rs =
    subst (AllByRecursion (IsFrom v.next v.clock)) (sym are)
    (all_from v.tree v.clock v.next v.next items (omega arith)) in
    all_both (IsWithin (length v.tree)) (IsFrom v.next v.clock) (CanTake v.logs) (λ r inside f. record {
      within = omega (arith, inside, is.as_many);
      number = below_higher v.next r.item.seq v.logs f.number is.numbers;
      arrival = arrived_later v.clock_before r.item.arrival v.logs (omega (arith, is.order, f.arrival)) is.arrivals;
    }) rs within is_from

pub in_order : (v : StreamValue) (items : List NewItem) (rs : List Routed)
    → rs ≡ routed_items v.tree v.clock v.next items → AreRoutedInOrder rs
in_order v items rs are = subst AreRoutedInOrder (sym are) (turns v.tree v.clock v.next items)

-- ---- What the stream shows after the puts

-- The stream with other logs, windows and next number; a retreat goes back to the present clock and cut.
abbrev pub with_logs : StreamValue → List LogValue → List WindowValue → ℕ → StreamValue
with_logs v ls ws next = record v { logs = ls; windows = ws; next = next; clock_before = v.clock; cut_before = v.cut }

shows_none : (v : StreamValue) (next : ℕ) (log : Journal) → next ≡ v.next → ShowsStored v log
    → ShowsStored (record v { next = next; clock_before = v.clock; cut_before = v.cut }) log
shows_none v next log is shown =
    subst (λ n. ShowsStored (record v { next = n; clock_before = v.clock; cut_before = v.cut }) log) (sym is) shown

after_one : StreamValue → NewItem → StreamValue
after_one v item = record v {
  logs = with_appended (home_among (filter is_open v.tree) item.hash) (put_record v item)
      v.logs;
  next = v.next + 1;
  clock_before = v.clock;
  cut_before = v.cut;
}

lines_at : (log : Journal) (c actor s : ℕ) (item : NewItem) (items : List NewItem) (b : Bool)
    → is_held_back log c s item ≡ b
    → put_lines log c actor s (item ∷ items)
    ≡ (if b then put_lines log c actor s items else put_line log c actor s (next_number log s) item
    ∷ put_lines (put_line log c actor s (next_number log s) item ∷ log) c actor s items)
lines_at log c actor s item items b is =
    ap (λ d. if d then put_lines log c actor s items else put_line log c actor s (next_number log s) item
    ∷ put_lines (put_line log c actor s (next_number log s) item ∷ log) c actor s items) is

told_at : (log : Journal) (c actor s : ℕ) (item : NewItem) (items : List NewItem) (b : Bool)
    → is_held_back log c s item ≡ b
    → put_outcomes log c actor s (item ∷ items)
    ≡ (if b then outcome.Throttled (home log s item.hash)
    ∷ put_outcomes log c actor s items else outcome.Stored (put_place log s (next_number log s) item)
    ∷ put_outcomes (put_line log c actor s (next_number log s) item ∷ log) c actor s items)
told_at log c actor s item items b is =
    ap (λ d. if d then outcome.Throttled (home log s item.hash)
    ∷ put_outcomes log c actor s items else outcome.Stored (put_place log s (next_number log s) item)
    ∷ put_outcomes (put_line log c actor s (next_number log s) item ∷ log) c actor s items) is

puts_stay : (v : StreamValue) (log : Journal) (actor : ℕ) (item : NewItem) (f : ℕ → List SizedPut)
    → shards log v.no ≡ v.tree → ((n : ℕ) → f n ≡ puts log v.no n)
    → (n : ℕ) → after_item v.tree v.clock f item false n
    ≡ puts (put_line log v.clock actor v.no (next_number log v.no) item ∷ log) v.no n
puts_stay v log actor item f shards_are same n =
    ap (λ ps. if home_among (filter is_open v.tree) item.hash == n then put_of v item ∷ ps else ps) (same n)
    ∙ sym (puts_more v log actor (next_number log v.no) item shards_are n)

judged : (v : StreamValue) (log : Journal) (item : NewItem) (f : ℕ → List SizedPut) → shards log v.no ≡ v.tree
    → is_enforced log v.no ≡ v.enforced → ((n : ℕ) → f n ≡ puts log v.no n)
    → is_held_back log v.clock v.no item ≡ is_throttled_item v.tree v.clock v.enforced f item
judged v log item f shards_are enforces same =
    held_is log v.clock v.no v.tree item v.enforced (home_among (filter is_open v.tree) item.hash) (item_bytes item)
    (f (home_among (filter is_open v.tree) item.hash)) shards_are enforces refl refl
    (same (home_among (filter is_open v.tree) item.hash))

-- The journal's PutRecords has the stream's outcomes, and a line for each item taken.
pub record Told (v : StreamValue) (log : Journal) (actor n : ℕ) (f : ℕ → List SizedPut) (items : List NewItem) :
    Type 0 where
  pub many : length (put_lines log v.clock actor v.no items) ≡ length (taken v.tree v.clock v.enforced f items)
  pub so : put_outcomes log v.clock actor v.no items ≡ outcomes v.tree v.clock v.enforced f n items

pub puts_told : (items : List NewItem) (v : StreamValue) (log : Journal) (actor n : ℕ) (f : ℕ → List SizedPut)
    → shards log v.no ≡ v.tree → is_enforced log v.no ≡ v.enforced → next_number log v.no ≡ n
    → ((m : ℕ) → f m ≡ puts log v.no m) → Told v log actor n f items
puts_told [] v log actor n f shards_are enforces number same = record { many = refl; so = refl }
puts_told (item ∷ items) v log actor n f shards_are enforces number same =
    by_held (is_throttled_item v.tree v.clock v.enforced f item) refl
    (puts_told items v log actor n f shards_are enforces number same)
    (puts_told items v (put_line log v.clock actor v.no (next_number log v.no) item ∷ log) actor (n + 1)
    (after_item v.tree v.clock f item false) shards_are enforces
    (one_more (v.no == v.no) (next_number log v.no) n (is_equal v.no v.no refl) number)
    (puts_stay v log actor item f shards_are same))
  where
    by_held : (b : Bool) → is_throttled_item v.tree v.clock v.enforced f item ≡ b → Told v log actor n f items
        → Told v (put_line log v.clock actor v.no (next_number log v.no) item ∷ log) actor (n + 1)
        (after_item v.tree v.clock f item false) items
        → Told v log actor n f (item ∷ items)
    by_held true is rest other =
        let held : is_held_back log v.clock v.no item ≡ true = judged v log item f shards_are enforces same ∙ is in
        let home_is = home_so v log actor 0 item shards_are in
        record {
          many = ap length (lines_at log v.clock actor v.no item items true held) ∙ rest.many
              ∙ ap length (sym (taken_at v.tree v.clock v.enforced f item items true is));
          so =
              told_at log v.clock actor v.no item items true held
              ∙ ap (λ h. outcome.Throttled h ∷ put_outcomes log v.clock actor v.no items) home_is
              ∙ ap (λ os. outcome.Throttled (home_among (filter is_open v.tree) item.hash) ∷ os) rest.so
              ∙ sym (outcomes_at v.tree v.clock v.enforced f n item items true is);
        }
    by_held false is other rest =
        let held : is_held_back log v.clock v.no item ≡ false = judged v log item f shards_are enforces same ∙ is in
        let line : Line = put_line log v.clock actor v.no (next_number log v.no) item in
        let home_is = home_so v log actor 0 item shards_are in
        record {
          many = ap length (lines_at log v.clock actor v.no item items false held) ∙ ap suc rest.many
              ∙ ap length (sym (taken_at v.tree v.clock v.enforced f item items false is));
          so =
              told_at log v.clock actor v.no item items false held
              ∙ ap (λ h. let p : Place = record { shard = h; seq = next_number log v.no } in
              outcome.Stored p ∷ put_outcomes (line ∷ log) v.clock actor v.no items) home_is
              ∙ ap (λ m. let p : Place = record { shard = home_among (filter is_open v.tree) item.hash; seq = m } in
              outcome.Stored p ∷ put_outcomes (line ∷ log) v.clock actor v.no items) number
              ∙ ap (λ os. outcome_of v.tree n item false ∷ os) rest.so
              ∙ sym (outcomes_at v.tree v.clock v.enforced f n item items false is);
        }

-- With the taken records and their windows, the stream shows the journal with the lines of PutRecords.
pub record Stores (v : StreamValue) (log : Journal) (actor : ℕ) (f : ℕ → List SizedPut) (items : List NewItem) :
    Type 0 where
  pub stored : (next : ℕ) → next ≡ v.next + length (taken v.tree v.clock v.enforced f items)
      → ShowsStored (record
      v {
        logs = with_each (routed_items v.tree v.clock v.next (taken v.tree v.clock v.enforced f items)) v.logs;
        next = next;
        clock_before = v.clock;
        cut_before = v.cut;
      })
      (with_lines (put_lines log v.clock actor v.no items) log)
  pub rates : (ws : List WindowValue) → StandFor (after_items v.tree v.clock v.enforced f items) 0 ws
      → ShowsRates (with_lines (put_lines log v.clock actor v.no items) log) v.no v.enforced (length v.tree) ws

pub shows_puts : (items : List NewItem) (v : StreamValue) (log : Journal) (actor : ℕ) (f : ℕ → List SizedPut)
    → is_enforced log v.no ≡ v.enforced → ((n : ℕ) → f n ≡ puts log v.no n)
    → ((sh : ℕ) → length v.tree ≤ sh → f sh ≡ [])
    → AllByRecursion (IsWithin (length v.tree))
    (routed_items v.tree v.clock v.next (taken v.tree v.clock v.enforced f items)) → floor_of v.cut ≤ v.clock
    → ShowsStored v log → Stores v log actor f items
unfolding after_one
shows_puts [] v log actor f enforces same none within trims shown = record {
  stored = λ next drawn. shows_none v next log (omega arith) shown;
  rates = λ ws stand. record {
    enforced_is = enforces;
    stand = stand_along f (puts log v.no) 0 ws (λ sh any. same sh) stand;
    none_beyond = λ sh beyond. sym (same sh) ∙ none sh beyond;
  };
}
shows_puts (item ∷ items) v log actor f enforces same none within trims shown =
    by_held (is_throttled_item v.tree v.clock v.enforced f item) refl
    (λ inside. shows_puts items v log actor f enforces same none inside trims shown)
    (λ none' inside one. shows_puts items (after_one v item)
    (put_line log v.clock actor v.no (next_number log v.no) item
    ∷ log) actor (after_item v.tree v.clock f item false) enforces
    (puts_stay v log actor item f shown.shards_are same) none' inside trims one)
  where
    by_held : (b : Bool) → is_throttled_item v.tree v.clock v.enforced f item ≡ b
        → (AllByRecursion (IsWithin (length v.tree))
        (routed_items v.tree v.clock v.next (taken v.tree v.clock v.enforced f items)) → Stores v log actor f items)
        → (((sh : ℕ) → length v.tree ≤ sh → after_item v.tree v.clock f item false sh ≡ [])
        → AllByRecursion (IsWithin (length v.tree))
        (routed_items v.tree v.clock (v.next + 1)
        (taken v.tree v.clock v.enforced (after_item v.tree v.clock f item false) items))
        → ShowsStored (after_one v item) (put_line log v.clock actor v.no (next_number log v.no) item ∷ log)
        → Stores (after_one v item) (put_line log v.clock actor v.no (next_number log v.no) item ∷ log) actor
        (after_item v.tree v.clock f item false) items)
        → Stores v log actor f (item ∷ items)
    by_held true is on_held on_taken =
        let held : is_held_back log v.clock v.no item ≡ true = judged v log item f shown.shards_are enforces same
        ∙ is in
        let ts = taken_at v.tree v.clock v.enforced f item items true is in
        let ls = lines_at log v.clock actor v.no item items true held in
        let rest = on_held (subst
        (λ us. AllByRecursion (IsWithin (length v.tree)) (routed_items v.tree v.clock v.next us)) ts within) in
        record {
          stored = λ next drawn.
              subst (λ us. ShowsStored (record v {
                logs = with_each (routed_items v.tree v.clock v.next us) v.logs;
                next = next;
                clock_before = v.clock;
                cut_before = v.cut;
              })
              (with_lines (put_lines log v.clock actor v.no (item ∷ items)) log)) (sym ts)
              (subst (λ us. ShowsStored
              (record v {
                logs = with_each
                    (routed_items v.tree v.clock v.next (taken v.tree v.clock v.enforced f items)) v.logs;
                next =
                    next;
                clock_before = v.clock;
                cut_before = v.cut;
              }) (with_lines us log)) (sym ls)
              (rest.stored next (drawn ∙ ap (λ us. v.next + length us) ts)));
          rates = λ ws stand.
              subst (λ us. ShowsRates (with_lines us log) v.no v.enforced (length v.tree) ws) (sym ls)
              (rest.rates ws (stand_along (after_items v.tree v.clock v.enforced f (item ∷ items))
              (after_items v.tree v.clock v.enforced f items) 0 ws
              (λ sh any. after_at v.tree v.clock v.enforced f item items true sh is) stand));
        }
    by_held false is on_held on_taken =
        let held : is_held_back log v.clock v.no item ≡ false = judged v log item f shown.shards_are enforces same
        ∙ is in
        let line : Line = put_line log v.clock actor v.no (next_number log v.no) item in
        let g : ℕ → List SizedPut = after_item v.tree v.clock f item false in
        let ts = taken_at v.tree v.clock v.enforced f item items false is in
        let ls = lines_at log v.clock actor v.no item items false held in
        let inside = subst (λ us. AllByRecursion (IsWithin (length v.tree)) (routed_items v.tree v.clock v.next us))
        ts within in
        let one = shows_put v log actor item shown (home_among (filter is_open v.tree) item.hash) refl inside.0 trims in
        let rest = on_taken (λ sh beyond.
        sym (put_elsewhere (home_among (filter is_open v.tree) item.hash) sh (put_of v item) f
        (is_other _ sh (λ e. absurd (apart _ sh (length v.tree) inside.0 beyond e)))) ∙ none sh beyond)
        inside.1 one in
        record {
          stored = λ next drawn.
              let drawn' : next ≡ v.next + suc (length (taken v.tree v.clock v.enforced g items)) =
              drawn ∙ ap (λ us. v.next + length us) ts in
              subst (λ us. ShowsStored (record v {
                logs = with_each (routed_items v.tree v.clock v.next us) v.logs;
                next = next;
                clock_before = v.clock;
                cut_before = v.cut;
              })
              (with_lines (put_lines log v.clock actor v.no (item ∷ items)) log)) (sym ts)
              (subst (λ us. ShowsStored
              (record v {
                logs = with_each
                    (routed_items v.tree v.clock v.next (item ∷ taken v.tree v.clock v.enforced g items)) v.logs;
                next = next;
                clock_before = v.clock;
                cut_before = v.cut;
              }) (with_lines us log)) (sym ls)
              (rest.stored next (omega arith)));
          rates = λ ws stand.
              subst (λ us. ShowsRates (with_lines us log) v.no v.enforced (length v.tree) ws) (sym ls)
              (rest.rates ws (stand_along (after_items v.tree v.clock v.enforced f (item ∷ items))
              (after_items v.tree v.clock v.enforced g items) 0 ws
              (λ sh any. after_at v.tree v.clock v.enforced f item items false sh is) stand));
        }

-- ---- The invariant of the stream

pub stream_same : (v : StreamValue) (windows : List WindowValue) (next : ℕ) → next ≡ v.next
    → AreRated v.clock (length v.tree) windows → IsStream v
    → IsStream (record v { windows = windows; next = next; clock_before = v.clock; cut_before = v.cut })
stream_same v windows next same rated is = record {
  as_many = is.as_many;
  few = is.few;
  lasting = is.lasting;
  numbers = subst (λ n. AllByRecursion (IsBelow n) v.logs) (sym same) is.numbers;
  endings = subst (λ n. AllByRecursion (EndsUnder n) v.tree) (sym same) is.endings;
  arrivals = arrived_later v.clock_before v.clock v.logs is.order is.arrivals;
  order = omega arith;
  trims = is.trims;
  trims_before = is.trims;
  rated = rated;
  drawn = omega (arith, same, is.drawn);
  fits = omega (arith, same, is.fits);
}

number_free : (n m k : ℕ) → m ≡ n + suc k → m < 2 ^ 64 → n ≢ last_number
number_free n m k is fits e = absurd (omega arith)

pub stream_puts : (items : List NewItem) (v : StreamValue) (next : ℕ) → next ≡ v.next + length items → next < 2 ^ 64
    → IsStream v
    → IsStream (record v {
      logs = with_each (routed_items v.tree v.clock v.next items) v.logs;
      next = next;
      clock_before = v.clock;
      cut_before = v.cut;
    })
unfolding after_one
stream_puts [] v next drawn fits is =
    stream_same v v.windows next (omega arith)
    (rated_later v.clock_before v.clock (length v.tree) v.windows is.order is.rated) is
stream_puts (item ∷ items) v next drawn fits is =
    stream_puts items (after_one v item) next (omega arith) fits
    (stream_put v (home_among (filter is_open v.tree) item.hash) (v.next + 1) (put_record v item) _ v.windows refl
    (number_free v.next next (length items) drawn fits) refl refl refl
    (rated_later v.clock_before v.clock (length v.tree) v.windows is.order is.rated) is)

-- ---- The decision

is_past : (n : ℕ) → 2 ^ 64 ≤ n → nat_lt last_number n ≡ true
is_past n h = grind (arith, nat_tests, h)

is_not_past : (n : ℕ) → n < 2 ^ 64 → nat_lt last_number n ≡ false
is_not_past n h = grind (arith, nat_tests, h)

module _ (v : StreamValue) (log : Journal) (actor : ℕ) (items : List NewItem) (shown : Shows v log) where
  told : Told v log actor v.next (puts log v.no) items
  told = puts_told items v log actor v.next (puts log v.no) shown.stored.shards_are shown.rates.enforced_is
      shown.stored.next_is (λ m. refl)

  -- PutRecords is refused with `Spent` if the sequence numbers don't suffice for the items taken.
  pub puts_spent : 2 ^ 64 ≤ v.next + length (taken v.tree v.clock v.enforced (puts log v.no) items)
      → (Err refusal.Spent ≡ answer_of (put_many log v.clock actor v.no items))
      × Shows v (with_lines (lines_of (put_many log v.clock actor v.no items)) log)
  puts_spent spent =
      after_refused _ refusal.Spent log (λ l. Shows v l)
      (refused_if _ _ _ (ap (λ n. nat_lt last_number (n + length (put_lines log v.clock actor v.no items)))
      shown.stored.next_is
      ∙ ap (λ n. nat_lt last_number (v.next + n)) told.many
      ∙ is_past (v.next + length (taken v.tree v.clock v.enforced (puts log v.no) items)) spent)) shown

  -- PutRecords answers with the outcomes, and with the records in its logs the stream shows its lines.
  pub puts_done : (r : Routes) (logs : List LogValue) (windows : List WindowValue) → r.next < 2 ^ 64
      → floor_of v.cut ≤ v.clock → AreRouted v.tree v.clock v.enforced (puts log v.no) v.next items r windows
      → AllByRecursion (IsWithin (length v.tree)) r.routed.items → logs ≡ with_each r.routed.items v.logs
      → (Ok (reply.PutMany r.outcomes) ≡ answer_of (put_many log v.clock actor v.no items))
      × Shows (record v { logs = logs; windows = windows; next = r.next; clock_before = v.clock; cut_before = v.cut })
      (with_lines (lines_of (put_many log v.clock actor v.no items)) log)
  puts_done r logs windows fits trims made within stored =
      let w : StreamValue =
      record v { logs = logs; windows = windows; next = r.next; clock_before = v.clock; cut_before = v.cut } in
      let lines = put_lines log v.clock actor v.no items in
      let ts = taken v.tree v.clock v.enforced (puts log v.no) items in
      let inside : AllByRecursion (IsWithin (length v.tree)) (routed_items v.tree v.clock v.next ts) =
      subst (AllByRecursion (IsWithin (length v.tree))) made.routed within in
      let after = shows_puts items v log actor (puts log v.no) shown.rates.enforced_is (λ m. refl)
      shown.rates.none_beyond
      inside trims shown.stored in
      let full : Shows (with_logs v (with_each (routed_items v.tree v.clock v.next ts) v.logs) windows r.next)
      (with_lines lines log) =
      record { stored = after.stored r.next made.next_is; rates = after.rates windows made.stand } in
      let shows : Shows w (with_lines lines log) =
      subst (λ (ls : List LogValue).
      Shows (record v { logs = ls; windows = windows; next = r.next; clock_before = v.clock; cut_before = v.cut })
      (with_lines lines log)) (sym (stored ∙ ap (λ (qs : List Routed). with_each qs v.logs) made.routed)) full in
      let both = after_accepted (put_many log v.clock actor v.no items) lines
      (reply.PutMany (put_outcomes log v.clock actor v.no items)) log (λ l. Shows w l)
      (passed_if _ _ _ (ap (λ n. nat_lt last_number (n + length lines)) shown.stored.next_is
      ∙ ap (λ n. nat_lt last_number (v.next + n)) told.many
      ∙ is_not_past (v.next + length ts) (omega (arith, made.next_is, fits)))) shows in
      (ap (λ (os : List Outcome). Ok (reply.PutMany os)) (made.outcomes_are ∙ sym told.so) ∙ both.0, both.1)

-- ---- The logs that got records lose their trimmed records

pub stream_each : (v : StreamValue) (ws : List WindowValue) (next : ℕ) (ps : List Place) (ls : List LogValue)
    → IsStream (with_logs v ls ws next) → IsStream (with_logs v (settled_each (floor_of v.cut) ps ls) ws next)
stream_each v ws next [] ls is = is
stream_each v ws next (p ∷ ps) ls is =
    stream_each v ws next ps (settled_at (floor_of v.cut) p.shard ls)
    (settled_stream (with_logs v ls ws next) p.shard v.next_to_settle is)

pub shows_each : (v : StreamValue) (ws : List WindowValue) (next : ℕ) (log : Journal) (ps : List Place)
    (ls : List LogValue) → Shows (with_logs v ls ws next) log
    → Shows (with_logs v (settled_each (floor_of v.cut) ps ls) ws next) log
shows_each v ws next log [] ls shown = shown
shows_each v ws next log (p ∷ ps) ls shown =
    shows_each v ws next log ps (settled_at (floor_of v.cut) p.shard ls)
    (shows_settled (with_logs v ls ws next) p.shard v.clock v.cut v.next_to_settle log shown)
