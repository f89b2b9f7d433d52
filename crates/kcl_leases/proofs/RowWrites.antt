-- Survey, MakeLease, Take and CutLease, which name no tenure: the lease table's answers are the decisions.
use Rattle.std.proofs.Common.{◌≡◌, ◌≢◌, ℕ, ◌+◌, ◌<◌, ◌≤◌, Bool, true, false, List, [], ◌∷◌, ◌++◌, length, Option, Some}
use Rattle.std.proofs.Common.{None, refl, sym, ap, subst, ◌∙◌, arith}
use Rattle.std.specs.Prelude.{◌==◌, ◌||◌, not, is_some, if◌then◌else◌, Result, Ok, Err}
use Rattle.std.specs.Option.{option_map}
use Rattle.std.proofs.lemmas.Bool.{or_parts}
use Rattle.kds_base.specs.declared.lease_key.Checkpoint.{Checkpoint}
use Rattle.kds_base.specs.declared.lease_key.Checkpoint.TheVariants.{At}
use Rattle.kds_base.specs.declared.lease_key.ShardRef.{ShardRef}
use Rattle.kds_base.proofs.Facts.{differ_so, equal_unless}
use Rattle.kds_defs.specs.declared.command.Command.TheVariants as command
use Rattle.kds_defs.specs.declared.command.Origin.{Origin}
use Rattle.kds_defs.specs.declared.command.Origin.TheVariants as origin
use Rattle.kds_defs.specs.declared.entry.Entry.TheVariants as entry
use Rattle.kds_defs.specs.declared.reply.Refusal.{Refusal}
use Rattle.kds_defs.specs.declared.reply.Refusal.TheVariants as refusal
use Rattle.kds_defs.specs.declared.reply.Reply.{Reply}
use Rattle.kds_defs.specs.declared.reply.Reply.TheVariants as reply
use Rattle.kds_defs.specs.declared.reply.Row.{Row}
use Rattle.kds_defs.specs.declared.reply.Shard.{Shard}
use Rattle.kds_defs.specs.Decision.{Decision, Refused, Accepted, refuse◌if◌else◌, with◌or◌then◌}
use Rattle.kds_defs.specs.Histories.{answer_of, decide, lines_of}
use Rattle.kds_defs.specs.Journal.{Journal, Line, plain_line, with_lines}
use Rattle.kds_defs.specs.Keys.{is_listed_key, ref, same_key}
use Rattle.kds_defs.specs.LeaseCommands.{counting_origin, parent_reaches_end, row_reaches_end}
use Rattle.kds_defs.specs.Leases.{checkpoint_in, is_end, made_row, new_row, new_tenure, row, taken_count, taken_row}
use Rattle.kds_defs.specs.Leases.{with_key, without_key}
use Rattle.kds_defs.specs.Origins.{floor_from, start_from}
use Rattle.kds_defs.specs.Shards.{ShardState, adjacent_of, is_closed_below, is_listed_state, parent_of, shard_at, shown}
use Rattle.kds_defs.specs.Shards.{start_of}
use Rattle.kds_defs.specs.StreamCommands.{last_number}
use Rattle.kds_defs.specs.Streams.{is_live, trim_floor}
use Rattle.kds_defs.proofs.Decisions.{after_accepted, after_refused, passed_if, refused_if, with_none, with_some}
use Rattle.kds_defs.proofs.Keys.{same_ref}
use Rattle.kcl_book.specs.Tenures.{TenureValue, begun}
use Rattle.kcl_table.specs.Rows.{changed, row_of, with_row, without_row}
use Rattle.kcl_table.specs.Writes.{next_counter, cut_answer, take_answer}
use Rattle.kcl_leases.proofs.Deciding.{err_same, if_ok, never, ok_same, refused_test}
use Rattle.kcl_leases.proofs.LeaseSteps.{LeaseLines, changed_rows, made_rows, removed_rows, rows_of, same_tenures}
use Rattle.kcl_leases.proofs.LeaseSteps.{stands_of, tenure_begins, tenures_of}
use Rattle.kcl_leases.proofs.RowChanges.{keys_with, keys_without}
use Rattle.kcl_leases.specs.Conditions.{counting_from, parent_reaches, start_answer}
use Rattle.kcl_leases.specs.Standing.{Facing, Leads, Stands, leases, live_shard}

-- ---- A row is made

unlisted_state : (log : Journal) (c s : ℕ) (o : Option ShardState) (b : Bool) → is_live log s ≡ b
    → option_map shown (if b then o else None) ≡ None → is_listed_state log c s o ≡ false
unlisted_state log c s None b live h = refl
unlisted_state log c s (Some x) true live h = absurd cc
unlisted_state log c s (Some x) false live h = ap (λ b. not (not b || is_closed_below (trim_floor log c s) x)) live

pub unlisted : (log : Journal) (c : ℕ) (key : ShardRef) → None ≡ option_map shown (live_shard log key)
    → is_listed_key log c key ≡ false
unlisted log c key h =
    unlisted_state log c key.stream (shard_at log key.stream key.shard) (is_live log key.stream) refl (sym h)

-- The key's shard exists in a live stream, and callers see it as `y`.
pub record IsShard (log : Journal) (key : ShardRef) (y : Shard) : Type 0 where
  pub state : ShardState
  pub live : is_live log key.stream ≡ true
  pub at : shard_at log key.stream key.shard ≡ Some state
  pub is_shown : y ≡ shown state

shard_by : (log : Journal) (key : ShardRef) (o : Option ShardState) (b : Bool) (y : Shard) → is_live log key.stream ≡ b
    → shard_at log key.stream key.shard ≡ o → Some y ≡ option_map shown (if b then o else None) → IsShard log key y
shard_by log key None true y live is_at h = absurd cc
shard_by log key None false y live is_at h = absurd cc
shard_by log key (Some x) true y live is_at h =
    record { state = x; live = live; at = is_at; is_shown = same y (shown x) h }
  where
    same : (a b : Shard) → Some a ≡ Some b → a ≡ b
    same a b h = cc
shard_by log key (Some x) false y live is_at h = absurd cc

pub is_shard : (log : Journal) (key : ShardRef) (y : Shard) → Some y ≡ option_map shown (live_shard log key)
    → IsShard log key y
is_shard log key y h = shard_by log key (shard_at log key.stream key.shard) (is_live log key.stream) y refl refl h

pub starts_at : (log : Journal) (key : ShardRef) (y : Shard) → IsShard log key y
    → y.start ≡ start_of (shard_at log key.stream key.shard)
starts_at log key y is_of = ap (λ (z : Shard). z.start) is_of.is_shown ∙ sym (ap start_of is_of.at)

reaches_is : (log : Journal) (rs : List Row) (s : ℕ) (o : Option ℕ) → is_live log s ≡ true
    → ((k : ShardRef) → row log k ≡ row_of rs k) → parent_reaches_end log s o ≡ parent_reaches log rs s o
reaches_is log rs s None live rows = refl
reaches_is log rs s (Some parent) live rows =
    ap (λ r. row_reaches_end r (shard_at log s parent)) (rows (ref s parent))
    ∙ sym (ap (λ b. row_reaches_end (row_of rs (ref s parent)) (if b then shard_at log s parent else None)) live)

counting_is : (log : Journal) (rs : List Row) (key : ShardRef) (y : Shard) (beginning : Origin) → IsShard log key y
    → ((k : ShardRef) → row log k ≡ row_of rs k)
    → counting_origin log key beginning ≡ counting_from log rs key.stream y beginning
counting_is log rs key y beginning is_of rows =
    ap (λ x. if parent_reaches_end log key.stream (parent_of x)
    || parent_reaches_end log key.stream (adjacent_of x) then origin.TrimHorizon else beginning) is_of.at
    ∙ ap (λ (z : Shard). if parent_reaches_end log key.stream z.parent
    || parent_reaches_end log key.stream z.adjacent then origin.TrimHorizon else beginning) (sym is_of.is_shown)
    ∙ ap (λ b. if b || parent_reaches_end log key.stream y.adjacent then origin.TrimHorizon else beginning)
    (reaches_is log rs key.stream y.parent is_of.live rows)
    ∙ ap (λ b. if parent_reaches log rs key.stream y.parent || b then origin.TrimHorizon else beginning)
    (reaches_is log rs key.stream y.adjacent is_of.live rows)

made_is : (log : Journal) (c : ℕ) (key : ShardRef) (y : Shard) (beginning : Origin) (floor : ℕ) (start : Checkpoint)
    → IsShard log key y → floor ≡ floor_from log c key beginning → start ≡ start_from beginning floor
    → made_row log c key beginning ≡ new_row key floor start y.parent y.adjacent
made_is log c key y beginning floor start is_of floor_is start_is =
    ap (λ f. new_row key f (start_from beginning f) (parent_of (shard_at log key.stream key.shard))
    (adjacent_of (shard_at log key.stream key.shard))) (sym floor_is)
    ∙ ap (λ place. new_row key floor place (parent_of (shard_at log key.stream key.shard))
    (adjacent_of (shard_at log key.stream key.shard))) (sym start_is)
    ∙ ap (λ x. new_row key floor start (parent_of x) (adjacent_of x)) is_of.at
    ∙ ap (λ (z : Shard). new_row key floor start z.parent z.adjacent) (sym is_of.is_shown)

made_here : (log : Journal) (c : ℕ) (key k : ShardRef) (beginning : Origin) (new : Row) (o : Option Row) (b : Bool)
    → same_key key k ≡ b → made_row log c key beginning ≡ new
    → (if b then Some (made_row log c k beginning) else o) ≡ (if b then Some new else o)
made_here log c key k beginning new o false same is = refl
made_here log c key k beginning new o true same is =
    ap (λ (q : ShardRef). Some (made_row log c q beginning)) (sym (same_ref key k same)) ∙ ap Some is

module _ (s : Facing) (rs : List Row) (ts : List TenureValue) (actor : ℕ) (key : ShardRef) where
  pub make_gone : (beginning : Origin)
      → ((log : Journal) → Stands (leases s rs ts) log → is_listed_key log s.clock key ≡ false)
      → Leads (leases s rs ts) (leases s rs ts) actor (command.MakeLease key beginning) (Err refusal.ShardGone)
  make_gone beginning gone =
      λ log st. after_refused _ refusal.ShardGone log (Stands (leases s rs ts))
      (refused_if _ _ _ (ap not (gone log st))) st

  some_row : (o : Option Row) (r : Refusal)
      → ◌≡◌ {A = Result (Unit {0}) Refusal} (Err r) (if is_some o then Err refusal.LeaseThere else Ok tt)
      → (is_some o ≡ true) × (r ≡ refusal.LeaseThere)
  some_row None r h = absurd cc
  some_row (Some x) r h = (refl, err_same r refusal.LeaseThere h)

  pub make_there : (beginning : Origin) (r : Refusal)
      → ◌≡◌ {A = Result (Unit {0}) Refusal} (Err r) (if is_some (row_of rs key) then Err refusal.LeaseThere else Ok tt)
      → ((log : Journal) → Stands (leases s rs ts) log → true ≡ is_listed_key log s.clock key)
      → Leads (leases s rs ts) (leases s rs ts) actor (command.MakeLease key beginning) (Err r)
  make_there beginning r h listed = λ log st.
      let there = some_row (row_of rs key) r h in
      after_refused (decide log s.clock actor (command.MakeLease key beginning)) r log (Stands (leases s rs ts))
      (passed_if _ _ _ (ap not (sym (listed log st))) ∙ refused_if _ _ _ (ap is_some (st.row_is key) ∙ there.0)
      ∙ ap Refused (sym there.1)) st

  no_row : (o : Option Row)
      → ◌≡◌ {A = Result (Unit {0}) Refusal} (Ok tt) (if is_some o then Err refusal.LeaseThere else Ok tt) → o ≡ None
  no_row None h = refl
  no_row (Some x) h = absurd cc

  -- The new row's origin is `counts`.
  pub make_done : (y : Shard) (beginning counts : Origin) (floor : ℕ) (start : Checkpoint) → LeaseLines s
      → ◌≡◌ {A = Result (Unit {0}) Refusal} (Ok tt) (if is_some (row_of rs key) then Err refusal.LeaseThere else Ok tt)
      → ((log : Journal) → Stands (leases s rs ts) log → true ≡ is_listed_key log s.clock key)
      → ((log : Journal) → Stands (leases s rs ts) log → Some y ≡ option_map shown (live_shard log key))
      → ((log : Journal) → s.shows log → counts ≡ counting_from log rs key.stream y beginning)
      → ((log : Journal) → s.shows log → y.start ≡ start_of (shard_at log key.stream key.shard)
      → floor ≡ floor_from log s.clock key counts)
      → start ≡ start_from counts floor → start ≢ At last_number
      → Leads (leases s rs ts) (leases s (with_row (new_row key floor start y.parent y.adjacent) rs) ts) actor
      (command.MakeLease key beginning) (Ok (reply.Leased counts))
  make_done y beginning counts floor start law h listed shard next_counter floored start_is bounded = λ log st.
      let none = no_row (row_of rs key) h in
      let is_of = is_shard log key y (shard log st) in
      let new = new_row key floor start y.parent y.adjacent in
      let line = plain_line s.clock actor (entry.LeaseMade key counts) in
      let made = made_is log s.clock key y counts floor start is_of (floored log st.shows (starts_at log key y is_of))
      start_is in
      let stands = stands_of s (with_row new rs) ts (line ∷ log) (law log line st.shows refl refl)
      (made_rows log line rs new none (ap (with_key key) st.keys_are ∙ sym (keys_with new rs))
      (λ k o. made_here log s.clock key k counts new o (same_key key k) refl made) bounded
      (rows_of s rs ts log st))
      (same_tenures log line ts (λ n. refl) (λ u o. refl) (tenures_of s rs ts log st)) in
      after_accepted (decide log s.clock actor (command.MakeLease key beginning)) (line ∷ []) (reply.Leased counts) log
      (Stands (leases s (with_row new rs) ts))
      (passed_if _ _ _ (ap not (sym (listed log st))) ∙ passed_if _ _ _ (ap is_some (st.row_is key ∙ none))
      ∙ ap (λ o. Accepted (plain_line s.clock actor (entry.LeaseMade key o) ∷ []) (reply.Leased o))
      (counting_is log rs key y beginning is_of st.row_is ∙ sym (next_counter log st.shows))) stands

-- ---- A row is taken

-- The decision on a take of the row: `next` unless a test refuses; `spent` means no tenure number is left.
abbrev taking : Option Row → ℕ → Bool → (Row → Decision) → Decision
taking o counter spent next =
    with o or refusal.NoLease then λ r.
    refuse refusal.Moved r.counter if not (r.counter == counter) else
    refuse refusal.Ended if is_end r.checkpoint else
    refuse refusal.Spent if (r.counter == last_number) || spent else
    next r

taking_refused : (o : Option Row) (counter : ℕ) (spent : Bool) (r : Refusal) (next : Row → Decision)
    → Err r ≡ start_answer o counter spent → taking o counter spent next ≡ Refused r
taking_refused None counter spent r next h = with_none _ _ _ refl ∙ ap Refused (sym (err_same r refusal.NoLease h))
taking_refused (Some x) counter spent r next h =
    with_some _ _ _ x refl
    ∙ refused_test (not (x.counter == counter)) r _
    (if is_end x.checkpoint then Err refusal.Ended else if (x.counter == last_number)
    || spent then Err refusal.Spent else Ok x.checkpoint) _ h (λ moved h.
    refused_test (is_end x.checkpoint) r _ (if (x.counter == last_number)
    || spent then Err refusal.Spent else Ok x.checkpoint) _ h (λ ended h.
    refused_test ((x.counter == last_number) || spent) r _ (Ok x.checkpoint) _ h (λ full h. never r x.checkpoint _ h)))

-- A take is allowed: the row has this counter, which can rise, and a tenure number is left.
pub record IsTaken (o : Option Row) (counter : ℕ) (spent : Bool) (start : Checkpoint) : Type 0 where
  pub before : Row
  pub at : o ≡ Some before
  pub start_is : start ≡ before.checkpoint
  pub counter_is : before.counter ≡ counter
  pub room : (before.counter == last_number) ≡ false
  pub unspent : spent ≡ false
  pub goes : (next : Row → Decision) → taking o counter spent next ≡ next before
  pub answered : take_answer o counter ≡ Ok (before.counter + 1)

pub is_taken : (o : Option Row) (counter : ℕ) (spent : Bool) (start : Checkpoint)
    → Ok start ≡ start_answer o counter spent → IsTaken o counter spent start
is_taken None counter spent start h = absurd cc
is_taken (Some x) counter spent start h =
    let moved = if_ok (not (x.counter == counter)) _ start _ h in
    let ended = if_ok (is_end x.checkpoint) _ start _ moved.1 in
    let full = if_ok ((x.counter == last_number) || spent) _ start _ ended.1 in
    let both = or_parts (x.counter == last_number) spent full.0 in
    record {
      before = x;
      at = refl;
      start_is = ok_same start x.checkpoint full.1;
      counter_is = equal_unless x.counter counter moved.0;
      room = both.0;
      unspent = both.1;
      goes = λ next. with_some _ _ _ x refl ∙ passed_if _ _ _ moved.0 ∙ passed_if _ _ _ ended.0
          ∙ passed_if _ _ _ full.0;
      answered =
          ap (λ b. if b then Err (refusal.Moved x.counter) else if is_end x.checkpoint then Err refusal.Ended else
          next_counter x.counter) moved.0
          ∙ ap (λ b. if b then Err refusal.Ended else next_counter x.counter) ended.0
          ∙ ap (λ b. if b then Err refusal.Spent else Ok (x.counter + 1)) both.0;
    }

pub below_last : (n : ℕ) (b : Bool) → b ≡ (n == last_number) → b ≡ false → n ≤ last_number → n < last_number
below_last n b is apart le = let other : n ≢ last_number = differ_so n last_number (sym is ∙ apart) in
    omega arith

module _ (s : Facing) (rs : List Row) (ts : List TenureValue) (actor : ℕ) (key : ShardRef) (counter owner : ℕ) where
  taken_next : Journal → Row → Decision
  taken_next log r = Accepted (plain_line s.clock actor (entry.Taken key (taken_count log + 1) (r.counter + 1) owner)
      ∷ [])
      (reply.Taken (taken_count log + 1) (r.counter + 1) r.checkpoint)

  along : (log : Journal) → Stands (leases s rs ts) log → decide log s.clock actor (command.Take key counter owner)
      ≡ taking (row_of rs key) counter (length ts == last_number) (taken_next log)
  unfolding taken_next
  along log st = ap (λ o. taking o counter (taken_count log == last_number) (taken_next log)) (st.row_is key)
      ∙ ap (λ n. taking (row_of rs key) counter (n == last_number) (taken_next log)) st.count_is

  pub take_refused : (r : Refusal) → Err r ≡ start_answer (row_of rs key) counter (length ts == last_number)
      → Leads (leases s rs ts) (leases s rs ts) actor (command.Take key counter owner) (Err r)
  take_refused r h = λ log st.
      after_refused (decide log s.clock actor (command.Take key counter owner)) r log (Stands (leases s rs ts))
      (along log st ∙ taking_refused (row_of rs key) counter (length ts == last_number) r (taken_next log) h) st

  pub take_allowed : (start : Checkpoint) → Ok start ≡ start_answer (row_of rs key) counter (length ts == last_number)
      → (log : Journal) → Stands (leases s rs ts) log
      → (r : Reply) × (answer_of (decide log s.clock actor (command.Take key counter owner)) ≡ Ok r)
  unfolding taken_next
  take_allowed start h log st =
      let is_of = is_taken (row_of rs key) counter (length ts == last_number) start h in (
        reply.Taken (taken_count log + 1) (is_of.before.counter + 1) is_of.before.checkpoint,
        ap answer_of (along log st ∙ is_of.goes (taken_next log)),
      )

  pub take_done : (start : Checkpoint) (t n : ℕ) → LeaseLines s
      → Ok start ≡ start_answer (row_of rs key) counter (length ts == last_number) → length ts ≤ last_number
      → t ≡ length ts + 1 → Ok n ≡ take_answer (row_of rs key) counter
      → Leads (leases s rs ts) (leases s (changed (taken_row t owner) key rs) (ts ++ (begun actor key start ∷ [])))
      actor
      (command.Take key counter owner) (Ok (reply.Taken t n start))
  unfolding taken_next
  take_done start t n law h few t_is n_is = λ log st.
      let is_of = is_taken (row_of rs key) counter (length ts == last_number) start h in
      let no : t ≡ taken_count log + 1 = t_is ∙ ap (λ m. m + 1) (sym st.count_is) in
      let line = plain_line s.clock actor (entry.Taken key (taken_count log + 1) (is_of.before.counter + 1) owner) in
      let T = new_tenure actor key (checkpoint_in (row log key)) in
      let is_from : start ≡ checkpoint_in (row log key) =
      is_of.start_is ∙ sym (ap checkpoint_in (st.row_is key ∙ is_of.at)) in
      let stands = stands_of s (changed (taken_row (taken_count log + 1) owner) key rs)
      (ts ++ (begun actor key start ∷ [])) (line ∷ log) (law log line st.shows refl refl)
      (changed_rows log line rs (taken_row (taken_count log + 1) owner) key (λ r. refl) (λ ks. refl) (λ k o. refl)
      (λ r here e. st.bounded key (ap checkpoint_in here ∙ e)) (rows_of s rs ts log st))
      (tenure_begins log line ts T (begun actor key start) (λ m. refl) (λ u o. refl) (ap (begun actor key) is_from)
      (omega arith)
      (below_last (length ts) (length ts == last_number) refl is_of.unspent few) (tenures_of s rs ts log st)) in
      let taken = after_accepted (decide log s.clock actor (command.Take key counter owner)) (line ∷ [])
      (reply.Taken (taken_count log + 1) (is_of.before.counter + 1) is_of.before.checkpoint) log
      (Stands (leases s (changed (taken_row (taken_count log + 1) owner) key rs) (ts ++ (begun actor key start ∷ []))))
      (along log st ∙ is_of.goes (taken_next log)) stands in (
        ap (λ m. Ok (reply.Taken m n start)) no
            ∙ ap (λ m. Ok (reply.Taken (taken_count log + 1) m start))
            (ok_same n (is_of.before.counter + 1) (n_is ∙ is_of.answered))
            ∙ ap (λ x. Ok (reply.Taken (taken_count log + 1) (is_of.before.counter + 1) x)) is_of.start_is
            ∙ taken.0,
        subst (λ m. Stands (leases s (changed (taken_row m owner) key rs) (ts ++ (begun actor key start ∷ [])))
            (with_lines (lines_of (decide log s.clock actor (command.Take key counter owner))) log)) (sym no) taken.1,
      )

-- ---- A row is removed

-- The decision on a removal of the row: `next` unless a test refuses.
abbrev cutting : Option Row → ℕ → Bool → Decision → Decision
cutting o counter listed next =
    with o or refusal.NoLease then λ r.
    refuse refusal.Moved r.counter if not (r.counter == counter) else
    refuse refusal.ShardListed if listed else
    next

cutting_refused : (o : Option Row) (counter : ℕ) (listed : Bool) (r : Refusal) (next : Decision)
    → Err r ≡ cut_answer o counter listed → cutting o counter listed next ≡ Refused r
cutting_refused None counter listed r next h = with_none _ _ _ refl ∙ ap Refused (sym (err_same r refusal.NoLease h))
cutting_refused (Some x) counter listed r next h =
    with_some _ _ _ x refl
    ∙ refused_test (not (x.counter == counter)) r _ (if listed then Err refusal.ShardListed else Ok tt) _ h (λ moved h.
    refused_test listed r _ (Ok tt) _ h (λ out h. never r tt _ h))

cutting_done : (o : Option Row) (counter : ℕ) (listed : Bool) (next : Decision) → Ok tt ≡ cut_answer o counter listed
    → cutting o counter listed next ≡ next
cutting_done None counter listed next h = absurd cc
cutting_done (Some x) counter listed next h =
    let moved = if_ok (not (x.counter == counter)) _ tt _ h in
    let out = if_ok listed refusal.ShardListed tt (Ok tt) moved.1 in
    with_some _ _ _ x refl ∙ passed_if _ _ _ moved.0 ∙ passed_if _ _ _ out.0

module _ (s : Facing) (rs : List Row) (ts : List TenureValue) (actor : ℕ) (key : ShardRef) (counter : ℕ) (listed : Bool)
    (listed_is : (log : Journal) → Stands (leases s rs ts) log → listed ≡ is_listed_key log s.clock key) where
  cut_line : Line
  cut_line = plain_line s.clock actor (entry.LeaseCut key counter)

  cut_along : (log : Journal) → Stands (leases s rs ts) log → decide log s.clock actor (command.CutLease key counter)
      ≡ cutting (row_of rs key) counter listed (Accepted (cut_line ∷ []) reply.Done)
  unfolding cut_line
  cut_along log st =
      ap (λ o. cutting o counter (is_listed_key log s.clock key) (Accepted (cut_line ∷ []) reply.Done)) (st.row_is key)
      ∙ ap (λ b. cutting (row_of rs key) counter b (Accepted (cut_line ∷ []) reply.Done)) (sym (listed_is log st))

  pub cut_refused : (r : Refusal) → Err r ≡ cut_answer (row_of rs key) counter listed
      → Leads (leases s rs ts) (leases s rs ts) actor (command.CutLease key counter) (Err r)
  cut_refused r h = λ log st.
      after_refused (decide log s.clock actor (command.CutLease key counter)) r log (Stands (leases s rs ts))
      (cut_along log st ∙ cutting_refused (row_of rs key) counter listed r (Accepted (cut_line ∷ []) reply.Done) h)
      st

  pub cut_done : LeaseLines s → Ok tt ≡ cut_answer (row_of rs key) counter listed
      → Leads (leases s rs ts) (leases s (without_row key rs) ts) actor (command.CutLease key counter) (Ok reply.Done)
  unfolding cut_line
  cut_done law h = λ log st.
      let line = plain_line s.clock actor (entry.LeaseCut key counter) in
      let stands = stands_of s (without_row key rs) ts (line ∷ log) (law log line st.shows refl refl)
      (removed_rows log line rs key (ap (without_key key) st.keys_are ∙ sym (keys_without key rs)) (λ k o. refl)
      (rows_of s rs ts log st))
      (same_tenures log line ts (λ n. refl) (λ u o. refl) (tenures_of s rs ts log st)) in
      after_accepted (decide log s.clock actor (command.CutLease key counter)) (line ∷ []) reply.Done log
      (Stands (leases s (without_row key rs) ts))
      (cut_along log st ∙ cutting_done (row_of rs key) counter listed (Accepted (cut_line ∷ []) reply.Done) h) stands
