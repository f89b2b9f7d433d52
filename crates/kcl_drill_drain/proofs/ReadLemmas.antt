-- A tenure that drains its shard: one lemma for each read, give and mark, and for what follows from the answer.
use Rattle.std.proofs.Common.{◌≡◌, ℕ, ◌+◌, ◌-◌, ◌*◌, ◌<◌, ◌≤◌, ◌^◌, max, Bool, true, false, List, [], ◌∷◌, ◌++◌, length}
use Rattle.std.proofs.Common.{map, Option, Some, None, refl, sym, ap, subst, ◌∙◌, arith}
use Rattle.std.specs.Prelude.{◌==◌, ◌&&◌, nat_le, nat_lt, if◌then◌else◌, Result, Ok, Err, IfOk}
use Rattle.std.specs.Option.{option_map}
use Rattle.std.proofs.lemmas.Bool.Decides.{nat_tests}
use Rattle.std.proofs.lemmas.Option.{same_Some}
use Rattle.kds_base.specs.declared.lease_key.Checkpoint.TheVariants.{ShardEnd}
use Rattle.kds_base.specs.declared.lease_key.ShardRef.{ShardRef}
use Rattle.kds_base.proofs.Facts.{apart, both_left}
use Rattle.kds_defs.specs.declared.command.Command.TheVariants as command
use Rattle.kds_defs.specs.declared.command.Target.{Target}
use Rattle.kds_defs.specs.declared.command.Target.TheVariants as target
use Rattle.kds_defs.specs.declared.command.Turn.{Turn}
use Rattle.kds_defs.specs.declared.entry.Entry.TheVariants as entry
use Rattle.kds_defs.specs.declared.limits.TheConstants.{BATCH_BYTES, PENDING_READS}
use Rattle.kds_defs.specs.declared.reply.Refusal.{Refusal}
use Rattle.kds_defs.specs.declared.reply.Reply.{Reply}
use Rattle.kds_defs.specs.declared.reply.Reply.TheVariants as reply
use Rattle.kds_defs.specs.declared.reply.Row.{Row}
use Rattle.kds_defs.specs.Decision.{Accepted}
use Rattle.kds_defs.specs.Histories.{journal}
use Rattle.kds_defs.specs.Journal.{Journal, plain_line}
use Rattle.kds_defs.specs.Keys.{is_listed_key, same_key}
use Rattle.kds_defs.specs.LeaseCommands.{give, mark, read, read_reply}
use Rattle.kds_defs.specs.RowWrites.{least}
use Rattle.kds_defs.specs.Leases.{ReadDone, is_key, marked_row, row, taken_count}
use Rattle.kds_defs.specs.Listings.{are_none, is_closed_at}
use Rattle.kds_defs.specs.Records.{Logged, batch, beginning, numbers_of, position_after, stored}
use Rattle.kds_defs.specs.Shards.{start_of}
use Rattle.kds_defs.specs.StreamCommands.{last_number}
use Rattle.kcl_defs.specs.Consumers.{last_number_in}
use Rattle.kcl_drill.specs.Summed.{last_checkpoint}
use Rattle.kcl_drill_summary.proofs.BatchLemmas.{from, sized_from, stuck, up_from}
use Rattle.kcl_drill_laws.specs.Holding.{Holding, Holds, IsGivenSo, IsMarkedSo, MayMark, after_give, after_mark}
use Rattle.kcl_drill_laws.specs.Holding.{after_read, given_line, marked_line, read_here, read_line}
use Rattle.kcl_drill_drain.specs.declared.held.DrainTenure.{DrainTenure}
use Rattle.kcl_drill_drain.specs.declared.held.TheConstants.{READ}
use Rattle.kcl_drill_drain.specs.Draining.{IsDone, final_of, left_of, records_of, shard_of}
use Rattle.kcl_drill_drain.specs.Keys.{AreDrainedTo}
use Rattle.kcl_drill_drain.specs.Laws.{HasLaws}
use Rattle.kcl_drill_drain.specs.Leased.{Answers, Leads, turn_of}
use Rattle.kcl_drill_drain.specs.Standing.{IsDrainedHere, IsHeld, IsReady, IsSpot, OthersWait, ReadsOn, Spot, Stands}
use Rattle.kcl_drill_drain.specs.Standing.{batch_at, clock_at, ended_at, given_then, last_at, marked_at, marked_then}
use Rattle.kcl_drill_drain.specs.Standing.{reach_at, read_at, read_then, reply_at}
use Rattle.kcl_drill_drain.specs.Steps.{Marks}
use Rattle.kcl_drill_drain.proofs.Leading.{Answered, IsOver, led, over, so_too}
use Rattle.kcl_drill_drain.proofs.Overs.{same_batch, same_ends}
use Rattle.kcl_drill_drain.proofs.Settling.{batched, last_seq}
use Rattle.kcl_drill_drain.proofs.Spots.{listed, one_more, others_stay}
use Rattle.kcl_drill_drain.proofs.Beginning.{left_is, not_last, up}

-- The law, taken as given, that a Read at the tenure's position is decided as `read_here`.
abbrev pub ReadLaw : Type 0
ReadLaw = (log : Journal) (c limit : ℕ) (x : Holding) → Holds log x → length x.waiting < PENDING_READS
    → is_listed_key log c x.key ≡ true → read log c x.by x.tenure x.position limit ≡ read_here log c x limit

-- The law, taken as given, that after a read's line the tenure is as `after_read` says.
abbrev pub ReadState : Type 0
ReadState = (log : Journal) (c limit : ℕ) (x : Holding) (r : ReadDone) → Holds log x
    → Holds (read_line c x limit r ∷ log) (after_read x r)

-- The law, taken as given, that the Give of the first read that waits is accepted.
abbrev pub GiveLaw : Type 0
GiveLaw = (log : Journal) (c : ℕ) (x : Holding) (r : ReadDone) (rest : List ReadDone) → Holds log x
    → x.waiting ≡ r ∷ rest → IsGivenSo log c x r

-- The law, taken as given, that after a give's line the tenure is as `after_give` says.
abbrev pub GivenState : Type 0
GivenState = (log : Journal) (c : ℕ) (x : Holding) (r : ReadDone) (rest : List ReadDone) → Holds log x
    → x.waiting ≡ r ∷ rest → Holds (given_line c x ∷ log) (after_give x r rest)

-- The law, taken as given, that a mark that the tenure may make is accepted below the last counter.
abbrev pub MarkLaw : Type 0
MarkLaw = (log : Journal) (c : ℕ) (x : Holding) (goal : Target) → Holds log x → MayMark x goal
    → (x.counter == last_number) ≡ false → IsMarkedSo log c x goal

-- The law, taken as given, that after a mark's line the tenure is as `after_mark` says.
abbrev pub MarkedState : Type 0
MarkedState = (log : Journal) (c : ℕ) (x : Holding) (goal : Target) → Holds log x
    → Holds (marked_line c x goal ∷ log) (after_mark x goal)

same_others : (w : Spot) (old now : Journal) → ((key : ShardRef) → row now key ≡ row old key)
    → taken_count now ≡ taken_count old → OthersWait w old → OthersWait w now
same_others w old now rows count others = record {
  done = λ j key below is. subst (IsDone w.history key) (sym (rows key)) (others.done j key below is);
  waits = λ j key above is. let f = others.waits j key above is in
      record { now = f.now; there = rows key ∙ f.there; seen = f.seen; fresh = f.fresh };
  few = subst (λ n. n ≤ length w.history + (w.index + 1)) (sym count) others.few;
}

-- ---- A Give

-- The Give of the only read that waits is accepted.
pub gave : (w : Spot) (moment : ℕ) (stands stands' : List Turn → Type 0) (actor tenure : ℕ) (x : Holding) (r : ReadDone)
    (a : Result Reply Refusal) → GiveLaw → GivenState → moment < 2 ^ 62 → x.waiting ≡ r ∷ [] → x.tenure ≡ tenure
    → (l : Leads stands actor moment w.history (Stands w actor x))
    → Answered stands stands' (turn_of actor moment (command.Give tenure)) a
    → Leads stands' actor moment w.history (Stands w actor (after_give x r []))
gave w moment stands stands' actor tenure x r a law state below waits same l answers =
    let now = journal (l.more ++ w.history) in
    let c = clock_at w moment in
    let s = l.so in
    let decided : give now c actor tenure
    ≡ Accepted (given_line c x ∷ []) (reply.Given (position_after x.done r.numbers)) =
    ap (λ n. give now c n tenure) (sym s.own) ∙ ap (λ n. give now c x.by n) (sym same)
    ∙ law now c x r [] s.holds waits in
    (led stands stands' actor moment w.history (command.Give tenure) a (Stands w actor x)
    (Stands w actor (after_give x r []))
    (Accepted (given_line c x ∷ []) (reply.Given (position_after x.done r.numbers))) refl (
      below,
      tt,
    ) answers l decided
    (record {
      others = same_others w now (given_line c x ∷ now) (λ key. refl) refl s.others;
      holds = state now c x r [] s.holds waits;
      own = s.own;
      of_key = s.of_key;
    })).1

module _ (w : Spot) (moment : ℕ) (spot : IsSpot w moment) (laws : HasLaws w.history (clock_at w moment)) where
  -- ---- A Read

  read_is : (now : Journal) (x : Holding) → IsOver w.history (clock_at w moment) now → x.key ≡ w.key
      → read_here now (clock_at w moment) x READ
      ≡ Accepted (read_line (clock_at w moment) x READ (read_at w moment x) ∷ []) (reply_at w moment x)
  read_is now x is of_key =
      let c = clock_at w moment in
      ap (λ (k : ShardRef). read_reply now c x.by x.tenure READ k (batch now c k.stream k.shard x.position READ)
      (position_after x.position (numbers_of (batch now c k.stream k.shard x.position READ)))) of_key
      ∙ ap (λ bs. read_reply now c x.by x.tenure READ w.key bs (position_after x.position (numbers_of bs)))
      (same_batch w.history c now is w.key.stream w.key.shard x.position READ)
      ∙ ap (λ b. Accepted (plain_line c x.by (entry.Read x.tenure READ b (numbers_of (batch_at w moment x))) ∷ [])
      (reply.Read (map stored (batch_at w moment x)) (reach_at w moment x) b))
      (same_ends w.history c now is w.key.stream w.key.shard (reach_at w moment x))

  no_wait : (n : ℕ) → n ≡ 0 → n < PENDING_READS
  no_wait n is = omega arith

  pub read_so : (stands stands' : List Turn → Type 0) (actor : ℕ) (x : Holding) (held : DrainTenure)
      (a : Result Reply Refusal) → ReadLaw → ReadState → moment < 2 ^ 62 → IsReady w moment x → IsHeld x held
      → (l : Leads stands actor moment w.history (Stands w actor x))
      → Answered stands stands' (turn_of actor moment (command.Read held.tenure held.position READ)) a
      → (a ≡ Ok (reply_at w moment x)) × Leads stands' actor moment w.history (Stands w actor (read_then w moment x))
  read_so stands stands' actor x held a law state below ready is l answers =
      let now = journal (l.more ++ w.history) in
      let c = clock_at w moment in
      let s = l.so in
      let there = over stands actor moment w.history (Stands w actor x) laws l in
      let open_now : is_listed_key now c x.key ≡ true =
      ap (is_listed_key now c) s.of_key ∙ listed w moment spot laws now there in
      let decided : read now c actor held.tenure held.position READ
      ≡ Accepted (read_line c x READ (read_at w moment x) ∷ []) (reply_at w moment x) =
      ap (λ n. read now c n held.tenure held.position READ) (sym s.own)
      ∙ ap (λ n. read now c x.by n held.position READ) (sym is.tenure)
      ∙ ap (λ n. read now c x.by x.tenure n READ) (sym is.position)
      ∙ law now c READ x s.holds (no_wait (length x.waiting) (ap length ready.none_waits)) open_now
      ∙ read_is now x there s.of_key in
      led stands stands' actor moment w.history (command.Read held.tenure held.position READ) a (Stands w actor x)
      (Stands w actor (read_then w moment x))
      (Accepted (read_line c x READ (read_at w moment x) ∷ []) (reply_at w moment x)) refl
      (below, (omega arith, omega arith)) answers l decided
      (record {
        others = same_others w now (read_line c x READ (read_at w moment x) ∷ now) (λ key. refl) refl s.others;
        holds = state now c READ x (read_at w moment x) s.holds;
        own = s.own;
        of_key = s.of_key;
      })

  -- The lemma `read_so` for the result of a call, which has the answer unless memory ran out.
  pub read_result : {E : Type 0} (stands stands' : List Turn → Type 0) (actor : ℕ) (x : Holding) (held : DrainTenure)
      (r : Result (Result Reply Refusal) E) → ReadLaw → ReadState → moment < 2 ^ 62 → IsReady w moment x → IsHeld x held
      → (l : Leads stands actor moment w.history (Stands w actor x))
      → Answers stands stands' (turn_of actor moment (command.Read held.tenure held.position READ)) r
      → IfOk r (λ a. (a ≡ Ok (reply_at w moment x))
      × Leads stands' actor moment w.history (Stands w actor (read_then w moment x)))
  read_result stands stands' actor x held (Ok a) law state below ready is l answers =
      read_so stands stands' actor x held a law state below ready is l answers
  read_result stands stands' actor x held (Err e) law state below ready is l answers = tt

  -- ---- A Mark

  -- A mark that the tenure may make is accepted, and raises the counter by one.
  pub marked : (stands stands' : List Turn → Type 0) (actor tenure counter : ℕ) (goal : Target) (x : Holding)
      (a : Result Reply Refusal) → MarkLaw → MarkedState → moment < 2 ^ 62 → MayMark x goal
      → (x.counter == last_number) ≡ false → x.tenure ≡ tenure → x.counter ≡ counter
      → (l : Leads stands actor moment w.history (Stands w actor x))
      → Answered stands stands' (turn_of actor moment (command.Mark tenure counter goal)) a
      → (a ≡ Ok (reply.Counter (x.counter + 1)))
      × Leads stands' actor moment w.history (Stands w actor (after_mark x goal))
  marked stands stands' actor tenure counter goal x a law state below may few same same_n l answers =
      let now = journal (l.more ++ w.history) in
      let c = clock_at w moment in
      let s = l.so in
      let decided : mark now c actor tenure counter goal
      ≡ Accepted (marked_line c x goal ∷ []) (reply.Counter (x.counter + 1)) =
      ap (λ n. mark now c n tenure counter goal) (sym s.own)
      ∙ ap (λ n. mark now c x.by n counter goal) (sym same)
      ∙ ap (λ n. mark now c x.by x.tenure n goal) (sym same_n)
      ∙ law now c x goal s.holds may few in
      led stands stands' actor moment w.history (command.Mark tenure counter goal) a (Stands w actor x)
      (Stands w actor (after_mark x goal)) (Accepted (marked_line c x goal ∷ []) (reply.Counter (x.counter + 1))) refl
      (below, tt) answers l decided
      (record {
        others = others_stay w moment spot laws now (marked_line c x goal ∷ now) s.others
            (λ key other. others now x goal key s other) refl;
        holds = state now c x goal s.holds;
        own = s.own;
        of_key = s.of_key;
      })
    where
      others : (now : Journal) (x : Holding) (goal : Target) (key : ShardRef) → Stands w actor x now
          → same_key w.key key ≡ false → row (marked_line (clock_at w moment) x goal ∷ now) key ≡ row now key
      others now x goal key s other =
          ap (λ b. if b then option_map (marked_row goal) (row now key) else row now key)
          (ap (λ o. is_key o key) s.holds.tenure.took ∙ ap (λ k. same_key k key) s.of_key ∙ other)

  -- ---- What a read brought

  -- What the next read brings: nothing, if no record is left, or records up to `q`, which the tenure may then mark.
  pub data Brought (x : Holding) : Type 0 where
    Nothing : left_of (journal w.history) (clock_at w moment) w.key x.position ≡ [] → last_at w moment x ≡ None
        → reach_at w moment x ≡ x.position → Brought x
    Records : (q : ℕ) → last_at w moment x ≡ Some q
        → IsReady w moment (after_mark (given_then w moment x) (target.At q))
        → MayMark (given_then w moment x) (target.At q) → x.position < reach_at w moment x → Brought x

  not_less : (q n : ℕ) → n ≡ q + 1 → nat_le n q ≡ false
  not_less q n is = grind (arith, nat_tests)

  not_under : (q n : ℕ) → n ≤ q → nat_lt q n ≡ false
  not_under q n le = grind (arith, nat_tests)

  brought_by : (x : Holding) (bs : List Logged) → batch_at w moment x ≡ bs → IsReady w moment x → Brought x
  brought_by x [] is ready =
      let all = records_of (journal w.history) w.key in
      let none : beginning READ BATCH_BYTES (from x.position all) ≡ [] =
      ap (beginning READ BATCH_BYTES) (sym (left_is w moment spot laws x.position)) ∙ is in
      let stop : nat_lt x.position
      (position_after x.position (numbers_of (beginning READ BATCH_BYTES (from x.position all))))
      ≡ false = ap (λ ys. nat_lt x.position (position_after x.position (numbers_of ys))) none
      ∙ not_under x.position x.position (omega arith) in
      Nothing (left_is w moment spot laws x.position
      ∙ stuck 999 x.position (from x.position all) (up_from x.position _ all (up w moment spot laws))
      (sized_from x.position all (laws.sized w.key.stream w.key.shard)) stop)
      (ap (λ ys. last_number_in (map stored ys)) is) (ap (λ ys. position_after x.position (numbers_of ys)) is)
  brought_by x (b ∷ bs) is ready =
      let all = records_of (journal w.history) w.key in
      let start = start_of (shard_of (journal w.history) w.key) in
      let same : batch_at w moment x ≡ beginning READ BATCH_BYTES (from x.position all) =
      ap (beginning READ BATCH_BYTES) (left_is w moment spot laws x.position) in
      let f = batched READ BATCH_BYTES start x.position all b bs (up w moment spot laws) (sym same ∙ is) in
      let q = last_seq b bs in
      let reach : reach_at w moment x ≡ q + 1 = ap (λ ys. position_after x.position (numbers_of ys)) same ∙ f.reach in
      let done : position_after x.done (numbers_of (batch_at w moment x)) ≡ reach_at w moment x =
      ap (λ p. position_after p (numbers_of (batch_at w moment x))) ready.given in
      let left : left_of (journal w.history) (clock_at w moment) w.key (reach_at w moment x) ≡ from (q + 1) all =
      left_is w moment spot laws (reach_at w moment x) ∙ ap (λ p. from p all) reach in
      Records q (ap (λ ys. last_number_in (map stored ys)) same ∙ f.number)
      (record {
        none_waits = refl;
        given = done;
        going = refl;
        settled = λ none. f.settled (sym left ∙ none);
        low = under q (reach_at w moment x) start reach;
        budget = less x.counter (length (from (q + 1) all)) (length (from x.position all)) _ _ _ (ap length left)
            (ap length (left_is w moment spot laws x.position)) f.fewer ready.budget;
      }) (
        ready.going,
        not_less q _ (done ∙ reach),
        not_under q (least x.checkpoint x.floor)
            (over_low (least x.checkpoint x.floor) (max x.position start) q ready.low f.above),
      )
      (beyond x.position start q (reach_at w moment x) f.above reach)
    where
      beyond : (p start q n : ℕ) → max p start ≤ q → n ≡ q + 1 → p < n
      beyond p start q n le is = omega arith

      under : (q n start : ℕ) → n ≡ q + 1 → q ≤ max n start
      under q n start is = omega arith

      over_low : (a m q : ℕ) → a ≤ m → m ≤ q → a ≤ q
      over_low a m q le le' = omega arith

      less : (n some all left left' most : ℕ) → left ≡ some → left' ≡ all → some + 1 ≤ all → n + left' ≤ most
          → n + 1 + left ≤ most
      less n some all left left' most is is' le le' = omega arith

  pub brought : (x : Holding) → IsReady w moment x → Brought x
  brought x ready = brought_by x (batch_at w moment x) refl ready

  -- ---- The counter of the row doesn't reach its limit

  few_counters : (n h left all : ℕ) → n + left ≤ h + 1 + all → all ≤ 500 * h → h < 2 ^ 32 → n < 2 ^ 64 - 1
  few_counters n h left all le le' lt = omega arith

  pub some_left : (x : Holding) → IsReady w moment x → (x.counter == last_number) ≡ false
  some_left x ready = not_last x.counter
      (few_counters x.counter (length w.history) _ (length (records_of (journal w.history) w.key)) ready.budget
      (laws.few w.key.stream w.key.shard) spot.can.few)

  -- ---- The row is drained

  done_at : (now : Journal) (actor : ℕ) (x : Holding) → Stands w actor x now
      → final_of (journal w.history) w.key ≡ x.checkpoint → IsDone w.history w.key (row now w.key)
  done_at now actor x s is =
      let held = s.holds.row in
      ap (option_map (λ (r : Row). r.checkpoint)) (ap (row now) (sym s.of_key) ∙ held.there)
      ∙ ap Some (held.checkpoint ∙ sym is)

  pub drained_at : (stands : List Turn → Type 0) (actor : ℕ) (x : Holding)
      → Leads stands actor moment w.history (Stands w actor x)
      → final_of (journal w.history) w.key ≡ x.checkpoint → IsDrainedHere stands w actor moment
  drained_at stands actor x l is =
      so_too stands actor moment w.history (Stands w actor x) (AreDrainedTo w.history w.keys w.among (w.index + 1)) l
      (λ s. one_more w moment spot laws (journal (l.more ++ w.history)) s.others
      (done_at (journal (l.more ++ w.history)) actor x s is))

  pub ended_final : (x : Holding) → ended_at w moment x ≡ true → final_of (journal w.history) w.key ≡ ShardEnd
  ended_final x is =
      ap (λ b. if b then ShardEnd else last_checkpoint (records_of (journal w.history) w.key))
      (both_left (is_closed_at (shard_of (journal w.history) w.key)) _ is)

  none_closed : (a b : Bool) → b ≡ true → (a && b) ≡ false → a ≡ false
  none_closed true b e h = absurd (apart b e h)
  none_closed false b e h = refl

  pub stopped_final : (x : Holding) → IsReady w moment x
      → left_of (journal w.history) (clock_at w moment) w.key x.position ≡ []
      → reach_at w moment x ≡ x.position → ended_at w moment x ≡ false
      → final_of (journal w.history) w.key ≡ x.checkpoint
  stopped_final x ready none reach is =
      let left : left_of (journal w.history) (clock_at w moment) w.key (reach_at w moment x) ≡ [] =
      ap (left_of (journal w.history) (clock_at w moment) w.key) reach ∙ none in
      ap (λ b. if b then ShardEnd else last_checkpoint (records_of (journal w.history) w.key))
      (none_closed (is_closed_at (shard_of (journal w.history) w.key))
      (are_none (left_of (journal w.history) (clock_at w moment) w.key (reach_at w moment x))) (ap are_none left) is)
      ∙ sym (ready.settled none)

  -- ---- The steps after a read

  -- A mark that the tenure may make at `goal` was accepted, and `n` is the row's new counter.
  abbrev pub MarksOk : (List Turn → Type 0) → (List Turn → Type 0) → ℕ → DrainTenure → Target → ℕ → Type 0
  MarksOk stands stands' actor held goal n =
      (w : Spot) (x : Holding) → IsSpot w moment → MayMark x goal → (x.counter == last_number) ≡ false
      → x.tenure ≡ held.tenure → x.counter ≡ held.counter
      → Leads stands actor moment w.history (Stands w actor x) → (n ≡ x.counter + 1)
      × Leads stands' actor moment w.history (Stands w actor (after_mark x goal))

  no_number : (q : ℕ) → Some q ≡ None → ⊥
  no_number q h = cc

  tenure_kept : (o : Option ℕ) (x : Holding) → (marked_at o x).tenure ≡ x.tenure
  tenure_kept None x = refl
  tenure_kept (Some q) x = refl

  position_kept : (o : Option ℕ) (x : Holding) → (marked_at o x).position ≡ x.position
  position_kept None x = refl
  position_kept (Some q) x = refl

  ended_kept : (o : Option ℕ) (x : Holding) → (marked_at o x).ended ≡ x.ended
  ended_kept None x = refl
  ended_kept (Some q) x = refl

  pub marks_some : {E : Type 0} (stands stands' : List Turn → Type 0) (actor q : ℕ) (held : DrainTenure)
      (result : Result ℕ E) (x : Holding) → Marks stands stands' actor moment held (target.At q) result
      → IsReady w moment x
      → IsHeld x held → Some q ≡ last_at w moment x
      → Leads stands actor moment w.history (Stands w actor (given_then w moment x))
      → IfOk result (λ n. (n ≡ (marked_then w moment x).counter)
      × Leads stands' actor moment w.history (Stands w actor (marked_then w moment x)))
  marks_some stands stands' actor q held result x marks ready is last l = by_brought (brought x ready)
    where
      by_brought : Brought x
          → IfOk result (λ n. (n ≡ (marked_then w moment x).counter)
          × Leads stands' actor moment w.history (Stands w actor (marked_then w moment x)))
      by_brought (Nothing left none reach) = absurd (no_number q (last ∙ none))
      by_brought (Records p at_p next may beyond) =
          let e = same_Some p q (sym at_p ∙ sym last) in
          subst (λ o. IfOk result (λ n. (n ≡ (marked_at o (given_then w moment x)).counter)
          × Leads stands' actor moment w.history (Stands w actor (marked_at o (given_then w moment x))))) last
          (marks w (given_then w moment x) spot (subst (λ n. MayMark (given_then w moment x) (target.At n)) e may)
          (some_left x ready) is.tenure is.counter l)

  marked_left : (x : Holding) → IsReady w moment x → Brought x → ((marked_then w moment x).counter == last_number)
      ≡ false
  marked_left x ready (Nothing left none reach) =
      subst (λ o. ((marked_at o (given_then w moment x)).counter == last_number) ≡ false) (sym none) (some_left x ready)
  marked_left x ready (Records q at_q next may beyond) =
      subst (λ o. ((marked_at o (given_then w moment x)).counter == last_number) ≡ false) (sym at_q)
      (some_left (after_mark (given_then w moment x) (target.At q)) next)

  -- After a read that ended the shard and a mark at SHARD_END, the key's row is drained.
  pub ends : (stands stands' : List Turn → Type 0) (actor n : ℕ) (held : DrainTenure) (x : Holding)
      → MarksOk stands stands' actor held target.End n → IsReady w moment x → ended_at w moment x ≡ true
      → IsHeld (marked_then w moment x) held
      → Leads stands actor moment w.history (Stands w actor (marked_then w moment x))
      → IsDrainedHere stands' w actor moment
  ends stands stands' actor n held x marks ready ended is l =
      let y = marked_then w moment x in
      let may : y.ended ≡ true = ended_kept (last_at w moment x) (given_then w moment x) ∙ ended in
      drained_at stands' actor (after_mark y target.End)
      (marks w y spot may (marked_left x ready (brought x ready)) is.tenure is.counter l).1 (ended_final x ended)

  -- If the read moved the position on, the tenure is ready for its next read after the mark.
  pub goes_on : (stands : List Turn → Type 0) (actor : ℕ) (held : DrainTenure) (x : Holding) → IsReady w moment x
      → x.position < held.position → IsHeld (marked_then w moment x) held
      → Leads stands actor moment w.history (Stands w actor (marked_then w moment x))
      → ReadsOn stands w actor moment held
  goes_on stands actor held x ready above is l =
      record { now = marked_then w moment x; leads = l; ready = by_brought (brought x ready); is = is }
    where
      no : (p q n m : ℕ) → p < q → n ≡ m → m ≡ p → n ≡ q → ⊥
      no p q n m lt e e' e'' = omega arith

      by_brought : Brought x → IsReady w moment (marked_then w moment x)
      by_brought (Nothing left none reach) =
          absurd (no x.position held.position (marked_then w moment x).position (reach_at w moment x) above
          (position_kept (last_at w moment x) (given_then w moment x)) reach is.position)
      by_brought (Records q at_q next may beyond) =
          subst (λ o. IsReady w moment (marked_at o (given_then w moment x))) (sym at_q) next

  -- If the read neither moved the position on nor ended the shard, the key's row is drained.
  pub stops : (stands : List Turn → Type 0) (actor : ℕ) (held : DrainTenure) (x : Holding) → IsReady w moment x
      → held.position ≤ x.position → ended_at w moment x ≡ false → IsHeld (marked_then w moment x) held
      → Leads stands actor moment w.history (Stands w actor (marked_then w moment x))
      → IsDrainedHere stands w actor moment
  stops stands actor held x ready le ended is l = by_brought (brought x ready)
    where
      no : (p q n m : ℕ) → q ≤ p → n ≡ m → p < m → n ≡ q → ⊥
      no p q n m le e lt e' = omega arith

      by_brought : Brought x → IsDrainedHere stands w actor moment
      by_brought (Nothing left none reach) =
          drained_at stands actor (marked_then w moment x) l (stopped_final x ready left reach ended
          ∙ sym (ap (λ o. (marked_at o (given_then w moment x)).checkpoint) none))
      by_brought (Records q at_q next may beyond) =
          absurd (no x.position held.position (marked_then w moment x).position (reach_at w moment x) le
          (position_kept (last_at w moment x) (given_then w moment x)) beyond is.position)

  pub waits_for : (x : Holding) → IsReady w moment x → (read_then w moment x).waiting ≡ read_at w moment x ∷ []
  waits_for x ready = ap (λ rs. rs ++ (read_at w moment x ∷ [])) ready.none_waits

  -- After the mark, the code keeps the tenure's new position `reach` and counter `n`.
  pub held_then : (x : Holding) (held : DrainTenure) (reach n : ℕ) → IsHeld x held → reach ≡ reach_at w moment x
      → n ≡ (marked_then w moment x).counter
      → IsHeld (marked_then w moment x) (record { tenure = held.tenure; position = reach; counter = n })
  held_then x held reach n is same counter = record {
    tenure = tenure_kept (last_at w moment x) (given_then w moment x) ∙ is.tenure;
    position = position_kept (last_at w moment x) (given_then w moment x) ∙ sym same;
    counter = sym counter;
  }
