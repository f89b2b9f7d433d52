-- A row that waits is taken and its shard is opened, so that the new tenure is ready for its first read.
use Rattle.std.proofs.Common.{◌≡◌, ℕ, ◌+◌, ◌-◌, ◌<◌, ◌≤◌, ◌^◌, max, true, false, List, [], ◌∷◌, ◌++◌, length, Some}
use Rattle.std.proofs.Common.{refl, sym, ap, subst, ◌∙◌, arith, inl, inr}
use Rattle.std.specs.Prelude.{◌==◌, min, slice_get, if◌then◌else◌, Result, Ok}
use Rattle.std.specs.Option.{option_map}
use Rattle.std.proofs.lemmas.Bool.Decides.{nat_tests}
use Rattle.std.proofs.lemmas.Option.{same_Some}
use Rattle.kds_base.specs.declared.lease_key.Checkpoint.{Checkpoint}
use Rattle.kds_base.specs.declared.lease_key.Checkpoint.TheVariants.{TrimHorizon, At, ShardEnd}
use Rattle.kds_base.specs.declared.lease_key.ShardRef.{ShardRef}
use Rattle.kds_base.specs.Checkpoints.{is_end as base_is_end}
use Rattle.kds_defs.specs.declared.command.Command.TheVariants as command
use Rattle.kds_defs.specs.declared.command.Turn.{Turn}
use Rattle.kds_defs.specs.declared.reply.Refusal.{Refusal}
use Rattle.kds_defs.specs.declared.reply.Reply.{Reply}
use Rattle.kds_defs.specs.declared.reply.Reply.TheVariants as reply
use Rattle.kds_defs.specs.declared.reply.Row.{Row}
use Rattle.kds_defs.specs.Decision.{Accepted}
use Rattle.kds_defs.specs.Histories.{journal}
use Rattle.kds_defs.specs.Journal.{Journal}
use Rattle.kds_defs.specs.Keys.{same_key}
use Rattle.kds_defs.specs.LeaseCommands.{open_shard}
use Rattle.kds_defs.specs.RowWrites.{least}
use Rattle.kds_defs.specs.Leases.{is_end, start_position, row, taken_count, taken_row}
use Rattle.kds_defs.specs.Records.{Logged, next_number}
use Rattle.kds_defs.specs.Shards.{start_of}
use Rattle.kds_defs.specs.StreamCommands.{last_number}
use Rattle.kcl_defs.specs.Consumers.{first_position}
use Rattle.kcl_drill.specs.Summed.{last_checkpoint}
use Rattle.kcl_laws.specs.Recorded.{HasFrom, RiseBetween}
use Rattle.kcl_drill_summary.specs.Counting.{row_among}
use Rattle.kcl_drill_summary.proofs.BatchLemmas.{IsUp, from, left_all}
use Rattle.kcl_drill_summary.proofs.CountLemmas.{up_rising}
use Rattle.kcl_drill_laws.specs.Holding.{Holding, Holds, IsOpenedSo, IsTakenSo, MayOpen, MayTake, begun_from}
use Rattle.kcl_drill_laws.specs.Holding.{opened_line, taken_line}
use Rattle.kcl_drill_drain.specs.declared.held.DrainTenure.{DrainTenure}
use Rattle.kcl_drill_drain.specs.Draining.{IsDone, IsFresh, IsStart, final_of, left_of, records_of, shard_of}
use Rattle.kcl_drill_drain.specs.Keys.{AreDrainedTo}
use Rattle.kcl_drill_drain.specs.Laws.{HasLaws}
use Rattle.kcl_drill_drain.specs.Leased.{Leads, turn_of}
use Rattle.kcl_drill_drain.specs.Standing.{IsDrainedHere, IsSpot, IsTaken, OthersWait, ReadsOn, Spot, Stands, clock_at}
use Rattle.kcl_drill_drain.proofs.Leading.{Answered, IsOver, led, over, so_too}
use Rattle.kcl_drill_drain.proofs.Settling.{fewer_from, settled_at, settled_horizon}
use Rattle.kcl_drill_drain.proofs.Spots.{apart, key_is, listed, none_yet, one_more, past, whole_is}
use Rattle.kds_defs.specs.Streams.{trim_floor}
use Rattle.kds_defs.specs.Records.{left_among}

-- The law, taken as given, that the take of a row that can be taken (`MayTake`) is accepted.
abbrev pub TakeLaw : Type 0
TakeLaw = (log : Journal) (c actor owner : ℕ) (key : ShardRef) (r : Row) → row log key ≡ Some r → MayTake log r
    → IsTakenSo log c actor owner key r

-- The law, taken as given, that right after a take, the opening of a shard that may be opened is accepted.
abbrev pub OpenLaw : Type 0
OpenLaw = (log : Journal) (c d actor owner : ℕ) (key : ShardRef) (r : Row) → row log key ≡ Some r
    → MayOpen (taken_line log d actor key r owner ∷ log) c key → IsOpenedSo log c d actor owner key r

-- The law, taken as given, that after a take and an opening the new tenure is as `begun_from` says.
abbrev pub BegunLaw : Type 0
BegunLaw = (log : Journal) (c d actor owner : ℕ) (key : ShardRef) (r : Row) → row log key ≡ Some r
    → Holds (opened_line log d actor ∷ taken_line log c actor key r owner ∷ log) (begun_from log actor key r)

pub not_last : (n : ℕ) → n < 2 ^ 64 - 1 → (n == last_number) ≡ false
not_last n below = grind (arith, nat_tests)

-- The two tests of a checkpoint for SHARD_END, of `kds_base` and of the definitions, give the same.
pub end_same : (cp : Checkpoint) → base_is_end cp ≡ is_end cp
end_same TrimHorizon = refl
end_same (At q) = refl
end_same ShardEnd = refl

module _ (w : Spot) (moment : ℕ) (spot : IsSpot w moment) (laws : HasLaws w.history (clock_at w moment)) where
  -- No record is trimmed, so all records from the position on are left.
  pub left_is : (p : ℕ) → left_of (journal w.history) (clock_at w moment) w.key p
      ≡ from p (records_of (journal w.history) w.key)
  left_is p =
      ap (λ b. if b then left_among (trim_floor (journal w.history) (clock_at w moment) w.key.stream) p
      (records_of (journal w.history) w.key) else []) (key_is w moment spot laws).live
      ∙ left_all (trim_floor (journal w.history) (clock_at w moment) w.key.stream) p
      (records_of (journal w.history) w.key)
      ((whole_is w moment spot laws).above w.key.shard)

  pub up : IsUp (start_of (shard_of (journal w.history) w.key)) (records_of (journal w.history) w.key)
  up = up_rising _ _ _ (laws.drawn w.key.stream w.key.shard)

  -- ---- The take of the row

  seen_row : (now : Journal) (r : Row) → AreDrainedTo w.history w.keys w.among w.index now
      → row_among w.among w.key ≡ Some r → (row now w.key ≡ Some r) × IsFresh w.history w.key r
  seen_row now r drained seen =
      let f = drained.waits w.index w.key (omega arith) spot.here in
      let e : f.now ≡ r = same_Some f.now r (sym f.seen ∙ seen) in
      (f.there ∙ ap Some e, subst (IsFresh w.history w.key) e f.fresh)

  -- The Take of a row that waits and isn't at SHARD_END is accepted.
  pub taken : (stands stands' : List Turn → Type 0) (actor counter : ℕ) (key : ShardRef) (r : Row)
      (a : Result Reply Refusal) → TakeLaw → moment < 2 ^ 62 → w.key ≡ key → r.counter ≡ counter
      → row_among w.among w.key ≡ Some r → is_end r.checkpoint ≡ false
      → (l : Leads stands actor moment w.history (AreDrainedTo w.history w.keys w.among w.index))
      → Answered stands stands' (turn_of actor moment (command.Take key counter 1)) a
      → (t n : ℕ) × (a ≡ Ok (reply.Taken t n r.checkpoint))
      × Leads stands' actor moment w.history
      (IsTaken w actor r (record { tenure = t; position = first_position r.checkpoint; counter = n }))
  taken stands stands' actor counter key r a law below same_k same_n seen going l answers =
      let now = journal (l.more ++ w.history) in
      let f = seen_row now r l.so seen in
      let may : MayTake now r = (
        going,
        not_last r.counter (omega (arith, f.1.few, spot.can.few)),
        not_last (taken_count now) (omega (arith, l.so.few, spot.can.few, spot.few)),
      ) in
      let asked = subst (λ n. Answered stands stands' (turn_of actor moment (command.Take key n 1)) a) (sym same_n)
      answers in
      let asked' = subst (λ k. Answered stands stands' (turn_of actor moment (command.Take k r.counter 1)) a)
      (sym same_k)
      asked in
      let held : DrainTenure =
      record { tenure = taken_count now + 1; position = first_position r.checkpoint; counter = r.counter + 1 } in
      let one = led stands stands' actor moment w.history (command.Take w.key r.counter 1) a
      (AreDrainedTo w.history w.keys w.among w.index) (IsTaken w actor r held)
      (Accepted (taken_line now (clock_at w moment) actor w.key r 1 ∷ [])
      (reply.Taken (taken_count now + 1) (r.counter + 1) r.checkpoint)) refl (below, omega arith) asked' l
      (law now (clock_at w moment) actor 1 w.key r f.0 may)
      (record {
        before = now;
        clock = clock_at w moment;
        is = refl;
        there = f.0;
        drained = l.so;
        number = refl;
        counter = refl;
        position = refl;
        fresh = f.1;
      }) in
      (taken_count now + 1, r.counter + 1, one.0, one.1)

  ends_so : (floor : ℕ) (cp : Checkpoint) → is_end cp ≡ true
      → IsStart (shard_of (journal w.history) w.key) (records_of (journal w.history) w.key) floor cp
      → final_of (journal w.history) w.key ≡ cp
  ends_so floor TrimHorizon ends is = absurd cc
  ends_so floor (At q) ends is = absurd cc
  ends_so floor ShardEnd ends is =
      ap (λ b. if b then ShardEnd else last_checkpoint (records_of (journal w.history) w.key)) is

  -- A row that the survey showed at SHARD_END is drained without a turn.
  pub at_end : (stands : List Turn → Type 0) (actor : ℕ) (r : Row) → row_among w.among w.key ≡ Some r
      → is_end r.checkpoint ≡ true → Leads stands actor moment w.history (AreDrainedTo w.history w.keys w.among w.index)
      → IsDrainedHere stands w actor moment
  at_end stands actor r seen ends l =
      so_too stands actor moment w.history (AreDrainedTo w.history w.keys w.among w.index)
      (AreDrainedTo w.history w.keys w.among (w.index + 1)) l (λ drained. one (journal (l.more ++ w.history)) drained)
    where
      one : (now : Journal) → AreDrainedTo w.history w.keys w.among w.index now
          → AreDrainedTo w.history w.keys w.among (w.index + 1) now
      one now drained =
          let f = seen_row now r drained seen in
          one_more w moment spot laws now (none_yet w moment spot laws now drained)
          (ap (option_map (λ (x : Row). x.checkpoint)) f.0
          ∙ ap Some (sym (ends_so r.floor r.checkpoint ends f.1.start)))

  -- ---- The opening of the shard

  stays : (old : Journal) (d actor : ℕ) (r : Row) (key : ShardRef) → same_key w.key key ≡ false
      → row (taken_line old d actor w.key r 1 ∷ old) key ≡ row old key
  stays old d actor r key other =
      ap (λ b. if b then option_map (taken_row (taken_count old + 1) 1) (row old key) else row old key) other

  done_yet : (old : Journal) (d actor : ℕ) (r : Row) → AreDrainedTo w.history w.keys w.among w.index old
      → (j : ℕ) (key : ShardRef) → j < w.index → slice_get w.keys j ≡ Some key
      → IsDone w.history key (row (taken_line old d actor w.key r 1 ∷ old) key)
  done_yet old d actor r drained j key lt is =
      subst (IsDone w.history key) (sym (stays old d actor r key (apart w moment spot laws j key is (inl lt))))
      (drained.done j key lt is)

  waits_yet : (old : Journal) (d actor : ℕ) (r : Row) → AreDrainedTo w.history w.keys w.among w.index old
      → OthersWait w (opened_line old (clock_at w moment) actor ∷ taken_line old d actor w.key r 1 ∷ old)
  waits_yet old d actor r drained = record {
    done = done_yet old d actor r drained;
    waits = λ j key above is.
        let f = drained.waits j key (omega arith) is in
        record {
          now = f.now;
          there = stays old d actor r key (apart w moment spot laws j key is (inr above)) ∙ f.there;
          seen = f.seen;
          fresh = f.fresh;
        };
    few = omega (arith, drained.few);
  }

  below_next : (q p n : ℕ) (xs : List Logged) → RiseBetween p xs n → HasFrom q xs → q < n
  below_next q p n [] is has = absurd has
  below_next q p n (x ∷ xs) is (inl le) = let m = rises (x.seq + 1) n xs is.1 in omega arith
    where
      rises : (p n : ℕ) (xs : List Logged) → RiseBetween p xs n → p ≤ n
      rises p n [] is = is
      rises p n (x ∷ xs) is = let m = rises (x.seq + 1) n xs is.1 in omega (arith, is.0, m)
  below_next q p n (x ∷ xs) is (inr has) = below_next q (x.seq + 1) n xs is.1 has

  -- When a row's drain begins: if no record is left, `cp` is at the last one; what is read next may be marked.
  record Begins (floor : ℕ) (cp : Checkpoint) : Type 0 where
    position : start_position cp ≡ first_position cp
    settled : left_of (journal w.history) (clock_at w moment) w.key (start_position cp) ≡ []
        → cp ≡ last_checkpoint (records_of (journal w.history) w.key)
    low : least cp floor ≤ max (start_position cp) (start_of (shard_of (journal w.history) w.key))

  begins : (floor : ℕ) (cp : Checkpoint) → is_end cp ≡ false
      → IsStart (shard_of (journal w.history) w.key) (records_of (journal w.history) w.key) floor cp → Begins floor cp
  begins floor TrimHorizon going is = record {
    position = refl;
    settled = λ none. settled_horizon _ (records_of (journal w.history) w.key) up (sym (left_is 0) ∙ none);
    low = omega arith;
  }
  begins floor (At q) going is =
      let m = below_next q _ _ (records_of (journal w.history) w.key) (laws.drawn w.key.stream w.key.shard) is in
      record {
        position = small q (next_number (journal w.history) w.key.stream) m (laws.fits w.key.stream);
        settled = λ none. settled_at q _ (records_of (journal w.history) w.key) up is (sym (left_is (q + 1)) ∙ none);
        low = omega arith;
      }
    where
      small : (q n : ℕ) → q < n → n ≤ last_number → q + 1 ≡ min (q + 1) last_number
      small q n lt le = omega arith
  begins floor ShardEnd going is = absurd cc

  -- The opening of the shard just taken is accepted, and the tenure is ready for its first read.
  pub opened : (stands stands' : List Turn → Type 0) (actor : ℕ) (r : Row) (held : DrainTenure)
      (a : Result Reply Refusal)
      → OpenLaw → BegunLaw → moment < 2 ^ 62 → is_end r.checkpoint ≡ false
      → (l : Leads stands actor moment w.history (IsTaken w actor r held))
      → Answered stands stands' (turn_of actor moment (command.OpenShard held.tenure)) a
      → ReadsOn stands' w actor moment held
  opened stands stands' actor r held a law begun below going l answers =
      let now = journal (l.more ++ w.history) in
      let t = l.so in
      let old = t.before in
      let c = clock_at w moment in
      let took = taken_line old t.clock actor w.key r 1 ∷ old in
      let x : Holding = begun_from old actor w.key r in
      let there = subst (IsOver w.history c) t.is
      (over stands actor moment w.history (IsTaken w actor r held) laws l) in
      let may : MayOpen took c w.key = (
        listed w moment spot laws took there,
        past w moment spot laws took there (done_yet old t.clock actor r t.drained),
      ) in
      let opens = law old c t.clock actor 1 w.key r t.there may in
      let decided : open_shard now c actor held.tenure ≡ Accepted (opened_line old c actor ∷ []) reply.Done =
      ap (λ n. open_shard now c actor n) t.number ∙ ap (λ log. open_shard log c actor (taken_count old + 1)) t.is
      ∙ opens in
      let stands_so : Stands w actor x (opened_line old c actor ∷ took) =
      record {
        others = waits_yet old t.clock actor r t.drained;
        holds = begun old t.clock c actor 1 w.key r t.there;
        own = refl;
        of_key = refl;
      } in
      let one = led stands stands' actor moment w.history (command.OpenShard held.tenure) a (IsTaken w actor r held)
      (Stands w actor x) (Accepted (opened_line old c actor ∷ []) reply.Done) refl (below, tt) answers l
      decided (subst (λ log. Stands w actor x (opened_line old c actor ∷ log)) (sym t.is) stands_so) in
      let b = begins r.floor r.checkpoint going t.fresh.start in
      let fewer = fewer_from (start_position r.checkpoint) (records_of (journal w.history) w.key) in
      record {
        now = x;
        leads = one.1;
        ready = record {
          none_waits = refl;
          given = refl;
          going = going;
          settled = b.settled;
          low = b.low;
          budget = within r.counter (length w.history) _ _ (length (records_of (journal w.history) w.key)) t.fresh.few
              (ap length (left_is (start_position r.checkpoint))) fewer;
        };
        is = record { tenure = sym t.number; position = b.position ∙ sym t.position; counter = sym t.counter };
      }
    where
      within : (n h left some all : ℕ) → n ≤ h → left ≡ some → some ≤ all → n + 1 + left ≤ h + 1 + all
      within n h left some all le is le' = omega arith
