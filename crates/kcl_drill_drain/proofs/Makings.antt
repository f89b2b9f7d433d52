-- The first part of a drain: each listed key without a row gets one.
use Rattle.std.proofs.Common.{◌≡◌, ℕ, ◌+◌, ◌<◌, ◌^◌, Bool, true, false, List, [], ◌∷◌, ◌++◌, length, Option}
use Rattle.std.proofs.Common.{Some, None, refl, sym, ap, subst, ◌∙◌, arith, inl, inr}
use Rattle.std.specs.Prelude.{◌⊎◌, is_some, not, slice_get, if◌then◌else◌, Result}
use Rattle.std.proofs.lemmas.Option.{slice_get_within}
use Rattle.kds_base.specs.declared.lease_key.ShardRef.{ShardRef}
use Rattle.kds_defs.specs.declared.command.Command.TheVariants as command
use Rattle.kds_defs.specs.declared.command.Origin.TheVariants as origin
use Rattle.kds_defs.specs.declared.command.Turn.{Turn}
use Rattle.kds_defs.specs.declared.entry.Entry.TheVariants as entry
use Rattle.kds_defs.specs.declared.reply.Refusal.{Refusal}
use Rattle.kds_defs.specs.declared.reply.Refusal.TheVariants as refusal
use Rattle.kds_defs.specs.declared.reply.Reply.{Reply}
use Rattle.kds_defs.specs.declared.reply.Reply.TheVariants as reply
use Rattle.kds_defs.specs.declared.reply.Row.{Row}
use Rattle.kds_defs.specs.Decision.{Accepted, Refused}
use Rattle.kds_defs.specs.Histories.{journal}
use Rattle.kds_defs.specs.Journal.{Journal, Line, plain_line}
use Rattle.kds_defs.specs.Keys.{is_listed_key, same_key}
use Rattle.kds_defs.specs.LeaseCommands.{counting_origin, make_lease}
use Rattle.kds_defs.specs.Leases.{made_row, row, rows}
use Rattle.kds_defs.specs.Shards.{start_of}
use Rattle.kds_defs.proofs.Decisions.{passed_if, refused_if}
use Rattle.kds_defs.proofs.Keys.{key_itself}
use Rattle.kcl_drill_summary.proofs.RowLookups.{row_found}
use Rattle.kcl_drill_laws.proofs.Origins.{counts_so}
use Rattle.kcl_drill_drain.specs.Draining.{IsFresh}
use Rattle.kcl_drill_drain.specs.Keys.{AreDrainedTo, AreMade, HasRow}
use Rattle.kcl_drill_drain.specs.Laws.{HasLaws}
use Rattle.kcl_drill_drain.specs.Leased.{Leads, turn_of}
use Rattle.kcl_drill_drain.specs.Standing.{IsSpot, Spot, clock_at}
use Rattle.kcl_drill_drain.proofs.Leading.{Answered, IsOver, led, over}
use Rattle.kcl_drill_drain.proofs.Overs.{same_shard}
use Rattle.kcl_drill_drain.proofs.Spots.{listed, same_here, up_to}

-- ---- Before and after the making of rows

-- No row was made yet, and the survey shows all rows.
pub made_first : (h : List Turn) (keys : List ShardRef) (c : ℕ) → HasLaws h c
    → AreMade h keys (rows (journal h)) 0 (journal h)
made_first h keys c laws = record {
  fresh = laws.fresh;
  kept = λ key r is. (r, sym (row_found (journal h) key) ∙ is);
  made = λ j key below is. absurd (omega arith);
  few = laws.tenures;
}

-- Once all listed keys have rows, each row waits to be drained, as a new survey shows it.
pub all_wait : (h : List Turn) (keys : List ShardRef) (among : List Row) (log : Journal)
    → AreMade h keys among (length keys) log → AreDrainedTo h keys (rows log) 0 log
all_wait h keys among log made = record {
  done = λ j key below is. absurd (omega arith);
  waits = λ j key above is.
      let f = made.made j key (slice_get_within keys j key is) is in
      record { now = f.0; there = f.1; seen = row_found log key ∙ f.1; fresh = made.fresh key f.0 f.1 };
  few = omega (arith, made.few);
}

-- ---- The row of one key

module _ (w : Spot) (moment : ℕ) (spot : IsSpot w moment) (laws : HasLaws w.history (clock_at w moment)) where
  origin_is : (log : Journal) (key : ShardRef) → counting_origin log key origin.TrimHorizon ≡ origin.TrimHorizon
  origin_is log key = counts_so log key origin.TrimHorizon refl

  made_by : (log : Journal) → ((j : ℕ) (key : ShardRef) → j < w.index → slice_get w.keys j ≡ Some key → HasRow log key)
      → HasRow log w.key → (j : ℕ) (key : ShardRef) → slice_get w.keys j ≡ Some key → (j < w.index) ⊎ (j ≡ w.index)
      → HasRow log key
  made_by log is_before here j key is (inl below) = is_before j key below is
  made_by log is_before here j key is (inr same) =
      subst (HasRow log) (sym (same_here w moment spot laws j key same is)) here

  pub one_made : (log : Journal) → AreMade w.history w.keys w.among w.index log → HasRow log w.key
      → AreMade w.history w.keys w.among (w.index + 1) log
  one_made log made here = record {
    fresh = made.fresh;
    kept = made.kept;
    made = λ j key below is. made_by log made.made here j key is (up_to j w.index below);
    few = made.few;
  }

  has_row : (b : Bool) (x : Row) (o : Option Row) → (r : Row) → o ≡ Some r
      → (s : Row) × ((if b then Some x else o) ≡ Some s)
  has_row true x o r is = (x, refl)
  has_row false x o r is = (r, is)

  fresh_by : (b : Bool) (x : Row) (key : ShardRef) (o : Option Row) → IsFresh w.history key x
      → ((r : Row) → o ≡ Some r → IsFresh w.history key r) → (r : Row) → (if b then Some x else o) ≡ Some r
      → IsFresh w.history key r
  fresh_by true x key o new old r is = let e : x ≡ r = cc in subst (IsFresh w.history key) e new
  fresh_by false x key o new old r is = old r is

  new_line : ℕ → ℕ → Line
  new_line c actor = plain_line c actor (entry.LeaseMade w.key origin.TrimHorizon)

  with_new : (log : Journal) (actor : ℕ) → IsOver w.history (clock_at w moment) log
      → AreMade w.history w.keys w.among w.index log
      → AreMade w.history w.keys w.among w.index (new_line (clock_at w moment) actor ∷ log)
  unfolding new_line
  with_new log actor is made = record {
    fresh = λ key r there. fresh_by (same_key w.key key) (made_row log (clock_at w moment) key origin.TrimHorizon) key
        (row log key)
        (record {
          few = omega arith;
          start = ap start_of (same_shard w.history (clock_at w moment) log is key.stream key.shard);
        })
        (made.fresh key) r there;
    kept = λ key r seen. let f = made.kept key r seen in
        has_row (same_key w.key key) (made_row log (clock_at w moment) key origin.TrimHorizon) (row log key) f.0 f.1;
    made = λ j key below at_j. let f = made.made j key below at_j in
        has_row (same_key w.key key) (made_row log (clock_at w moment) key origin.TrimHorizon) (row log key) f.0 f.1;
    few = made.few;
  }

  new_row_there : (log : Journal) (actor : ℕ) → HasRow (new_line (clock_at w moment) actor ∷ log) w.key
  unfolding new_line
  new_row_there log actor =
      let new = made_row log (clock_at w moment) w.key origin.TrimHorizon in
      (new, ap (λ b. if b then Some new else row log w.key) (key_itself w.key))

  made_led : (stands stands' : List Turn → Type 0) (actor : ℕ) (a : Result Reply Refusal) (o : Option Row)
      → moment < 2 ^ 62
      → (l : Leads stands actor moment w.history (AreMade w.history w.keys w.among w.index))
      → row (journal (l.more ++ w.history)) w.key ≡ o
      → Answered stands stands' (turn_of actor moment (command.MakeLease w.key origin.TrimHorizon)) a
      → Leads stands' actor moment w.history (AreMade w.history w.keys w.among (w.index + 1))
  unfolding new_line
  made_led stands stands' actor a None below l is answers =
      let now = journal (l.more ++ w.history) in
      let c = clock_at w moment in
      let there = over stands actor moment w.history (AreMade w.history w.keys w.among w.index) laws l in
      let decided : make_lease now c actor w.key origin.TrimHorizon
      ≡ Accepted (new_line c actor ∷ []) (reply.Leased origin.TrimHorizon) =
      passed_if refusal.ShardGone (not (is_listed_key now c w.key)) _ (ap not (listed w moment spot laws now there))
      ∙ passed_if refusal.LeaseThere (is_some (row now w.key)) _ (ap is_some is)
      ∙ ap (λ o. Accepted (plain_line c actor (entry.LeaseMade w.key o) ∷ []) (reply.Leased o)) (origin_is now w.key) in
      (led stands stands' actor moment w.history (command.MakeLease w.key origin.TrimHorizon) a
      (AreMade w.history w.keys w.among w.index) (AreMade w.history w.keys w.among (w.index + 1))
      (Accepted (new_line c actor ∷ []) (reply.Leased origin.TrimHorizon)) refl (below, tt) answers l decided
      (one_made (new_line c actor ∷ now) (with_new now actor there l.so) (new_row_there now actor))).1
  made_led stands stands' actor a (Some r) below l is answers =
      let now = journal (l.more ++ w.history) in
      let c = clock_at w moment in
      let there = over stands actor moment w.history (AreMade w.history w.keys w.among w.index) laws l in
      let decided : make_lease now c actor w.key origin.TrimHorizon ≡ Refused refusal.LeaseThere =
      passed_if refusal.ShardGone (not (is_listed_key now c w.key)) _ (ap not (listed w moment spot laws now there))
      ∙ refused_if refusal.LeaseThere (is_some (row now w.key)) _ (ap is_some is) in
      (led stands stands' actor moment w.history (command.MakeLease w.key origin.TrimHorizon) a
      (AreMade w.history w.keys w.among w.index) (AreMade w.history w.keys w.among (w.index + 1))
      (Refused refusal.LeaseThere) refl (below, tt) answers l decided
      (one_made now l.so (r, is))).1

  -- The command MakeLease makes a row for the key, whether or not it had one before.
  pub makes : (stands stands' : List Turn → Type 0) (actor : ℕ) (key : ShardRef) (a : Result Reply Refusal)
      → moment < 2 ^ 62
      → w.key ≡ key
      → (l : Leads stands actor moment w.history (AreMade w.history w.keys w.among w.index))
      → Answered stands stands' (turn_of actor moment (command.MakeLease key origin.TrimHorizon)) a
      → Leads stands' actor moment w.history (AreMade w.history w.keys w.among (w.index + 1))
  makes stands stands' actor key a below same l answers =
      made_led stands stands' actor a (row (journal (l.more ++ w.history)) w.key) below l refl
      (subst (λ k. Answered stands stands' (turn_of actor moment (command.MakeLease k origin.TrimHorizon)) a) (sym same)
      answers)
