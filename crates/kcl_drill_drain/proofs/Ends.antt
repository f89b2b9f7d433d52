-- If the rows of all listed keys are drained, each listed shard of each stream is drained (`AreDrained`).
use Rattle.std.proofs.Common.{◌≡◌, ℕ, zero, suc, max, Bool, true, false, List, [], ◌∷◌, ◌++◌, length, Some, refl, sym}
use Rattle.std.proofs.Common.{ap, subst, ◌∙◌, arith}
use Rattle.std.specs.Prelude.{is_none, not, slice_get, if◌then◌else◌}
use Rattle.std.specs.List.{AllByRecursion}
use Rattle.std.proofs.lemmas.Option.{slice_get_within}
use Rattle.kds_base.specs.declared.lease_key.Checkpoint.{Checkpoint}
use Rattle.kds_base.specs.declared.lease_key.Checkpoint.TheVariants.{ShardEnd}
use Rattle.kds_defs.specs.declared.command.Turn.{Turn}
use Rattle.kds_defs.specs.declared.reply.Row.{Row}
use Rattle.kds_defs.specs.Histories.{clock, journal}
use Rattle.kds_defs.specs.Journal.{Journal}
use Rattle.kds_defs.specs.Keys.{ref}
use Rattle.kds_defs.specs.Listings.{is_closed_at}
use Rattle.kds_defs.specs.Records.{records}
use Rattle.kds_defs.specs.Shards.{ShardState, listed_among, listed_shards, shard_at, shards}
use Rattle.kds_defs.specs.Streams.{is_live, trim_floor}
use Rattle.kcl_drill.specs.Summed.{AreDrained, IsDrained, final_checkpoint, last_checkpoint}
use Rattle.kcl_drill_drain.specs.Draining.{CanDrain}
use Rattle.kcl_drill_drain.specs.Keys.{AreDrainedTo, listed_keys}
use Rattle.kcl_drill_drain.specs.Laws.{HasLaws}
use Rattle.kcl_drill_drain.specs.Leased.{HasDrained, Leads}
use Rattle.kcl_drill_drain.proofs.KeyLemmas.{listed_whole}
use Rattle.kcl_drill_drain.proofs.Leading.{IsOver, over}
use Rattle.kcl_drill_drain.proofs.Overs.{same_listed}
use Rattle.kcl_drill_drain.proofs.Spots.{key_there, number_at}

all_of : {A : Type 0} (P : A → Type 0) (xs : List A) → ((i : ℕ) (x : A) → slice_get xs i ≡ Some x → P x)
    → AllByRecursion P xs
all_of P [] each = tt
all_of P (x ∷ xs) each = (each zero x refl, all_of P xs (λ i y is. each (suc i) y is))

flipped : (b : Bool) (E L : Checkpoint) → (if not b then E else L) ≡ (if b then L else E)
flipped true E L = refl
flipped false E L = refl

-- Turns on leases after `h` led to the journal `log`, in which the rows of all listed keys are drained.
module _ (h : List Turn) (moment : ℕ) (among : List Row) (can : CanDrain h moment)
    (laws : HasLaws h (max (clock h) moment))
    (log : Journal) (is : IsOver h (max (clock h) moment) log)
    (done : AreDrainedTo h (listed_keys h moment) among (length (listed_keys h moment)) log) where
  drained_at : (s i : ℕ) (x : ShardState) → is_live (journal h) s ≡ true → slice_get (shards (journal h) s) i ≡ Some x
      → IsDrained log s x
  drained_at s i x live there =
      let e = number_at 0 i (shards (journal h) s) x (laws.numbered s) there in
      let no : i ≡ x.no = omega arith in
      let here : shard_at (journal h) s x.no ≡ Some x = ap (slice_get (shards (journal h) s)) (sym no) ∙ there in
      let k = key_there h moment s x.no x can.whole laws live here in
      let d = done.done k.0 (ref s x.no) (slice_get_within (listed_keys h moment) k.0 (ref s x.no) k.1) k.1 in
      d
      ∙ ap (λ o. Some (if is_closed_at o then ShardEnd else last_checkpoint (records (journal h) s x.no))) here
      ∙ ap Some (flipped (is_none x.closing) ShardEnd (last_checkpoint (records (journal h) s x.no)))
      ∙ ap (λ rs. Some (final_checkpoint x rs)) (sym (is.streams.records s x.no))

  drained_by : (s : ℕ) (b : Bool) → is_live (journal h) s ≡ b
      → AllByRecursion (IsDrained log s) (listed_shards (journal h) (max (clock h) moment) s)
  drained_by s true live =
      subst (AllByRecursion (IsDrained log s))
      (sym (listed_whole (journal h) (max (clock h) moment) s live (can.whole s live)))
      (all_of (IsDrained log s) (shards (journal h) s) (λ i x there. drained_at s i x live there))
  drained_by s false gone =
      subst (AllByRecursion (IsDrained log s))
      (sym (ap (λ b. if b then listed_among (trim_floor (journal h) (max (clock h) moment) s)
      (shards (journal h) s) else []) gone)) tt

  all_drained : AreDrained log (max (clock h) moment)
  all_drained s = subst (AllByRecursion (IsDrained log s)) (sym (same_listed h (max (clock h) moment) log is s))
      (drained_by s (is_live (journal h) s) refl)

pub has_drained : (stands : List Turn → Type 0) (actor moment : ℕ) (h : List Turn) (among : List Row)
    → CanDrain h moment
    → HasLaws h (max (clock h) moment)
    → Leads stands actor moment h (AreDrainedTo h (listed_keys h moment) among (length (listed_keys h moment)))
    → HasDrained stands actor moment h
has_drained stands actor moment h among can laws l = record {
  more = l.more;
  stands_now = l.stands_now;
  are = l.are;
  drained = subst (AreDrained (journal (l.more ++ h))) (sym l.late)
      (all_drained h moment among can laws (journal (l.more ++ h))
      (over stands actor moment h (AreDrainedTo h (listed_keys h moment) among (length (listed_keys h moment))) laws l)
      l.so);
}
