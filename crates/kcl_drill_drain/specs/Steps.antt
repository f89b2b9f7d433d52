-- What each step of a drain does on any machine; a step promises nothing if memory runs out.
use Rattle.std.specs.Prelude.{ℕ, ◌≡◌, ◌+◌, ◌==◌, Bool, false, List, [], ◌∷◌, length, Option, Some, None, Result, Ok}
use Rattle.std.specs.Prelude.{IfOk, OnOk}
use Rattle.kds_base.specs.declared.lease_key.ShardRef.{ShardRef}
use Rattle.kds_defs.specs.declared.command.Target.{Target}
use Rattle.kds_defs.specs.declared.command.Turn.{Turn}
use Rattle.kds_defs.specs.declared.reply.Refusal.{Refusal}
use Rattle.kds_defs.specs.declared.reply.Reply.{Reply}
use Rattle.kds_defs.specs.declared.reply.Reply.TheVariants as reply
use Rattle.kds_defs.specs.declared.reply.Row.{Row}
use Rattle.kds_defs.specs.Histories.{journal}
use Rattle.kds_defs.specs.Leases.{ReadDone, is_end, rows}
use Rattle.kds_defs.specs.StreamCommands.{last_number}
use Rattle.kcl_drill_summary.specs.Counting.{row_among}
use Rattle.kcl_drill_laws.specs.Holding.{Holding, MayMark, after_give, after_mark}
use Rattle.kcl_drill_drain.specs.declared.held.DrainTenure.{DrainTenure}
use Rattle.kcl_drill_drain.specs.declared.reading.Fetch.{Fetch}
use Rattle.kcl_drill_drain.specs.Draining.{CanDrain}
use Rattle.kcl_drill_drain.specs.Keys.{AreDrainedTo, AreMade, listed_keys}
use Rattle.kcl_drill_drain.specs.Leased.{Leads}
use Rattle.kcl_drill_drain.specs.Standing.{IsDrainedHere, IsHeld, IsReady, IsSpot, IsTaken, ReadsOn, Spot, Stands}
use Rattle.kcl_drill_drain.specs.Standing.{ended_at, given_then, last_at, marked_then, reach_at, read_then, reply_at}

-- ---- The row of one key

-- The step takes the waiting row of the next key, which isn't at SHARD_END, and `result` has the new tenure.
abbrev pub Takes : {E : Type 0}
    → (stands stands' : List Turn → Type 0) (actor moment : ℕ) (key : ShardRef) (counter : ℕ)
    (result : Result (Option DrainTenure) E) → Type 0
Takes stands stands' actor moment key counter result =
    (w : Spot) (r : Row) → IsSpot w moment → w.key ≡ key → r.counter ≡ counter → row_among w.among w.key ≡ Some r
    → is_end r.checkpoint ≡ false
    → Leads stands actor moment w.history (AreDrainedTo w.history w.keys w.among w.index)
    → IfOk result (λ o. (held : DrainTenure) × (o ≡ Some held)
    × Leads stands' actor moment w.history (IsTaken w actor r held))

-- The step opens the shard of the row that was just taken, so that its tenure is ready for its first read.
abbrev pub Opens : {E : Type 0}
    → (stands stands' : List Turn → Type 0) (actor moment : ℕ) (held : DrainTenure) (result : Result (Unit {0}) E)
    → Type 0
Opens stands stands' actor moment held result =
    (w : Spot) (r : Row) → IsSpot w moment → row_among w.among w.key ≡ Some r → is_end r.checkpoint ≡ false
    → Leads stands actor moment w.history (IsTaken w actor r held) → OnOk result (ReadsOn stands' w actor moment held)

-- The step reads at the position of a tenure that is ready, and `result` has the batch there.
abbrev pub Reads : {E : Type 0}
    → (stands stands' : List Turn → Type 0) (actor moment : ℕ) (held : DrainTenure)
    (result : Result (Result Reply Refusal) E) → Type 0
Reads stands stands' actor moment held result =
    (w : Spot) (x : Holding) → IsSpot w moment → IsReady w moment x → IsHeld x held
    → Leads stands actor moment w.history (Stands w actor x)
    → IfOk result (λ a. (a ≡ Ok (reply_at w moment x))
    × Leads stands' actor moment w.history (Stands w actor (read_then w moment x)))

-- The step gives the only read of the tenure `held` that waits.
abbrev pub Gives : {E : Type 0}
    → (stands stands' : List Turn → Type 0) (actor moment : ℕ) (held : DrainTenure) (result : Result (Unit {0}) E)
    → Type 0
Gives stands stands' actor moment held result =
    (w : Spot) (x : Holding) (r : ReadDone) → x.waiting ≡ r ∷ [] → x.tenure ≡ held.tenure
    → Leads stands actor moment w.history (Stands w actor x)
    → OnOk result (Leads stands' actor moment w.history (Stands w actor (after_give x r [])))

-- The step makes a mark that the tenure may make, and `result` has the row's new counter.
abbrev pub Marks : {E : Type 0}
    → (stands stands' : List Turn → Type 0) (actor moment : ℕ) (held : DrainTenure) (target : Target)
    (result : Result ℕ E) → Type 0
Marks stands stands' actor moment held target result =
    (w : Spot) (x : Holding) → IsSpot w moment → MayMark x target → (x.counter == last_number) ≡ false
    → x.tenure ≡ held.tenure
    → x.counter ≡ held.counter
    → Leads stands actor moment w.history (Stands w actor x)
    → IfOk result (λ n. (n ≡ x.counter + 1)
    × Leads stands' actor moment w.history (Stands w actor (after_mark x target)))

-- The step marks the last record of a batch that was read and given, if any, and `result` has the row's counter.
abbrev pub MarksLast : {E : Type 0}
    → (stands stands' : List Turn → Type 0) (actor moment : ℕ) (held : DrainTenure) (last : Option ℕ)
    (result : Result ℕ E) → Type 0
MarksLast stands stands' actor moment held last result =
    (w : Spot) (x : Holding) → IsSpot w moment → IsReady w moment x → IsHeld x held → last ≡ last_at w moment x
    → Leads stands actor moment w.history (Stands w actor (given_then w moment x))
    → IfOk result (λ n. (n ≡ (marked_then w moment x).counter)
    × Leads stands' actor moment w.history (Stands w actor (marked_then w moment x)))

-- With no tenure left (None) the key's row is drained; otherwise the tenure is ready for its next read.
abbrev pub Advances : (stands : List Turn → Type 0) (w : Spot) (actor moment : ℕ) (held : Option DrainTenure) → Type 0
Advances stands w actor moment None = IsDrainedHere stands w actor moment
Advances stands w actor moment (Some held) = ReadsOn stands w actor moment held

-- After a batch was marked, the step marks SHARD_END if the read at `position` ended the shard.
abbrev pub Settles : {E : Type 0}
    → (stands stands' : List Turn → Type 0) (actor moment position : ℕ) (held : DrainTenure)
    (ended : Bool) (result : Result (Option DrainTenure) E) → Type 0
Settles stands stands' actor moment position held ended result =
    (w : Spot) (x : Holding) → IsSpot w moment → IsReady w moment x → x.position ≡ position
    → ended_at w moment x ≡ ended
    → IsHeld (marked_then w moment x) held
    → Leads stands actor moment w.history (Stands w actor (marked_then w moment x))
    → IfOk result (Advances stands' w actor moment)

-- The step gives the batch that was read, described by `fetch`, and marks its last record.
abbrev pub Delivers : {E : Type 0}
    → (stands stands' : List Turn → Type 0) (actor moment : ℕ) (held : DrainTenure) (fetch : Fetch)
    (result : Result (Option DrainTenure) E) → Type 0
Delivers stands stands' actor moment held fetch result =
    (w : Spot) (x : Holding) → IsSpot w moment → IsReady w moment x → IsHeld x held
    → fetch ≡ record { last = last_at w moment x; reach = reach_at w moment x; ended = ended_at w moment x }
    → Leads stands actor moment w.history (Stands w actor (read_then w moment x))
    → IfOk result (Advances stands' w actor moment)

-- The step of a tenure that is ready reads and gives one more batch and marks its last record.
abbrev pub StepsOn : {E : Type 0}
    → (stands stands' : List Turn → Type 0) (actor moment : ℕ) (held : DrainTenure)
    (result : Result (Option DrainTenure) E) → Type 0
StepsOn stands stands' actor moment held result = (w : Spot) → IsSpot w moment → ReadsOn stands w actor moment held
    → IfOk result (Advances stands' w actor moment)

-- The step of a tenure that is ready reads the shard to its end, so that the row is drained.
abbrev pub ReadsToEnd : {E : Type 0}
    → (stands stands' : List Turn → Type 0) (actor moment : ℕ) (held : DrainTenure) (result
    : Result (Unit {0}) E) → Type 0
ReadsToEnd stands stands' actor moment held result = (w : Spot) → IsSpot w moment → ReadsOn stands w actor moment held
    → OnOk result (IsDrainedHere stands' w actor moment)

-- The step takes the waiting row of the next key, not at SHARD_END, and reads the shard to its end.
abbrev pub DrainsTaken : {E : Type 0}
    → (stands stands' : List Turn → Type 0) (actor moment : ℕ) (key : ShardRef) (counter : ℕ)
    (result : Result (Unit {0}) E) → Type 0
DrainsTaken stands stands' actor moment key counter result =
    (w : Spot) (r : Row) → IsSpot w moment → w.key ≡ key → r.counter ≡ counter → row_among w.among w.key ≡ Some r
    → is_end r.checkpoint ≡ false
    → Leads stands actor moment w.history (AreDrainedTo w.history w.keys w.among w.index)
    → OnOk result (IsDrainedHere stands' w actor moment)

-- The step drains the row of the next key, which the survey showed as `row`.
abbrev pub DrainsRow : {E : Type 0}
    → (stands stands' : List Turn → Type 0) (actor moment : ℕ) (key : ShardRef) (row : Option Row)
    (result : Result (Unit {0}) E) → Type 0
DrainsRow stands stands' actor moment key row result =
    (w : Spot) → IsSpot w moment → w.key ≡ key → row_among w.among w.key ≡ row
    → Leads stands actor moment w.history (AreDrainedTo w.history w.keys w.among w.index)
    → OnOk result (IsDrainedHere stands' w actor moment)

-- ---- The rows of all listed keys

-- If the rows of all listed keys wait, the step drains them all.
abbrev pub DrainsKeys : {E : Type 0}
    → (stands stands' : List Turn → Type 0) (actor moment : ℕ) (keys : List ShardRef) (among
    : List Row) (result : Result (Unit {0}) E) → Type 0
DrainsKeys stands stands' actor moment keys among result =
    (h : List Turn) → CanDrain h moment → keys ≡ listed_keys h moment
    → Leads stands actor moment h (AreDrainedTo h keys among 0)
    → OnOk result (Leads stands' actor moment h (AreDrainedTo h keys among (length keys)))

-- The step makes a row for each listed key without a row in the survey (`among`).
abbrev pub MakesKeys : {E : Type 0}
    → (stands stands' : List Turn → Type 0) (actor moment : ℕ) (keys : List ShardRef) (among
    : List Row) (result : Result (Unit {0}) E) → Type 0
MakesKeys stands stands' actor moment keys among result =
    (h : List Turn) → CanDrain h moment → keys ≡ listed_keys h moment
    → Leads stands actor moment h (AreMade h keys among 0)
    → OnOk result (Leads stands' actor moment h (AreMade h keys among (length keys)))

-- The step makes a row for the next key, unless the survey showed one (`seen`).
abbrev pub MakesRow : {E : Type 0}
    → (stands stands' : List Turn → Type 0) (actor moment : ℕ) (key : ShardRef) (seen : Option Row)
    (result : Result (Unit {0}) E) → Type 0
MakesRow stands stands' actor moment key seen result =
    (w : Spot) → IsSpot w moment → w.key ≡ key → row_among w.among w.key ≡ seen
    → Leads stands actor moment w.history (AreMade w.history w.keys w.among w.index)
    → OnOk result (Leads stands' actor moment w.history (AreMade w.history w.keys w.among (w.index + 1)))

-- The step makes a row for each key in the answer to the survey that has none.
abbrev pub Makes : {E : Type 0}
    → (stands stands' : List Turn → Type 0) (actor moment : ℕ) (survey : Result Reply Refusal)
    (result : Result (Unit {0}) E) → Type 0
Makes stands stands' actor moment survey result =
    (h : List Turn) → CanDrain h moment → survey ≡ Ok (reply.Survey (listed_keys h moment) (rows (journal h)))
    → Leads stands actor moment h (AreMade h (listed_keys h moment) (rows (journal h)) 0)
    → OnOk result (Leads stands' actor moment h
    (AreMade h (listed_keys h moment) (rows (journal h)) (length (listed_keys h moment))))

-- If the rows of all keys in the answer to the survey wait, the step drains them all.
abbrev pub Drains : {E : Type 0}
    → (stands stands' : List Turn → Type 0) (actor moment : ℕ) (survey : Result Reply Refusal)
    (result : Result (Unit {0}) E) → Type 0
Drains stands stands' actor moment survey result =
    (h : List Turn) (among : List Row) → CanDrain h moment → survey ≡ Ok (reply.Survey (listed_keys h moment) among)
    → Leads stands actor moment h (AreDrainedTo h (listed_keys h moment) among 0)
    → OnOk result (Leads stands' actor moment h
    (AreDrainedTo h (listed_keys h moment) among (length (listed_keys h moment))))
