-- The items of a PutRecords request: their shards, which are throttled, and the records that the others become.
use Rattle.std.specs.Prelude.{ℕ, zero, suc, ◌≡◌, ◌+◌, ◌^◌, ◌<◌, ◌≤◌, Bool, true, false, ◌==◌, ◌&&◌, if◌then◌else◌, List}
use Rattle.std.specs.Prelude.{[], ◌∷◌, ◌++◌, length, map}
use Rattle.std.specs.List.{AllByRecursion, count_by, filter}
use Rattle.kds_defs.specs.declared.command.NewItem.{NewItem}
use Rattle.kds_defs.specs.declared.reply.Outcome.{Outcome}
use Rattle.kds_defs.specs.declared.reply.Outcome.TheVariants as outcome
use Rattle.kds_defs.specs.declared.reply.Place.{Place}
use Rattle.kds_defs.specs.Lawful.{item_bytes}
use Rattle.kds_defs.specs.Rates.{SizedPut, is_throttled}
use Rattle.kds_defs.specs.Records.{logged}
use Rattle.kds_defs.specs.Shards.{ShardState, home_among, is_open}
use Rattle.kds_log.specs.Log.{LogValue, LogWithReserve, log_of}
use Rattle.kds_rate.specs.Windows.{WindowValue}
use Rattle.kds_stream_logs.specs.declared.routes.Routed.{Routed}
use Rattle.kds_stream_logs.specs.declared.routes.Routes.{Routes}
use Rattle.kds_stream_logs.specs.Rating.{StandFor, with_put}
use Rattle.kds_stream_logs.specs.Logs.{HasArrived, IsBelow, settled_at, with_appended}

-- The record that `item` becomes in shard `sh`, with the sequence number `n`.
abbrev pub stored_item : (sh clock n : ℕ) (item : NewItem) → Routed
stored_item sh clock n item =
    record { shard = sh; item = record { seq = n; arrival = clock; key = item.key; payload = item.payload } }

-- The record that `item` becomes in its home, the open shard whose range contains its hash key.
abbrev pub routed_item : (xs : List ShardState) (clock n : ℕ) (item : NewItem) → Routed
routed_item xs clock n item = stored_item (home_among (filter is_open xs) item.hash) clock n item

-- The records that the items become in their homes, with the sequence numbers from `n` on.
abbrev pub routed_items : (xs : List ShardState) (clock n : ℕ) (items : List NewItem) → List Routed
routed_items xs clock n [] = []
routed_items xs clock n (item ∷ items) = routed_item xs clock n item ∷ routed_items xs clock (n + 1) items

-- ---- What the throughput limits hold back

-- Whether limits are on and the item's home has no room for it in this second, after the puts `f`.
abbrev pub is_throttled_item : (xs : List ShardState) (clock : ℕ) (is_on : Bool) (f : ℕ → List SizedPut)
    (item : NewItem)
    → Bool
is_throttled_item xs clock is_on f item =
    is_on && is_throttled (f (home_among (filter is_open xs) item.hash)) clock (item_bytes item)

-- The puts of each shard after an item; a throttled one adds none.
abbrev pub after_item : (xs : List ShardState) (clock : ℕ) (f : ℕ → List SizedPut) (item : NewItem)
    (is_throttled : Bool)
    → (sh : ℕ) → List SizedPut
after_item xs clock f item true = f
after_item xs clock f item false =
    with_put (home_among (filter is_open xs) item.hash) (record { clock = clock; bytes = item_bytes item }) f

-- The puts of each shard after the items; throttled ones add none.
abbrev pub after_items : (xs : List ShardState) (clock : ℕ) (is_on : Bool) (f : ℕ → List SizedPut)
    (items : List NewItem)
    → (sh : ℕ) → List SizedPut
after_items xs clock is_on f [] = f
after_items xs clock is_on f (item ∷ items) =
    after_items xs clock is_on (after_item xs clock f item (is_throttled_item xs clock is_on f item)) items

-- The items that aren't throttled, each judged by the puts of the items before it.
abbrev pub taken : (xs : List ShardState) (clock : ℕ) (is_on : Bool) (f : ℕ → List SizedPut) (items : List NewItem) →
    List NewItem
taken xs clock is_on f [] = []
taken xs clock is_on f (item ∷ items) =
    let rest : List NewItem =
    taken xs clock is_on (after_item xs clock f item (is_throttled_item xs clock is_on f item)) items in
    if is_throttled_item xs clock is_on f item then rest else item ∷ rest

-- The next sequence number after an item; a throttled one draws none.
abbrev pub after_number : (n : ℕ) (is_throttled : Bool) → ℕ
after_number n true = n
after_number n false = n + 1

-- Throttled in its home if `is_throttled`, otherwise Stored there with the number `n`.
abbrev pub outcome_of : (xs : List ShardState) (n : ℕ) (item : NewItem) (is_throttled : Bool) → Outcome
outcome_of xs n item true = outcome.Throttled (home_among (filter is_open xs) item.hash)
outcome_of xs n item false = outcome.Stored (record { shard = home_among (filter is_open xs) item.hash; seq = n })

-- The outcomes of the items, in order, after the puts `f` and from the sequence number `n` on.
abbrev pub outcomes : (xs : List ShardState) (clock : ℕ) (is_on : Bool) (f : ℕ → List SizedPut) (n : ℕ)
    (items : List NewItem) → List Outcome
outcomes xs clock is_on f n [] = []
outcomes xs clock is_on f n (item ∷ items) =
    let held : Bool = is_throttled_item xs clock is_on f item in
    outcome_of xs n item held ∷ outcomes xs clock is_on (after_item xs clock f item held) (after_number n held) items

-- The shard and the sequence number of a record.
abbrev pub place_of : (r : Routed) → Place
place_of r = record { shard = r.shard; seq = r.item.seq }

-- The record goes to one of the shards 0 to `count - 1`.
abbrev pub IsWithin : (count : ℕ) (r : Routed) → Type 0
IsWithin count r = r.shard < count

-- The logs after the records are appended in order, each to the log of its shard.
abbrev pub with_each : (rs : List Routed) (ls : List LogValue) → List LogValue
with_each [] ls = ls
with_each (r ∷ rs) ls = with_each rs (with_appended r.shard (logged r.item) ls)

-- The logs after trimmed records are removed from the shards of the given places.
abbrev pub settled_each : (floor : ℕ) (ps : List Place) (ls : List LogValue) → List LogValue
settled_each floor [] ls = ls
settled_each floor (p ∷ ps) ls = settled_each floor ps (settled_at floor p.shard ls)

-- For how many records the log at the index `n` has memory reserved, or 0 without such a log.
abbrev pub reserved_at : (ls : List LogWithReserve) (n : ℕ) → ℕ
reserved_at [] n = 0
reserved_at (l ∷ ls) zero = l.reserved
reserved_at (l ∷ ls) (suc n) = reserved_at ls n

-- The record `a` has a lower sequence number than `b`, and arrived no later.
abbrev pub IsSooner : (a b : Routed) → Type 0
IsSooner a b = (a.item.seq < b.item.seq) × (a.item.arrival ≤ b.item.arrival)

-- Each record has a lower sequence number than those after it, and arrived no later.
abbrev pub AreRoutedInOrder : (rs : List Routed) → Type 0
AreRoutedInOrder [] = Unit {0}
AreRoutedInOrder (r ∷ rs) = AllByRecursion (IsSooner r) rs × AreRoutedInOrder rs

-- The record's shard has a log, and it follows all records in the logs by number and time.
pub record CanTake (ls : List LogValue) (r : Routed) : Type 0 where
  pub within : r.shard < length ls
  pub number : AllByRecursion (IsBelow r.item.seq) ls
  pub arrival : AllByRecursion (HasArrived r.item.arrival) ls

-- Whether the record goes to shard `sh`.
abbrev pub is_routed_to : (sh : ℕ) (r : Routed) → Bool
is_routed_to sh r = r.shard == sh

-- Whether the place is in shard `sh`.
abbrev pub is_place_of : (sh : ℕ) (p : Place) → Bool
is_place_of sh p = p.shard == sh

-- All records may be appended: they are in order, and each log has memory reserved for those that it takes.
pub record CanTakeAll (ls : List LogWithReserve) (rs : List Routed) : Type 0 where
  pub each : AllByRecursion (CanTake (map log_of ls)) rs
  pub reserved : (sh : ℕ) → count_by (is_routed_to sh) rs ≤ reserved_at ls sh
  pub in_order : AreRoutedInOrder rs

-- ---- What routing makes of items

-- `new` and `ws` come from routing one item; if it is held back, only its outcome is added.
pub record IsRouted (xs : List ShardState) (clock : ℕ) (is_on : Bool) (f : ℕ → List SizedPut) (item : NewItem)
    (old new : Routes)
    (ws : List WindowValue) : Type 0 where
  pub stand : StandFor (after_item xs clock f item (is_throttled_item xs clock is_on f item)) 0 ws
  pub routed : new.routed.items ≡ (if is_throttled_item xs clock is_on f item then old.routed.items
      else old.routed.items ++ routed_item xs clock old.next item ∷ [])
  pub outcomes_are : new.outcomes ≡ old.outcomes
      ++ outcome_of xs old.next item (is_throttled_item xs clock is_on f item)
      ∷ []
  pub next_is : new.next ≡ after_number old.next (is_throttled_item xs clock is_on f item)

-- The routes and windows come from routing the items after the earlier puts, with numbers from `n` on.
pub record AreRouted (xs : List ShardState) (clock : ℕ) (is_on : Bool) (f : ℕ → List SizedPut) (n : ℕ)
    (items : List NewItem) (r : Routes)
    (ws : List WindowValue) : Type 0 where
  pub stand : StandFor (after_items xs clock is_on f items) 0 ws
  pub routed : r.routed.items ≡ routed_items xs clock n (taken xs clock is_on f items)
  pub outcomes_are : r.outcomes ≡ outcomes xs clock is_on f n items
  pub next_is : r.next ≡ n + length (taken xs clock is_on f items)

-- Routing `items` from the routes `r` on leads to what routing `all` from `n` and `f` on gives.
pub record GoesOn (xs : List ShardState) (clock : ℕ) (is_on : Bool) (f : ℕ → List SizedPut) (n : ℕ)
    (all items : List NewItem) (r : Routes)
    (ws : List WindowValue) : Type 0 where
  pub present : ℕ → List SizedPut
  pub stand : StandFor present 0 ws
  pub after : (sh : ℕ) → after_items xs clock is_on present items sh ≡ after_items xs clock is_on f all sh
  pub routed : r.routed.items ++ routed_items xs clock r.next (taken xs clock is_on present items)
      ≡ routed_items xs clock n (taken xs clock is_on f all)
  pub outcomes_are : r.outcomes ++ outcomes xs clock is_on present r.next items ≡ outcomes xs clock is_on f n all
  pub next_is : r.next + length (taken xs clock is_on present items) ≡ n + length (taken xs clock is_on f all)

-- The routes hold the records of some items, numbered from `first` to just below `next`, and their places.
pub record AreOfRecords (xs : List ShardState) (clock first : ℕ) (r : Routes) : Type 0 where
  pub items : List NewItem
  pub are : r.routed.items ≡ routed_items xs clock first items
  pub next_is : r.next ≡ first + length items
  pub fits : r.next < 2 ^ 64
  pub within : AllByRecursion (IsWithin (length xs)) r.routed.items
  pub places_are : r.places ≡ map place_of r.routed.items
