-- A worker's plans: rows to make and remove, leases to take and renew (KCL: lease synchronizer, taker, renewer).
use Rattle.std.specs.Prelude.{ℕ, ◌+◌, ◌-◌, ◌/◌, ◌≡◌, Bool, true, false, ◌==◌, ◌&&◌, ◌||◌, not, nat_le, nat_lt}
use Rattle.std.specs.Prelude.{if◌then◌else◌, List, [], ◌∷◌, ◌++◌, length, map, take, Option, Some, None, is_none}
use Rattle.std.specs.List.{cons_option, count_by, filter, find, list_any}
use Rattle.std.specs.Option.{option_map}
use Rattle.kds_base.specs.declared.lease_key.ShardRef.{ShardRef}
use Rattle.kds_defs.specs.declared.command.Origin.{Origin}
use Rattle.kcl_defs.specs.declared.plans.Held.{Held}
use Rattle.kcl_defs.specs.declared.plans.Seen.{Seen}
use Rattle.kcl_defs.specs.declared.plans.SyncStep.{SyncStep}
use Rattle.kcl_defs.specs.declared.plans.SyncStep.TheVariants.{Make, Cut}
use Rattle.kcl_defs.specs.declared.plans.TakeStep.{TakeStep}
use Rattle.kds_defs.specs.declared.reply.Row.{Row}
use Rattle.kds_defs.specs.Keys.{is_before, same_key}
use Rattle.kds_defs.specs.Leases.{is_end}

-- ---- Rows and shards in the order of their keys

-- The key comes before the first of `keys`, or there is none.
abbrev pub IsBeforeFirst : (key : ShardRef) (keys : List ShardRef) → Type 0
IsBeforeFirst key [] = Unit {0}
IsBeforeFirst key (k ∷ keys) = is_before key k ≡ true

-- Each key comes before the next one: keys are ordered by stream, and then by shard.
abbrev pub AreRising : (keys : List ShardRef) → Type 0
AreRising [] = Unit {0}
AreRising (key ∷ keys) = IsBeforeFirst key keys × AreRising keys

abbrev pub keys_of : (rows : List Row) → List ShardRef
keys_of rows = map (λ r. r.key) rows

-- The first row of the key, if there is one.
abbrev pub row_of : (rows : List Row) (key : ShardRef) → Option Row
row_of [] key = None
row_of (r ∷ rows) key = if same_key r.key key then Some r else row_of rows key

-- Whether one of the rows has the key.
abbrev pub has_row : (rows : List Row) (key : ShardRef) → Bool
has_row rows key = list_any (λ r. same_key r.key key) rows

abbrev pub has_key : (keys : List ShardRef) (key : ShardRef) → Bool
has_key keys key = list_any (λ k. same_key k key) keys

-- ---- The sync plan

-- The steps that make a row for each shard without one.
abbrev pub makes : (origin : Origin) (rows : List Row) (shards : List ShardRef) → List SyncStep
makes origin rows [] = []
makes origin rows (key ∷ shards) =
    if has_row rows key then makes origin rows shards else Make key origin ∷ makes origin rows shards

-- The steps that remove each row whose shard isn't among `shards`.
abbrev pub cuts : (shards : List ShardRef) (rows : List Row) → List SyncStep
cuts shards [] = []
cuts shards (r ∷ rows) = if has_key shards r.key then cuts shards rows else Cut r.key r.counter ∷ cuts shards rows

-- The plan to make rows for listed shards without one, then cut rows of unlisted ones (KCL, lease synchronizer).
abbrev pub sync_plan : (shards : List ShardRef) (rows : List Row) (origin : Origin) → List SyncStep
sync_plan shards rows origin = makes origin rows shards ++ cuts shards rows

-- ---- Renewals

-- Whether a third of the failover time, rounded down, has passed since the row's last write.
abbrev pub is_due : (held : Held) (now failover : ℕ) → Bool
is_due held now failover = nat_le held.since now && nat_le (failover / 3) (now - held.since)

-- The lease after a renewal, with its new counter and moment (KCL, lease renewer).
abbrev pub renewed_held : (counter now : ℕ) (h : Held) → Held
renewed_held counter now h = record h { counter = counter; since = now }

-- ---- What was observed

-- What is kept of a key: a counter of its row, and the moment at which this counter was first seen.
abbrev pub seen_at : (seen : List Seen) (key : ShardRef) → Option Seen
seen_at [] key = None
seen_at (s ∷ seen) key = if same_key s.key key then Some s else seen_at seen key

-- What is kept of a row seen at `now`: its counter, since `now` unless the same counter was kept before.
abbrev pub with_sight : (r : Row) (now : ℕ) (s : Option Seen) → Option Seen
with_sight r now None = Some (record { key = r.key; counter = r.counter; since = now })
with_sight r now (Some s) =
    if s.counter == r.counter then Some s else Some (record { key = r.key; counter = r.counter; since = now })

-- What is kept of a key after the row `r` was seen at `now`.
abbrev pub after_row : (r : Row) (now : ℕ) (seen : ShardRef → Option Seen) (key : ShardRef) → Option Seen
after_row r now seen key = if same_key r.key key then with_sight r now (seen key) else seen key

-- What is kept of a key, a counter and when it was first seen, after these rows were seen at `now`.
abbrev pub after_rows : (rows : List Row) (now : ℕ) (seen : ShardRef → Option Seen) (shard_ref : ShardRef) → Option
    Seen
after_rows [] now seen = seen
after_rows (r ∷ rows) now seen = after_rows rows now (after_row r now seen)

-- Whether the row's counter was first seen more than the failover time ago; not if none is kept.
abbrev pub is_expired_since : (s : Option Seen) (r : Row) (now failover : ℕ) → Bool
is_expired_since None r now failover = false
is_expired_since (Some s) r now failover = (s.counter == r.counter) && nat_lt failover (now - s.since)

-- Whether the row is expired at `now`, given what is kept of each key.
abbrev pub expiry : (seen : ShardRef → Option Seen) (now failover : ℕ) (r : Row) → Bool
expiry seen now failover r = is_expired_since (seen r.key) r now failover

-- ---- The take plan: `expired` tells which rows are expired, and `held` are the leases that the worker `me` has

-- The row, without its owner if it is expired.
abbrev pub candidate : (expired : Row → Bool) (r : Row) → Row
candidate expired r = if expired r then record r { owner = None } else r

-- The rows that can be taken: not at their shard's end, and without an owner if expired.
abbrev pub candidates : (expired : Row → Bool) (rows : List Row) → List Row
candidates expired rows = map (candidate expired) (filter (λ r. not (is_end r.checkpoint)) rows)

-- Whether there is an owner, and it is this worker.
abbrev pub is_owned_by : (worker : ℕ) (owner : Option ℕ) → Bool
is_owned_by worker None = false
is_owned_by worker (Some owner) = owner == worker

-- Whether the lease has the row's key and tenure.
abbrev pub is_held_at : (r : Row) (h : Held) → Bool
is_held_at r h = same_key h.key r.key && (h.tenure == r.tenure)

-- Whether the lease has the row's key, whatever its tenure.
abbrev pub is_key_held : (r : Row) (h : Held) → Bool
is_key_held r h = same_key h.key r.key

-- Whether one of the leases has the row's key and tenure.
abbrev pub is_mine : (held : List Held) (r : Row) → Bool
is_mine held r = list_any (is_held_at r) held

-- Whether the row may be taken: no lease of `me` has its key, and it has no owner other than `me`.
abbrev pub is_available : (me : ℕ) (held : List Held) (r : Row) → Bool
is_available me held r = not (list_any (is_key_held r) held) && (is_none r.owner || is_owned_by me r.owner)

-- Whether the worker owns the row.
abbrev pub loads : (worker : ℕ) (r : Row) → Bool
loads worker r = is_owned_by worker r.owner

-- The number of rows that the worker owns.
abbrev pub load_of : (rows : List Row) (worker : ℕ) → ℕ
load_of rows worker = count_by (loads worker) rows

-- The workers with one more, at the end, unless it is in the list.
abbrev pub with_worker : (worker : ℕ) (workers : List ℕ) → List ℕ
with_worker worker workers = if list_any (λ w. w == worker) workers then workers else workers ++ worker ∷ []

-- The workers with an owner added, unless there is none, it is `me`, or it is in the list.
abbrev pub with_owner : (me : ℕ) (owner : Option ℕ) (workers : List ℕ) → List ℕ
with_owner me None workers = workers
with_owner me (Some owner) workers = if owner == me then workers else with_worker owner workers

-- The workers other than `me` that own one of the rows, each once.
abbrev pub others : (me : ℕ) (rows : List Row) → List ℕ
others me [] = []
others me (r ∷ rows) = with_owner me r.owner (others me rows)

-- The fair share of `me`: the candidates divided by the workers (`me` and the other owners), rounded up.
abbrev pub target_of : (me : ℕ) (rows : List Row) → ℕ
target_of me rows = (length rows + length (others me rows)) / (length (others me rows) + 1)

-- The worker with the greater load, or of equal loads the lower number; `w` if there is no `v`.
abbrev pub busier : (load : ℕ → ℕ) (w : ℕ) (v : Option ℕ) → ℕ
busier load w None = w
busier load w (Some v) = if nat_lt (load v) (load w) || ((load v == load w) && nat_lt w v) then w else v

-- The worker with the greatest load, of several the one with the lowest number.
abbrev pub busiest : (load : ℕ → ℕ) (workers : List ℕ) → Option ℕ
busiest load [] = None
busiest load (w ∷ workers) = Some (busier load w (busiest load workers))

-- The step that takes the row at its present counter.
abbrev pub take_step : (r : Row) → TakeStep
take_step r = record { key = r.key; counter = r.counter }

-- The step that takes the first row of this worker, if there is one.
abbrev pub first_step : (worker : ℕ) (rows : List Row) → Option TakeStep
first_step worker rows = option_map take_step (find (loads worker) rows)

-- The step that takes a row from the busiest worker, if it owns more than `target`.
abbrev pub stolen : (rows : List Row) (target : ℕ) (w : Option ℕ) → Option TakeStep
stolen rows target None = None
stolen rows target (Some w) = if nat_lt target (load_of rows w) then first_step w rows else None

-- Takes of the first `room` available rows, or without any, of one row of the busiest worker above its share.
abbrev pub chosen : (me : ℕ) (rows : List Row) (room : ℕ) (available : List Row) → List TakeStep
chosen me rows room [] = cons_option (stolen rows (target_of me rows) (busiest (load_of rows) (others me rows))) []
chosen me rows room (r ∷ available) = map take_step (take room (r ∷ available))

-- The takes up to the fair share of `me`; a worker that has its share takes none.
abbrev pub take_among : (me : ℕ) (held : List Held) (rows : List Row) → List TakeStep
take_among me held rows =
    if nat_le (target_of me rows) (count_by (is_mine held) rows) then [] else
    chosen me rows (target_of me rows - count_by (is_mine held) rows) (filter (is_available me held) rows)

-- The takes of the worker `me` up to its share: available leases, else one from the busiest (KCL, lease taker).
abbrev pub take_plan : (expired : Row → Bool) (me : ℕ) (held : List Held) (rows : List Row) → List TakeStep
take_plan expired me held rows = take_among me held (candidates expired rows)
