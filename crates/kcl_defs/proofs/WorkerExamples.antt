-- Examples of plans, and of the commands of a worker.
use Rattle.std.specs.Prelude.{ℕ, zero, suc, ◌≡◌, Bool, true, false, List, [], ◌∷◌, map, reverse, Option, Some, None}
use Rattle.std.specs.Prelude.{Result, Ok, Err}
use Rattle.std.proofs.Common.{refl}
use Rattle.kds_base.specs.declared.lease_key.ShardRef.{ShardRef}
use Rattle.kds_base.specs.declared.lease_key.Checkpoint.TheVariants.{TrimHorizon}
use Rattle.kds_defs.specs.declared.command.Command.{Command}
use Rattle.kds_defs.specs.declared.command.Command.TheVariants as command
use Rattle.kds_defs.specs.declared.command.NewItem.{NewItem}
use Rattle.kds_defs.specs.declared.command.Target.TheVariants as target
use Rattle.kds_defs.specs.declared.command.Turn.{Turn}
use Rattle.kcl_defs.specs.declared.consumer.Ask.{Ask}
use Rattle.kcl_defs.specs.declared.consumer.Ask.TheVariants as ask
use Rattle.kcl_defs.specs.declared.consumer.WorkerMade.{WorkerMade}
use Rattle.kcl_defs.specs.declared.plans.Held.{Held}
use Rattle.kcl_defs.specs.declared.plans.Seen.{Seen}
use Rattle.kcl_defs.specs.declared.plans.SyncStep.TheVariants.{Make, Cut}
use Rattle.kds_defs.specs.declared.command.Origin.{Origin}
use Rattle.kds_defs.specs.declared.command.Origin.TheVariants as origin
use Rattle.kcl_defs.specs.declared.plans.TakeStep.{TakeStep}
use Rattle.kds_defs.specs.declared.reply.Refusal.{Refusal}
use Rattle.kds_defs.specs.declared.reply.Refusal.TheVariants as refusal
use Rattle.kds_defs.specs.declared.reply.Reply.{Reply}
use Rattle.kds_defs.specs.declared.reply.Reply.TheVariants as reply
use Rattle.kds_defs.specs.declared.reply.Row.{Row}
use Rattle.kds_defs.specs.declared.reply.Stored.{Stored}
use Rattle.kcl_defs.specs.Consumers.{Stage, Holding, first_batch}
use Rattle.kds_defs.specs.Decision.{refuse◌if◌else◌, with◌or◌then◌}
use Rattle.kds_defs.specs.Histories.{answer}
use Rattle.kcl_defs.specs.Plans.{sync_plan, is_due, take_plan, is_expired_since}
use Rattle.kcl_defs.specs.Workers.{usual_settings, Known, Pending, WorkerState, new_state, after_called, after_asked}
use Rattle.kcl_defs.specs.Workers.{after_absorbed, after_stop, due_known, stage_of_known, is_idle}

key : ℕ → ShardRef
key sh = record { stream = 1; shard = sh }

row : ℕ → Option ℕ → ℕ → ℕ → Row
row sh owner counter tenure =
    record {
      key = key sh;
      owner = owner;
      counter = counter;
      checkpoint = TrimHorizon;
      switches = 0;
      tenure = tenure;
      floor = 1;
      parent = None;
      adjacent = None;
    }

-- ---- Plans

sync_example : (beginning : Origin) → sync_plan (key 0 ∷ key 2 ∷ []) (row 0 None 2 0 ∷ row 1 None 4 0 ∷ []) beginning
    ≡ (Make (key 2) beginning ∷ Cut (key 1) 4 ∷ [])
unfolding key row
sync_example beginning = refl

not_yet_due : is_due (record { key = key 0; tenure = 1; counter = 1; since = 1000 }) 4332 10000 ≡ false
unfolding key
not_yet_due = refl

now_due : is_due (record { key = key 0; tenure = 1; counter = 1; since = 1000 }) 4333 10000 ≡ true
unfolding key
now_due = refl

nothing_expired : Row → Bool
nothing_expired r = false

of_two : List Row
of_two = row 0 (Some 2) 1 1 ∷ row 1 (Some 2) 1 2 ∷ row 2 (Some 2) 1 3 ∷ row 3 (Some 2) 1 4 ∷ row 4 (Some 2) 1 5 ∷ []

taken_from_two : List Row
taken_from_two = row 0 (Some 1) 1 6 ∷ row 1 (Some 2) 1 2 ∷ row 2 (Some 2) 1 3 ∷ row 3 (Some 2) 1 4 ∷ row 4 (Some 2) 1 5
    ∷ []

twice_from_two : List Row
twice_from_two = row 0 (Some 1) 1 6 ∷ row 1 (Some 1) 1 7 ∷ row 2 (Some 2) 1 3 ∷ row 3 (Some 2) 1 4 ∷ row 4 (Some 2) 1 5
    ∷ []

held : ℕ → ℕ → Held
held sh tenure = record { key = key sh; tenure = tenure; counter = 1; since = 0 }

step : ℕ → TakeStep
step sh = record { key = key sh; counter = 1 }

steal_first : take_plan nothing_expired 1 [] of_two ≡ (step 0 ∷ [])
unfolding nothing_expired of_two row key step
steal_first = refl

steal_second : take_plan nothing_expired 1 (held 0 6 ∷ []) taken_from_two ≡ (step 1 ∷ [])
unfolding nothing_expired taken_from_two row key step held
steal_second = refl

steal_no_more : take_plan nothing_expired 1 (held 0 6 ∷ held 1 7 ∷ []) twice_from_two ≡ []
unfolding nothing_expired twice_from_two row key held
steal_no_more = refl

of_two_and_three : List Row
of_two_and_three = row 0 (Some 3) 1 1 ∷ row 1 (Some 2) 1 2 ∷ row 2 (Some 3) 1 3 ∷ row 3 (Some 2) 1 4
    ∷ row 4 (Some 2) 1 5 ∷ row 5 (Some 3) 1 6 ∷ []

steal_from_least : take_plan nothing_expired 1 [] of_two_and_three ≡ (step 1 ∷ [])
unfolding nothing_expired of_two_and_three row key step
steal_from_least = refl

first_seen : Option Seen
first_seen = Some (record { key = key 0; counter = 1; since = 0 })

not_expired : is_expired_since first_seen (row 0 (Some 2) 1 1) 10000 10000 ≡ false
unfolding first_seen row key
not_expired = refl

is_expired_now : is_expired_since first_seen (row 0 (Some 2) 1 1) 10001 10000 ≡ true
unfolding first_seen row key
is_expired_now = refl

-- ---- A worker

first_number : List Stored → Ask
first_number [] = ask.None
first_number (r ∷ batch) = ask.At r.seq

asked_by : Bool → List Stored → Ask
asked_by true batch = ask.Last
asked_by false batch = first_number batch

asked_at : Bool → Option Known → Ask
asked_at last None = ask.None
asked_at last (Some k) = asked_in (stage_of_known k)
  where
    asked_in : Stage → Ask
    asked_in (Holding reach waiting) = asked_by last (first_batch waiting)
    asked_in _ = ask.None

call_if : WorkerMade → Bool → Option Known → WorkerState → WorkerState
call_if made last None w = w
call_if made last (Some k) w = after_called (asked_at last (Some k)) w

with_calls : ℕ → WorkerMade → Bool → WorkerState → WorkerState
with_calls zero made last w = w
with_calls (suc n) made last w = with_calls n made last (call_if made last (due_known w) w)

-- A command and its answer.
pub record Told : Type 0 where
  pub what : Command
  pub answer : Result Reply Refusal

-- A worker with its commands, the newest first, in a history of all turns.
pub record Scene : Type 0 where
  pub history : List Turn
  pub worker : WorkerState
  pub told : List Told

turn_of : ℕ → ℕ → Command → Turn
turn_of actor moment asked = record { by = actor; at = moment; what = asked }

turned : WorkerMade → ℕ → ℕ → Scene → WorkerState → Option Pending → Scene
turned made actor now s w None = record s { worker = w }
turned made actor now s w (Some p) =
    let a = answer s.history (turn_of actor now p.what) in
    record {
      history = turn_of actor now p.what ∷ s.history;
      worker = after_absorbed made now a w;
      told = record { what = p.what; answer = a } ∷ s.told;
    }

stepped : WorkerMade → ℕ → Bool → ℕ → Scene → Scene
stepped made actor last now s =
    let w = after_asked made now (with_calls 2 made last s.worker) in turned made actor now s w w.waiting

steps : ℕ → WorkerMade → ℕ → Bool → ℕ → Scene → Scene
steps zero made actor last now s = s
steps (suc n) made actor last now s = steps n made actor last now (stepped made actor last now s)

item : ℕ → NewItem
item hash = record { key = 97 ∷ []; hash = hash; payload = 104 ∷ 105 ∷ [] }

shard_of_two : List Turn
shard_of_two =
    turn_of 0 3000 (command.Put (115 ∷ []) (item 0)) ∷ turn_of 0 3000 (command.Put (115 ∷ []) (item 0))
    ∷ turn_of 0 3000 (command.Create (115 ∷ []) 1) ∷ []

w1 : WorkerMade
w1 = record { name = 1; settings = usual_settings }

opening_scene : Scene
opening_scene = record { history = shard_of_two; worker = new_state; told = [] }

commands_of : Scene → List Command
commands_of s = reverse (map (λ t. t.what) s.told)

first_round : commands_of (steps 10 w1 1000 true 3000 opening_scene) ≡ (
    command.Survey ∷ command.MakeLease (key 0) origin.TrimHorizon
    ∷ command.Survey ∷ command.Take (key 0) 0 1 ∷ command.OpenShard 1
    ∷ command.Survey ∷ command.Read 1 0 1000
    ∷ command.Survey ∷ command.Give 1
    ∷ command.Survey ∷ [])
unfolding refuse◌if◌else◌ with◌or◌then◌ commands_of steps stepped turned with_calls call_if asked_at asked_by
    first_number turn_of w1 opening_scene shard_of_two item key
first_round = refl

from_latest : WorkerMade
from_latest = record { name = 1; settings = record { failover = 10000; limit = 1000; from = origin.Latest } }

latest_round : commands_of (steps 10 from_latest 1000 true 3000 opening_scene) ≡ (
    command.Survey ∷ command.MakeLease (key 0) origin.Latest
    ∷ command.Survey ∷ command.Take (key 0) 0 1 ∷ command.OpenShard 1
    ∷ command.Survey ∷ command.Read 1 3 1000
    ∷ command.Survey ∷ command.Give 1
    ∷ command.Survey ∷ [])
unfolding refuse◌if◌else◌ with◌or◌then◌ commands_of steps stepped turned with_calls call_if asked_at asked_by
    first_number turn_of from_latest opening_scene shard_of_two item key
latest_round = refl

newest : List Told → Option Told
newest [] = None
newest (t ∷ ts) = Some t

first_number_marked : newest (steps 11 w1 1000 false 3000 opening_scene).told
    ≡ Some (record { what = command.Mark 1 1 (target.At 1); answer = Ok (reply.Counter 2) })
unfolding refuse◌if◌else◌ with◌or◌then◌ newest steps stepped turned with_calls call_if asked_at asked_by first_number
    turn_of w1 opening_scene shard_of_two item key
first_number_marked = refl

restarted : Scene → Scene
restarted s = record {
  history = (steps 2 w1 1001 true 3000 (record { history = s.history; worker = new_state; told = [] })).history;
  worker = s.worker;
  told = s.told;
}

robbed : newest (steps 1 w1 1000 true 3000 (restarted (steps 10 w1 1000 true 3000 opening_scene))).told
    ≡ Some (record { what = command.Mark 1 1 (target.At 2); answer = Err (refusal.Lost 2) })
unfolding refuse◌if◌else◌ with◌or◌then◌ newest restarted steps stepped turned with_calls call_if asked_at asked_by
    first_number turn_of w1 opening_scene shard_of_two item key
robbed = refl

stopped : Scene → Scene
stopped s = record s { worker = after_stop s.worker }

freed : newest (steps 1 w1 1000 true 3000 (stopped (steps 10 w1 1000 true 3000 opening_scene))).told
    ≡ Some (record { what = command.Free 1 1; answer = Ok (reply.Counter 2) })
unfolding refuse◌if◌else◌ with◌or◌then◌ newest stopped steps stepped turned with_calls call_if asked_at asked_by
    first_number turn_of w1 opening_scene shard_of_two item key
freed = refl

idle_then : is_idle (with_calls 2 w1 true
    (steps 1 w1 1000 true 3000 (stopped (steps 10 w1 1000 true 3000 opening_scene))).worker) ≡ true
unfolding refuse◌if◌else◌ with◌or◌then◌ stopped steps stepped turned with_calls call_if asked_at asked_by first_number
    turn_of w1 opening_scene shard_of_two item key
idle_then = refl
