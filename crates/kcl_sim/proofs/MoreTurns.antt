-- A line adds at most three turns to a run, even if memory runs out within it.
use Rattle.std.proofs.Common.{◌≡◌, ℕ, zero, suc, ◌+◌, ◌≤◌, List, [], ◌∷◌, ◌++◌, length, Option, Some, None, Result, Ok}
use Rattle.std.proofs.Common.{Err, refl, sym, ap, subst, ◌∙◌, arith}
use Rattle.std.specs.Prelude.{option_map}
use Rattle.std.proofs.lemmas.List.{append_assoc}
use Rattle.kds_base.specs.declared.lease_key.ShardRef.{ShardRef}
use Rattle.kds_defs.specs.declared.command.Command.{Command}
use Rattle.kds_defs.specs.declared.command.Turn.{Turn}
use Rattle.kds_defs.specs.Requests.{request_turn}
use Rattle.kds_json_members.specs.declared.problem.Fault.{Fault}
use Rattle.kds_json.specs.Asked.{asked}
use Rattle.kcl_defs.specs.Workers.{Release}
use Rattle.kcl_hand.specs.Handing.{hand_command}
use Rattle.kcl_hand.specs.Joints.{HandOff, hand_of, state_of}
use Rattle.kcl_hand.specs.Runs.{answered_by, called_up, run_hand, turn_of}
use Rattle.kcl_script.specs.declared.line.Line.{Line}
use Rattle.kcl_script.specs.declared.line.Line.TheVariants.{Api, Hand, Raw, Step, Stop, Worker}
use Rattle.kcl_sim.specs.Output.{Ran, history_at, part_of, raw_turn, requested, with_command, with_handed, with_line}
use Rattle.kcl_sim.specs.Output.{with_release, with_step, with_stop}
use Rattle.kcl_sim.specs.Standing.{GrowsFew, HasRunPart, SimValue}
use Rattle.kcl_sim.specs.Workers.{Employed, all_called, command_at, employed_by, release_by}
use Rattle.kcl_sim.proofs.HandTelling.{rounds}

nothing_more : (h : List Turn) → GrowsFew h h
nothing_more h = record { more = []; few = omega arith; grows = refl }

one_more : (h : List Turn) (turn : Turn) → GrowsFew h (turn ∷ h)
one_more h turn = record { more = turn ∷ []; few = omega arith; grows = refl }

-- The history grew by at most `n` turns.
record GrowsBy (n : ℕ) (old new : List Turn) : Type 0 where
  more : List Turn
  few : length more ≤ n
  grows : new ≡ more ++ old

length_end : (more : List Turn) (turn : Turn) → length (more ++ turn ∷ []) ≡ length more + 1
length_end [] turn = refl
length_end (t ∷ more) turn = ap suc (length_end more turn) ∙ omega arith

grows_by : (n moment actor : ℕ) (h : List Turn) (x : HandOff) (o : Option Command)
    → ((k : List Turn) (y : HandOff) → GrowsBy n k (run_hand n moment actor k y).history)
    → GrowsBy (suc n) h (rounds n moment actor h x o).history
grows_by n moment actor h x None rest = record { more = []; few = omega arith; grows = refl }
grows_by n moment actor h x (Some command) rest =
    let g = rest (turn_of moment actor command ∷ h) (answered_by moment actor h x command) in
    record {
      more = g.more ++ turn_of moment actor command ∷ [];
      few = omega (arith, g.few, length_end g.more (turn_of moment actor command));
      grows = g.grows ∙ sym (append_assoc g.more (turn_of moment actor command ∷ []) h);
    }

run_grows : (n moment actor : ℕ) (h : List Turn) (x : HandOff) → GrowsBy n h (run_hand n moment actor h x).history
run_grows zero moment actor h x = record { more = []; few = omega arith; grows = refl }
run_grows (suc n) moment actor h x =
    grows_by n moment actor h (called_up x)
    (hand_command (called_up x).held (called_up x).made (state_of (called_up x)))
    (λ k y. run_grows n moment actor k y)

hand_grows : (n moment actor : ℕ) (h : List Turn) (r : Release) → n ≤ 3 → GrowsFew h (history_at n h moment actor r)
hand_grows n moment actor h r few =
    let g = run_grows n moment actor h (hand_of r []) in
    record { more = g.more; few = omega (arith, few, g.few); grows = g.grows }

-- ---- Lines

request_grows : (h : List Turn) (moment : ℕ) (r : Result Command Fault) → GrowsFew h (requested h moment r)
request_grows h moment (Ok command) = one_more h (request_turn moment command)
request_grows h moment (Err f) = nothing_more h

command_grows : (ran : Ran) (moment actor : ℕ) (e : Employed) (o : Option Command)
    → GrowsFew ran.history (with_command ran moment actor e o).history
command_grows ran moment actor e None = nothing_more ran.history
command_grows ran moment actor e (Some command) = one_more ran.history (raw_turn moment actor command)

step_grows : (ran : Ran) (moment actor : ℕ) (o : Option Employed)
    → GrowsFew ran.history (with_step ran moment actor o).history
step_grows ran moment actor None = nothing_more ran.history
step_grows ran moment actor (Some e) = command_grows ran moment actor (all_called e) (command_at moment (all_called e))

stop_grows : (ran : Ran) (actor : ℕ) (o : Option Employed) → GrowsFew ran.history (with_stop ran actor o).history
stop_grows ran actor None = nothing_more ran.history
stop_grows ran actor (Some e) = nothing_more ran.history

release_grows : (ran : Ran) (moment actor : ℕ) (key : ShardRef) (e : Employed) (o : Option Release)
    → GrowsFew ran.history (with_release ran moment actor key e o).history
release_grows ran moment actor key e None = nothing_more ran.history
release_grows ran moment actor key e (Some r) = hand_grows 3 moment actor ran.history r (omega arith)

handed_grows : (ran : Ran) (moment actor : ℕ) (key : ShardRef) (o : Option Employed)
    → GrowsFew ran.history (with_handed ran moment actor key o).history
handed_grows ran moment actor key None = nothing_more ran.history
handed_grows ran moment actor key (Some e) = release_grows ran moment actor key e (release_by key (Some e))

pub line_grows : (ran : Ran) (l : Line) → GrowsFew ran.history (with_line ran l).history
line_grows ran (Api moment operation body) = request_grows ran.history moment (asked operation body)
line_grows ran (Raw moment actor command long) = one_more ran.history (raw_turn moment actor command)
line_grows ran (Worker moment name kind origin) = nothing_more ran.history
line_grows ran (Step moment actor) = step_grows ran moment actor (employed_by actor ran.workers)
line_grows ran (Stop moment actor) = stop_grows ran actor (employed_by actor ran.workers)
line_grows ran (Hand moment actor key) = handed_grows ran moment actor key (employed_by actor ran.workers)

-- ---- Out of memory in the middle of a line

part_by : (n moment actor : ℕ) (h k : List Turn) (o : Option Release)
    → option_map (history_at n h moment actor) o ≡ Some k → n ≤ 3
    → GrowsFew h k
part_by n moment actor h k None is few = absurd cc
part_by n moment actor h k (Some r) is few =
    let same : history_at n h moment actor r ≡ k = cc in
    subst (GrowsFew h) same (hand_grows n moment actor h r few)

part_of_line : (n : ℕ) (ran : Ran) (l : Line) (k : List Turn) → part_of n ran l ≡ Some k → n ≤ 3
    → GrowsFew ran.history k
part_of_line n ran (Hand moment actor key) k is few =
    part_by n moment actor ran.history k (release_by key (employed_by actor ran.workers)) is few
part_of_line n ran _ k is few = absurd cc

pub part_grows : (s : SimValue) (ran : Ran) (l : Line) → HasRunPart s ran l → GrowsFew ran.history s.history
part_grows s ran l p = part_of_line p.ran_of_it ran l s.history p.history p.few
