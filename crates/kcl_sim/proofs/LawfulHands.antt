-- The turns of bounded workers' hand-offs are lawful; bounds keep a Read's limit in range.
use Rattle.std.proofs.Common.{◌≡◌, ℕ, zero, suc, ◌<◌, ◌^◌, List, [], ◌∷◌, Option, Some, None, refl, subst}
use Rattle.std.specs.Prelude.{option_map}
use Rattle.kds_base.specs.declared.lease_key.ShardRef.{ShardRef}
use Rattle.kds_defs.specs.declared.command.Command.{Command}
use Rattle.kds_defs.specs.declared.command.Turn.{Turn}
use Rattle.kds_defs.specs.Lawful.{IsHistory, IsLawfulCommand, IsLimit}
use Rattle.kcl_defs.specs.declared.consumer.Due.{Due}
use Rattle.kcl_defs.specs.declared.consumer.Tenancy.{Tenancy}
use Rattle.kcl_defs.specs.declared.plans.Held.{Held}
use Rattle.kcl_defs.specs.Consumers.{Stage, stage_after}
use Rattle.kcl_defs.specs.Workers.{Known, Release, id_of_held, known_of, leaving, release_of, released, with_lease}
use Rattle.kcl_hand.specs.declared.stand.Stand.{Stand}
use Rattle.kcl_hand.specs.declared.stand.Stand.TheVariants as stand
use Rattle.kcl_hand.specs.Handing.{command_at, hand_command, hand_due}
use Rattle.kcl_hand.specs.Joints.{HandOff, hand_of, state_of, worker_past}
use Rattle.kcl_hand.specs.Runs.{answered_by, called_if, called_up, run_hand, turn_of}
use Rattle.kcl_script.specs.declared.line.Line.{Line}
use Rattle.kcl_script.specs.declared.line.Line.TheVariants.{Hand}
use Rattle.kcl_script.specs.Line.{IsLine}
use Rattle.kcl_sim.specs.Output.{Ran, history_at, part_of, with_handed, with_release}
use Rattle.kcl_sim.specs.Workers.{Employed, employed_by, release_by, state_of as worker_state}
use Rattle.kcl_sim.proofs.HandTelling.{rounds}
use Rattle.kcl_sim.proofs.LawfulSteps.{AllLimits, AreBounded, HasLimit, IsBounded, bounded_by, found_limit}
use Rattle.kcl_sim.proofs.LawfulSteps.{limits_after, stage_command, so_lawful}

-- ---- A released consumer asks for no more records than a Read may ask for

lease_limit : (h : Held) (o : Option Known) (r : Release) → with_lease h o ≡ Some r
    → ((k : Known) → o ≡ Some k → HasLimit k) → IsLimit r.known.made.limit
unfolding HasLimit
lease_limit h None r is limits = absurd cc
lease_limit h (Some k) r is limits =
    let same : record { held = h; known = k } ≡ r = cc in
    subst (λ (z : Release). IsLimit z.known.made.limit) same (limits k refl)

release_limit : (known : List Known) (o : Option Held) (r : Release) → release_of known o ≡ Some r → AllLimits known
    → IsLimit r.known.made.limit
release_limit known None r is limits = absurd cc
release_limit known (Some h) r is limits =
    lease_limit h (known_of (id_of_held h) known) r is (λ k found. found_limit _ known k found limits)

worker_limit : (e : Employed) (key : ShardRef) (r : Release) → released key (worker_state e) ≡ Some r → IsBounded e
    → IsLimit r.known.made.limit
worker_limit e key r is h =
    release_limit (worker_state e).consumers (leaving key (worker_state e)) r is
    (limits_after e.made h.limit (worker_past e.past))

-- ---- The commands of a hand-off

stand_lawful : (h : Held) (made : Tenancy) (stage : Stage) (s : Stand) (command : Command)
    → command_at h made stage s ≡ Some command → IsLimit made.limit
    → IsLawfulCommand command
stand_lawful h made stage stand.Consumer command is limit = stage_command made stage h.counter command is limit
stand_lawful h made stage (stand.Mark q) command is limit = so_lawful _ _ is tt
stand_lawful h made stage (stand.Free counter) command is limit = so_lawful _ _ is tt
stand_lawful h made stage (stand.Ended left) command is limit = absurd cc

called_limit : (o : Option Due) (x : HandOff) → IsLimit x.made.limit → IsLimit (called_if o x).made.limit
called_limit None x h = h
called_limit (Some due) x h = h

rounds_lawful : (n moment actor : ℕ) (h : List Turn) (x : HandOff) (o : Option Command)
    → hand_command x.held x.made (state_of x) ≡ o → moment < 2 ^ 62
    → IsLimit x.made.limit → IsHistory h
    → ((k : List Turn) (y : HandOff) → IsLimit y.made.limit → IsHistory k
    → IsHistory (run_hand n moment actor k y).history)
    → IsHistory (rounds n moment actor h x o).history
rounds_lawful n moment actor h x None is early limit past rest = past
rounds_lawful n moment actor h x (Some command) is early limit past rest =
    rest (turn_of moment actor command ∷ h) (answered_by moment actor h x command) limit (
      (early, stand_lawful x.held x.made (stage_after x.made (state_of x).past) (state_of x).stand command is limit),
      past,
    )

run_lawful : (n moment actor : ℕ) (h : List Turn) (x : HandOff) → moment < 2 ^ 62 → IsLimit x.made.limit → IsHistory h
    → IsHistory (run_hand n moment actor h x).history
run_lawful zero moment actor h x early limit past = past
run_lawful (suc n) moment actor h x early limit past =
    rounds_lawful n moment actor h (called_up x) _ refl early (called_limit (hand_due x.made (state_of x)) x limit) past
    (λ k y l p. run_lawful n moment actor k y early l p)

-- ---- Lines

release_lawful : (ran : Ran) (moment actor : ℕ) (key : ShardRef) (e : Employed) (o : Option Release)
    → release_by key (Some e) ≡ o → moment < 2 ^ 62 → IsBounded e
    → IsHistory ran.history
    → IsHistory (with_release ran moment actor key e o).history
release_lawful ran moment actor key e None is early h past = past
release_lawful ran moment actor key e (Some r) is early h past =
    run_lawful 3 moment actor ran.history (hand_of r []) early (worker_limit e key r is h) past

pub hand_lawful : (ran : Ran) (moment actor : ℕ) (key : ShardRef) (o : Option Employed)
    → employed_by actor ran.workers ≡ o
    → moment < 2 ^ 62 → AreBounded ran.workers
    → IsHistory ran.history
    → IsHistory (with_handed ran moment actor key o).history
hand_lawful ran moment actor key None is early h past = past
hand_lawful ran moment actor key (Some e) is early h past =
    release_lawful ran moment actor key e (release_by key (Some e)) refl early (bounded_by actor ran.workers e is h)
    past

-- ---- Out of memory in the middle of a hand-off

released_part : (n moment actor : ℕ) (h k : List Turn) (key : ShardRef) (e : Employed) (o : Option Release)
    → release_by key (Some e) ≡ o
    → option_map (history_at n h moment actor) o ≡ Some k
    → moment < 2 ^ 62 → IsBounded e → IsHistory h → IsHistory k
released_part n moment actor h k key e None is part early bound past = absurd cc
released_part n moment actor h k key e (Some r) is part early bound past =
    let same : history_at n h moment actor r ≡ k = cc in
    subst IsHistory same (run_lawful n moment actor h (hand_of r []) early (worker_limit e key r is bound) past)

employed_part : (n moment actor : ℕ) (h k : List Turn) (key : ShardRef) (ws : List Employed) (o : Option Employed)
    → employed_by actor ws ≡ o
    → option_map (history_at n h moment actor) (release_by key o) ≡ Some k
    → moment < 2 ^ 62 → AreBounded ws → IsHistory h → IsHistory k
employed_part n moment actor h k key ws None is part early bound past = absurd cc
employed_part n moment actor h k key ws (Some e) is part early bound past =
    released_part n moment actor h k key e (release_by key (Some e)) refl part early (bounded_by actor ws e is bound)
    past

-- The turns stay lawful after part of a hand-off line.
pub part_lawful : (n : ℕ) (ran : Ran) (l : Line) (k : List Turn) → part_of n ran l ≡ Some k → IsLine l
    → AreBounded ran.workers → IsHistory ran.history
    → IsHistory k
part_lawful n ran (Hand moment actor key) k part is bound past =
    employed_part n moment actor ran.history k key ran.workers (employed_by actor ran.workers) refl part is.0 bound past
part_lawful n ran _ k part is bound past = absurd cc
