use Rattle.std.proofs.Common.{ℕ, ◌++◌, max, List, [], refl, ◌∙◌, ap, ◌≡◌}
use Rattle.std.specs.Prelude.{length, Result, Ok, Err, OnOk}
use Rattle.kds_defs.specs.declared.command.Command.TheVariants as command
use Rattle.kds_defs.specs.declared.command.Turn.{Turn}
use Rattle.kds_base.specs.declared.lease_key.ShardRef.{ShardRef}
use Rattle.kds_defs.specs.declared.reply.Refusal.{Refusal}
use Rattle.kds_defs.specs.declared.reply.Reply.{Reply}
use Rattle.kds_defs.specs.declared.reply.Reply.TheVariants as reply
use Rattle.kds_defs.specs.declared.reply.Row.{Row}
use Rattle.kds_defs.specs.Decision.{Accepted}
use Rattle.kds_defs.specs.Histories.{clock, journal}
use Rattle.kds_defs.specs.Leases.{rows}
use Rattle.kds_defs.specs.Listings.{listed_in}
use Rattle.kds_defs.specs.Streams.{live_streams}
use Rattle.kcl_drill_drain.specs.Draining.{CanDrain}
use Rattle.kcl_drill_drain.specs.Keys.{AreDrainedTo, AreMade, listed_keys}
use Rattle.kcl_drill_drain.specs.Laws.{HasLaws}
use Rattle.kcl_drill_drain.specs.Leased.{HasDrained, Leads}
use Rattle.kcl_drill_drain.proofs.Ends.{has_drained}
use Rattle.kcl_drill_drain.proofs.Leading.{led, led_first, over}
use Rattle.kcl_drill_drain.proofs.Makings.{all_wait, made_first}
use Rattle.kcl_drill_drain.proofs.Overs.{same_keys}
use Rattle.kcl_drill_drain.proofs.drain.lone_drain.Goals as goal

drained_so : {E : Type 0} (stands : List Turn → Type 0) (actor moment : ℕ) (h : List Turn) (among : List Row)
    (r : Result (Unit {0}) E) → CanDrain h moment → HasLaws h (max (clock h) moment)
    → OnOk r (Leads stands actor moment h (AreDrainedTo h (listed_keys h moment) among (length (listed_keys h moment))))
    → OnOk r (HasDrained stands actor moment h)
drained_so stands actor moment h among (Ok u) can laws l = has_drained stands actor moment h among can laws l
drained_so stands actor moment h among (Err e) can laws l = tt

told : (a : Result Reply Refusal) (keys keys' : List ShardRef) (among : List Row) → a ≡ Ok (reply.Survey keys among)
    → keys ≡ keys' → a ≡ Ok (reply.Survey keys' among)
told a keys keys' among is same = is ∙ ap (λ ks. Ok (reply.Survey ks among)) same

pub returns-clause-drained : goal.returns-clause-drained
returns-clause-drained g c = λ h now can.
    let moment = c.args.at in
    let actor = c.args.by in
    let laws = c.drain_laws.ensures h moment can in
    let keys = listed_keys h moment in
    let seen = rows (journal h) in
    let first = led_first (g.M.Machine.stands_for c.args.machine.now) (g.M.Machine.stands_for c.ask.new.machine)
    actor moment h command.Survey c.in_ok-before.before (AreMade h keys seen 0) (Accepted [] (reply.Survey keys seen))
    refl (c.ask.ensures.moment, tt) c.in_ok-before.ensures.ok now refl
    (made_first h keys (max (clock h) moment) laws) in
    let made = c.in_ok-make_missing.ensures.ok h can first.0 first.1 in
    let log = journal (made.more ++ h) in
    let there = over (g.M.Machine.stands_for c.make_missing.new.machine) actor moment h
    (AreMade h keys seen (length keys))
    laws made in
    let second = led (g.M.Machine.stands_for c.make_missing.new.machine) (g.M.Machine.stands_for c.ask-2.new.machine)
    actor moment h command.Survey c.in_ok-after.after (AreMade h keys seen (length keys))
    (AreDrainedTo h keys (rows log) 0)
    (Accepted [] (reply.Survey (listed_in log (max (clock h) moment) (live_streams log)) (rows log)))
    refl (c.ask.ensures.moment, tt) c.in_ok-after.ensures.ok made refl (all_wait h keys seen log made.so) in
    let survey = told c.in_ok-after.after (listed_in log (max (clock h) moment) (live_streams log)) keys (rows log)
    second.0
    (same_keys h (max (clock h) moment) log there) in
    drained_so (g.M.Machine.stands_for c.drain_listed.new.machine) actor moment h (rows log) c.drain_listed.result can
    laws
    (c.drain_listed.ensures.ok h (rows log) can survey second.1)

pub returns-clause-begun : goal.returns-clause-begun
returns-clause-begun g c = λ h now.
    c.drain_listed.ensures.kept h
    (c.in_ok-after.ensures.kept h
    (c.make_missing.ensures.kept h
    (c.in_ok-before.ensures.kept h (record { more = []; stands_now = now; are = tt }))))
