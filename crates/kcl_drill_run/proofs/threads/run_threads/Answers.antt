use Rattle.std.proofs.Common.{rules, ◌≡◌, ◌+◌, inl, inr, length, sym, subst, arith}
use Rattle.std.specs.Prelude.{◌/◌}
use Rattle.std.specs.List.{All}
use Rattle.std.specs.Vec.{with_items}
use Rattle.std.proofs.lemmas.List.{with_items_is}
use Rattle.std.proofs.lemmas.Result.{on_ok_weaker}
use Rattle.kcl_drill_threads.specs.Running.{HaveEnded, HaveEndedOrNot}
use Rattle.kcl_live.specs.Members.{IsReady}
use Rattle.kcl_live.proofs.Results.{err_so}
use Rattle.kcl_proc.specs.Stocks.{StandsFor}
use Rattle.kds_turn.specs.declared.pass.TurnErr.TheVariants as failed
use Rattle.kcl_drill_run.specs.Ends.{AllEnded, SomeFailed}
use Rattle.kcl_drill_run.specs.Running.{AreFull, HaveFailed, HaveRun}
use Rattle.kcl_drill_run.specs.declared.participants.Participants.{Participants}
use Rattle.kcl_drill_run.proofs.Full.{crowd_full, members_full}
use Rattle.kcl_drill_run.proofs.Ran.{all_ready, have_run, have_stopped, have_stopped_all}
use Rattle.kcl_drill_run.proofs.threads.run_threads.Goals as goal

pub crowd-requires-clause-ready : goal.crowd-requires-clause-ready
crowd-requires-clause-ready g c κs within =
    let hall = c.args.hall.now in
    let members = c.args.participants.now.members.items in
    subst (All (IsReady StandsFor hall)) (sym c.as_mut_slice.ensures.value)
    (all_ready hall 1 3 (length members) members c.requires.dealt.members)

pub returns-in-Err-clause-stopped : goal.returns-in-Err-clause-stopped
returns-in-Err-clause-stopped g c =
    let earlier = c.args.participants.now in
    let after : Participants =
    record {
      root = c.crowd.new.root;
      feeder = c.crowd.new.feeder;
      members = with_items earlier.members c.crowd.new.members;
    } in
    let items : c.as_mut_slice.result.now ≡ earlier.members.items = c.as_mut_slice.ensures.value in
    let now : after.members.items ≡ c.crowd.new.members =
    with_items_is earlier.members c.crowd.new.members
    (omega (arith, c.crowd.auto.members, c.as_mut_slice.ensures.len)) in
    let ended = subst (λ ms. HaveEndedOrNot StandsFor (200 + c.args.records / 100) earlier.members.items ms) (sym now)
    (subst (λ ms. HaveEndedOrNot StandsFor (200 + c.args.records / 100) ms c.crowd.new.members)
    items c.in-Err.ensures.members_or_not) in
    let same : length after.members.items ≡ length earlier.members.items = search rules in
    have_stopped c.args.hall.now c.args.number c.args.records earlier after c.requires.dealt c.requires.few
    c.in-Err.ensures.kept.0 c.in-Err.ensures.kept.1 same c.in-Err.ensures.fed_so_far ended

pub returns-in-Err-clause-err : goal.returns-in-Err-clause-err
returns-in-Err-clause-err g c = inl c.in-Err.ensures.err

pub returns-in-Err-clause-full : goal.returns-in-Err-clause-full
returns-in-Err-clause-full g c =
    let earlier = c.args.participants.now in
    let after : Participants =
    record {
      root = c.crowd.new.root;
      feeder = c.crowd.new.feeder;
      members = with_items earlier.members c.crowd.new.members;
    } in
    crowd_full earlier.root after c.in-Err.error c.in-Err.ensures.err

pub returns-in-Ok-clause-stopped : goal.returns-in-Ok-clause-stopped
returns-in-Ok-clause-stopped g c =
    let earlier = c.args.participants.now in
    let after : Participants =
    record {
      root = c.crowd.new.root;
      feeder = c.crowd.new.feeder;
      members = with_items earlier.members c.crowd.new.members;
    } in
    let items : c.as_mut_slice.result.now ≡ earlier.members.items = c.as_mut_slice.ensures.value in
    let now : after.members.items ≡ c.crowd.new.members =
    with_items_is earlier.members c.crowd.new.members
    (omega (arith, c.crowd.auto.members, c.as_mut_slice.ensures.len)) in
    let ended = subst (λ ms. HaveEnded StandsFor (200 + c.args.records / 100) earlier.members.items ms) (sym now)
    (subst (λ ms. HaveEnded StandsFor (200 + c.args.records / 100) ms c.crowd.new.members)
    items c.in-Ok.ensures.members) in
    let same : length after.members.items ≡ length earlier.members.items = search rules in
    have_stopped_all c.args.hall.now c.args.number c.args.records earlier after c.requires.dealt c.requires.few
    c.in-Ok.ensures.kept.0 c.in-Ok.ensures.kept.1 same c.in-Ok.ensures.fed ended

pub returns-in-Ok-clause-ran : goal.returns-in-Ok-clause-ran
returns-in-Ok-clause-ran g c =
    let earlier = c.args.participants.now in
    let after : Participants =
    record {
      root = c.crowd.new.root;
      feeder = c.crowd.new.feeder;
      members = with_items earlier.members c.crowd.new.members;
    } in
    let items : c.as_mut_slice.result.now ≡ earlier.members.items = c.as_mut_slice.ensures.value in
    let now : after.members.items ≡ c.crowd.new.members =
    with_items_is earlier.members c.crowd.new.members
    (omega (arith, c.crowd.auto.members, c.as_mut_slice.ensures.len)) in
    let ended = subst (λ ms. HaveEnded StandsFor (200 + c.args.records / 100) earlier.members.items ms) (sym now)
    (subst (λ ms. HaveEnded StandsFor (200 + c.args.records / 100) ms c.crowd.new.members)
    items c.in-Ok.ensures.members) in
    let same : length after.members.items ≡ length earlier.members.items = search rules in
    let slice : c.as_slice.result.now ≡ after.members.items = c.as_slice.ensures.value in
    on_ok_weaker {P = AllEnded c.as_slice.result.now} {Q = HaveRun c.args.hall.now c.args.number c.args.records after}
    c.first_error.result
    (λ ran. have_run c.args.hall.now c.args.number c.args.records earlier after c.requires.dealt c.requires.few
    c.in-Ok.ensures.kept.0 c.in-Ok.ensures.kept.1 same c.in-Ok.ensures.fed ended c.horizon.ensures
    (subst AllEnded slice ran))
    c.first_error.ensures.ok

pub returns-in-Ok-clause-err : goal.returns-in-Ok-clause-err
returns-in-Ok-clause-err g c =
    let earlier = c.args.participants.now in
    let after : Participants =
    record {
      root = c.crowd.new.root;
      feeder = c.crowd.new.feeder;
      members = with_items earlier.members c.crowd.new.members;
    } in
    let slice : c.as_slice.result.now ≡ after.members.items = c.as_slice.ensures.value in
    err_so c.first_error.result (λ e. SomeFailed e c.as_slice.result.now) (HaveFailed earlier after)
    (λ e some. inr (subst (SomeFailed e) slice some)) c.first_error.ensures.err

pub returns-in-Ok-clause-full : goal.returns-in-Ok-clause-full
returns-in-Ok-clause-full g c =
    let earlier = c.args.participants.now in
    let after : Participants =
    record {
      root = c.crowd.new.root;
      feeder = c.crowd.new.feeder;
      members = with_items earlier.members c.crowd.new.members;
    } in
    let items : c.as_mut_slice.result.now ≡ earlier.members.items = c.as_mut_slice.ensures.value in
    let now : after.members.items ≡ c.crowd.new.members =
    with_items_is earlier.members c.crowd.new.members
    (omega (arith, c.crowd.auto.members, c.as_mut_slice.ensures.len)) in
    let ended = subst (λ ms. HaveEnded StandsFor (200 + c.args.records / 100) earlier.members.items ms) (sym now)
    (subst (λ ms. HaveEnded StandsFor (200 + c.args.records / 100) ms c.crowd.new.members)
    items c.in-Ok.ensures.members) in
    let same : length after.members.items ≡ length earlier.members.items = search rules in
    let slice : c.as_slice.result.now ≡ after.members.items = c.as_slice.ensures.value in
    err_so c.first_error.result (λ e. SomeFailed e c.as_slice.result.now) (λ e. e ≡ failed.Spent → AreFull after)
    (λ e some is. inr (inr
    (members_full StandsFor (200 + c.args.records / 100) e earlier.members.items after.members.items is same
    ended (subst (SomeFailed e) slice some))))
    c.first_error.ensures.err
