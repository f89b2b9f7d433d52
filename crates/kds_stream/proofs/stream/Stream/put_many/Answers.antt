use Rattle.std.proofs.Common.{◌≡◌, ℕ, ◌^◌, ◌≤◌, ◌+◌, ◌++◌, List, length, map, take, drop, refl, sym, subst, ap, ◌∙◌}
use Rattle.std.proofs.Common.{arith}
use Rattle.std.specs.Prelude.{IfNone, IfSome}
use Rattle.std.specs.List.{AllByRecursion}
use Rattle.kds_defs.specs.Histories.{lines_of}
use Rattle.kds_defs.specs.Journal.{with_lines}
use Rattle.kds_defs.specs.PutCommands.{put_many}
use Rattle.kds_defs.specs.Rates.{SizedPut, puts}
use Rattle.kds_defs.specs.Streams.{floor_of}
use Rattle.kds_log.specs.Log.{LogValue, LogWithReserve, log_of}
use Rattle.kds_rate.specs.Windows.{WindowValue}
use Rattle.kds_stream.proofs.Insides.{shown_inside}
use Rattle.kds_stream.proofs.LogLemmas.{written_back}
use Rattle.kds_stream.proofs.Puts.{led_along}
use Rattle.kds_stream.proofs.Routings.{can_take, in_order, puts_done, puts_spent, shows_each, stream_each, stream_puts}
use Rattle.kds_stream.proofs.Routings.{stream_same, with_logs}
use Rattle.kds_stream_logs.specs.declared.routes.Routed.{Routed}
use Rattle.kds_stream_logs.specs.declared.routes.Routes.{Routes}
use Rattle.kds_stream_logs.specs.Rating.{StandFor}
use Rattle.kds_stream.specs.Rating.{AreRated}
use Rattle.kds_stream_logs.specs.Routes.{AreOfRecords, AreRouted, CanTake, routed_items, settled_each, taken, with_each}
use Rattle.kds_stream.specs.Showing.{Shows}
use Rattle.kds_stream.specs.Value.{IsStream, StreamValue}
use Rattle.kds_stream.specs.contracts.stream.Stream.{the_view}
use Rattle.kds_stream.proofs.stream.Stream.put_many.Goals as goal

pub returns-in_default-clause-answered : goal.returns-in_default-clause-answered
returns-in_default-clause-answered c log actor shown =
    let v : StreamValue = the_view c.self.inside in
    let shown' : Shows v log = shown_inside log c.self.view_is shown in
    let same = c.from_vec-items.ensures.items ∙ c.into_vec.ensures in
    let lent = c.deref_mut.ensures.value in
    let ws : List WindowValue = c.route_all.new.windows in
    let many : length ws ≡ c.self.inside.windows.len = omega arith in
    let past = subst (λ o. IfNone o ((f : ℕ → List SizedPut) → StandFor f 0 c.deref_mut.result.now
    → 2 ^ 64 ≤ c.seq.inside.0 + length (taken v.tree v.clock v.enforced f c.from_vec-items.result.items)))
    c.in_default.is c.in_ok-made.ensures.spent in
    let over = past (puts log v.no) (subst (StandFor (puts log v.no) 0) (sym lent) shown'.rates.stand) in
    let over' : 2 ^ 64 ≤ v.next + length (taken v.tree v.clock v.enforced (puts log v.no) c.args.items) =
    subst (λ n. 2 ^ 64 ≤ n + length (taken v.tree v.clock v.enforced (puts log v.no) c.args.items)) c.seq.view_is
    (subst (λ items. 2 ^ 64 ≤ c.seq.inside.0 + length (taken v.tree v.clock v.enforced (puts log v.no) items))
    same over) in
    let none = subst (λ o. IfNone o (ws ≡ c.deref_mut.result.now)) c.in_default.is c.in_ok-made.ensures.none in
    let done = puts_spent v log actor c.args.items shown' over' in
    led_along (λ (u : StreamValue). put_many log u.clock actor u.no c.args.items) v c.args.self.now _ log _
    c.self.view_is (
      done.0,
      subst (λ (us : List WindowValue).
          Shows (record v { windows = us }) (with_lines (lines_of (put_many log v.clock actor v.no c.args.items)) log))
          (sym (written_back c.self.inside.windows.len ws c.self.inside.windows.items many ∙ none ∙ lent)) done.1,
    )

pub put_all-requires-clause-each : goal.put_all-requires-clause-each
put_all-requires-clause-each c =
    let v : StreamValue = the_view c.self.inside in
    let placed = subst (λ o. IfSome o (λ (r : Routes). AreOfRecords v.tree v.clock c.seq.inside.0 r))
    c.in-Some.is c.in_ok-made.ensures.placed in
    let are = placed.are ∙ ap (λ n. routed_items v.tree v.clock n placed.items) c.seq.view_is in
    subst (λ (ls : List LogWithReserve). AllByRecursion (CanTake (map log_of ls)) c.in-Some.field-0.routed.items)
    (sym c.deref_mut-2.ensures.value)
    (can_take v placed.items c.in-Some.field-0.routed.items c.self.invariant are placed.within)

pub put_all-requires-clause-in_order : goal.put_all-requires-clause-in_order
put_all-requires-clause-in_order c =
    let v : StreamValue = the_view c.self.inside in
    let placed = subst (λ o. IfSome o (λ (r : Routes). AreOfRecords v.tree v.clock c.seq.inside.0 r))
    c.in-Some.is c.in_ok-made.ensures.placed in
    let are = placed.are ∙ ap (λ n. routed_items v.tree v.clock n placed.items) c.seq.view_is in
    in_order v placed.items c.in-Some.field-0.routed.items are

pub invariant_of-self-2 : goal.invariant_of-self-2
invariant_of-self-2 c =
    let v : StreamValue = the_view c.self.inside in
    let f = floor_of v.cut in
    let ps = c.as_slice.result.now in
    let next : ℕ = c.in-Some.field-0.next in
    let rs = c.in-Some.field-0.routed.items in
    let ws : List WindowValue = c.route_all.new.windows in
    let kept : List LogValue =
    map log_of (take c.self.inside.logs.len (c.put_all.new.logs
    ++ drop (length c.put_all.new.logs) c.self.inside.logs.items)) in
    let placed = subst (λ o. IfSome o (λ (r : Routes). AreOfRecords v.tree v.clock c.seq.inside.0 r))
    c.in-Some.is c.in_ok-made.ensures.placed in
    let are = placed.are ∙ ap (λ n. routed_items v.tree v.clock n placed.items) c.seq.view_is in
    let drawn : next ≡ v.next + length placed.items =
    placed.next_is ∙ ap (λ n. n + length placed.items) c.seq.view_is in
    let lent = c.deref_mut.ensures.value in
    let many : length ws ≡ c.self.inside.windows.len = omega arith in
    let rated : AreRated v.clock (length v.tree) ws =
    record {
      as_many = omega (arith, many, c.self.invariant.rated.as_many, ap (length {A = WindowValue}) lent);
      counted = c.in_ok-made.ensures.counted;
    } in
    let back =
    ap (map log_of) (written_back c.self.inside.logs.len c.put_all.new.logs c.self.inside.logs.items (omega arith))
    ∙ c.in_default-put_all.ensures.ok
    ∙ ap (λ (ls : List LogWithReserve). settled_each f ps (with_each rs (map log_of ls))) c.deref_mut-2.ensures.value
    ∙ ap (λ (qs : List Routed). settled_each f ps (with_each qs v.logs)) are in
    let stored = stream_same _ ws next refl rated
    (stream_puts placed.items v next drawn placed.fits c.self.invariant) in
    subst (λ (us : List WindowValue). IsStream (with_logs v kept us next))
    (sym (written_back c.self.inside.windows.len ws c.self.inside.windows.items many))
    (subst (λ (ls : List LogValue). IsStream (with_logs v ls ws next)) (sym back) (stream_each v ws next ps _ stored))

pub returns-clause-answered : goal.returns-clause-answered
returns-clause-answered c log actor shown =
    let v : StreamValue = the_view c.self.inside in
    let f = floor_of v.cut in
    let ps = c.as_slice.result.now in
    let r : Routes = c.in-Some.field-0 in
    let ws : List WindowValue = c.route_all.new.windows in
    let kept : List LogValue =
    map log_of (take c.self.inside.logs.len (c.put_all.new.logs
    ++ drop (length c.put_all.new.logs) c.self.inside.logs.items)) in
    let shown' : Shows v log = shown_inside log c.self.view_is shown in
    let placed = subst (λ o. IfSome o (λ (q : Routes). AreOfRecords v.tree v.clock c.seq.inside.0 q))
    c.in-Some.is c.in_ok-made.ensures.placed in
    let same = c.from_vec-items.ensures.items ∙ c.into_vec.ensures in
    let lent = c.deref_mut.ensures.value in
    let many : length ws ≡ c.self.inside.windows.len = omega arith in
    let routed = subst (λ o. IfSome o (λ (q : Routes). (g : ℕ → List SizedPut) → StandFor g 0 c.deref_mut.result.now
    → AreRouted v.tree v.clock v.enforced g c.seq.inside.0 c.from_vec-items.result.items q ws))
    c.in-Some.is c.in_ok-made.ensures.routed in
    let made : AreRouted v.tree v.clock v.enforced (puts log v.no) v.next c.args.items r ws =
    subst (λ n. AreRouted v.tree v.clock v.enforced (puts log v.no) n c.args.items r ws) c.seq.view_is
    (subst (λ items. AreRouted v.tree v.clock v.enforced (puts log v.no) c.seq.inside.0 items r ws) same
    (routed (puts log v.no) (subst (StandFor (puts log v.no) 0) (sym lent) shown'.rates.stand))) in
    let back =
    ap (map log_of) (written_back c.self.inside.logs.len c.put_all.new.logs c.self.inside.logs.items (omega arith))
    ∙ c.in_default-put_all.ensures.ok
    ∙ ap (λ (ls : List LogWithReserve). settled_each f ps (with_each r.routed.items (map log_of ls)))
    c.deref_mut-2.ensures.value in
    let after = with_lines (lines_of (put_many log v.clock actor v.no c.args.items)) log in
    let done = puts_done v log actor c.args.items shown' r _ ws placed.fits c.self.invariant.trims made placed.within
    refl in
    led_along (λ (u : StreamValue). put_many log u.clock actor u.no c.args.items) v c.args.self.now _ log _
    c.self.view_is (
      done.0,
      subst (λ (us : List WindowValue). Shows (with_logs v kept us r.next) after)
          (sym (written_back c.self.inside.windows.len ws c.self.inside.windows.items many))
          (subst (λ (ls : List LogValue). Shows (with_logs v ls ws r.next) after) (sym back)
          (shows_each v ws r.next after ps _ done.1)),
    )
