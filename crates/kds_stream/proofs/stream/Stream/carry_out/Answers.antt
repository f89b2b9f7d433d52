use Rattle.std.proofs.Common.{◌≡◌, ◌+◌, ◌++◌, ◌^◌, ◌<◌, List, length, map, false, refl, sym, ap, subst, ◌∙◌, arith}
use Rattle.std.specs.Prelude.{replicate}
use Rattle.std.specs.List.{filter}
use Rattle.kds_defs.specs.declared.entry.Entry.{Entry}
use Rattle.kds_defs.specs.declared.scale.ScaleStep.{ScaleStep}
use Rattle.kds_defs.specs.Scaling.{LeadTo, uniform_starts}
use Rattle.kds_defs.specs.Shards.{ShardState, is_open}
use Rattle.kds_log.specs.Log.{LogWithReserve, log_of}
use Rattle.kds_rate.specs.Windows.{WindowValue}
use Rattle.kds_stream.proofs.Insides.{shown_inside}
use Rattle.kds_stream.proofs.Puts.{led_along}
use Rattle.kds_stream.proofs.Scalings.{numbers_fit, open_so, scale_done, stream_scaled}
use Rattle.kds_stream.specs.Showing.{Shows}
use Rattle.kds_stream_logs.specs.Steps.{entries_in, scaled, starts_in}
use Rattle.kds_stream.specs.Steps.{IsPlan, scale_where}
use Rattle.kds_stream_logs.specs.Logs.{empty_log}
use Rattle.kds_stream.specs.Value.{StreamValue}
use Rattle.kds_stream.specs.contracts.stream.Stream.{the_view}
use Rattle.kds_stream.proofs.stream.Stream.carry_out.Goals as goal

pub invariant_of-self-2 : goal.invariant_of-self-2
invariant_of-self-2 c =
    let v : StreamValue = the_view c.self.inside in
    let steps : List ScaleStep = c.args.steps.now in
    let own = c.in_ok-reserve_shards.ensures in
    let plan : IsPlan v c.args.target steps =
    subst (λ (u : StreamValue). IsPlan u c.args.target steps) (sym c.self.view_is) c.requires.plan in
    let tree = c.take_steps.ensures.value
    ∙ ap (λ n. scaled steps n v.clock c.reserve_shards.new.tree.shards) c.first.view_is
    ∙ ap (λ (xs : List ShardState). scaled steps v.next v.clock xs) own.tree in
    let logs = c.add_shards.ensures.logs
    ∙ ap (λ (ls : List LogWithReserve). map log_of ls ++ replicate c.args.made empty_log) own.logs
    ∙ ap (λ n. v.logs ++ replicate n empty_log) c.requires.made in
    let more = c.add_shards.ensures.windows in
    let windows = more.are ∙ ap (λ (us : List WindowValue). us ++ more.more) own.windows in
    let many = more.count ∙ c.requires.made in
    let drawn : c.first-2.inside.0 + length steps ≡ v.next + length steps =
    ap (λ n. n + length steps) c.first-2.view_is in
    let leads = subst (λ (xs : List ShardState). LeadTo steps (starts_in xs) (uniform_starts c.args.target))
    (sym own.tree) plan.leads in
    let few = open_so c.take_steps.new.tree.shards c.args.target
    (c.take_steps.ensures.starts (uniform_starts c.args.target) leads) c.requires.target.1 in
    let fits : c.first-2.inside.0 + length steps < 2 ^ 64 =
    omega (arith, drawn, numbers_fit v.next (length v.tree) steps plan.unspent) in
    stream_scaled v steps c.take_steps.new.tree.shards _ _ more.more (c.first-2.inside.0 + length steps)
    tree few drawn fits logs windows more.unused many c.self.invariant

pub returns-clause-answered : goal.returns-clause-answered
returns-clause-answered c log actor shown =
    let v : StreamValue = the_view c.self.inside in
    let steps : List ScaleStep = c.args.steps.now in
    let own = c.in_ok-reserve_shards.ensures in
    let plan : IsPlan v c.args.target steps =
    subst (λ (u : StreamValue). IsPlan u c.args.target steps) (sym c.self.view_is) c.requires.plan in
    let tree = c.take_steps.ensures.value
    ∙ ap (λ n. scaled steps n v.clock c.reserve_shards.new.tree.shards) c.first.view_is
    ∙ ap (λ (xs : List ShardState). scaled steps v.next v.clock xs) own.tree in
    let logs = c.add_shards.ensures.logs
    ∙ ap (λ (ls : List LogWithReserve). map log_of ls ++ replicate c.args.made empty_log) own.logs
    ∙ ap (λ n. v.logs ++ replicate n empty_log) c.requires.made in
    let more = c.add_shards.ensures.windows in
    let windows = more.are ∙ ap (λ (us : List WindowValue). us ++ more.more) own.windows in
    let many = more.count ∙ c.requires.made in
    let drawn : c.first-2.inside.0 + length steps ≡ v.next + length steps =
    ap (λ n. n + length steps) c.first-2.view_is in
    let show : Shows v log = shown_inside log c.self.view_is shown in
    let counted : c.open_count-before.result ≡ length (filter is_open v.tree) =
    omega (
      arith,
      c.open_count-before.ensures,
      ap (λ (u : StreamValue). length (filter is_open u.tree)) c.self.view_is,
    ) in
    let is_told =
    c.from_vec.ensures
    ∙ c.take_steps.ensures.entries
    ∙ ap (λ (es : List Entry). es ++ entries_in v.no steps c.first.inside.0 v.clock c.reserve_shards.new.tree.shards)
    c.in_ok-entries.ensures.items
    ∙ ap (λ n. entries_in v.no steps n v.clock c.reserve_shards.new.tree.shards) c.first.view_is
    ∙ ap (λ (xs : List ShardState). entries_in v.no steps v.next v.clock xs) own.tree in
    let done = scale_done v log actor c.args.target show false steps more.more c.take_steps.new.tree.shards _ _
    (c.first-2.inside.0 + length steps) c.open_count-before.result c.in_ok-name.name c.from_vec.result
    refl plan.are plan.unspent tree logs windows more.unused many drawn counted c.in_ok-name.ensures is_told
    c.self.invariant.as_many c.self.invariant.rated.as_many in
    led_along (λ (u : StreamValue). scale_where false log u.clock actor u.name u.no c.args.target) v c.args.self.now _
    log
    _ c.self.view_is done
