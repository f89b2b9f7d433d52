use Rattle.std.proofs.Common.{◌≡◌, ◌≢◌, ◌+◌, ◌<◌, ℕ, false, length, sym, ap, subst, ◌∙◌, refl, arith, map, List, take}
use Rattle.std.proofs.Common.{drop, ◌++◌}
use Rattle.std.specs.List.{filter}
use Rattle.std.proofs.lemmas.Option.{slice_get_within}
use Rattle.kds_defs.specs.Histories.{lines_of}
use Rattle.kds_defs.specs.Journal.{with_lines}
use Rattle.kds_defs.specs.PutCommands.{is_held_back, put}
use Rattle.kds_defs.specs.Rates.{SizedPut, puts}
use Rattle.kds_defs.specs.Shards.{home_among, is_open}
use Rattle.kds_defs.specs.StreamCommands.{last_number}
use Rattle.kds_defs.specs.Streams.{floor_of}
use Rattle.kds_log.specs.Log.{LogValue, LogWithReserve, log_of}
use Rattle.kds_rate.specs.Windows.{WindowValue}
use Rattle.kds_stream.proofs.Insides.{shown_inside}
use Rattle.kds_stream.proofs.Clocks.{settled_stream, shows_settled}
use Rattle.kds_stream_logs.proofs.LogLemmas.{as_many_logs}
use Rattle.kds_stream.proofs.LogLemmas.{put_back, written_back}
use Rattle.kds_stream.proofs.Puts.{held_is, led_along, put_done, put_of, put_record, put_spent, put_throttled}
use Rattle.kds_stream.proofs.Puts.{stream_put}
use Rattle.kds_stream.proofs.Routings.{with_logs}
use Rattle.kds_stream_logs.specs.Rating.{StandFor, with_put}
use Rattle.kds_stream.specs.Rating.{AreRated}
use Rattle.kds_stream.specs.Showing.{Shows}
use Rattle.kds_stream.specs.Value.{IsStream, StreamValue}
use Rattle.kds_stream.specs.contracts.stream.Stream.{the_view}
use Rattle.kds_stream.proofs.stream.Stream.put.Goals as goal

pub holds_back-requires : goal.holds_back-requires
holds_back-requires c =
    subst (λ (u : StreamValue). c.home-shard.result < length u.tree) c.self.view_is
    (slice_get_within c.self.inside.tree.shards c.home-shard.result c.home-shard.ensures.found.state
    c.home-shard.ensures.found.made)

pub returns-then-holds_back-clause-answered : goal.returns-then-holds_back-clause-answered
returns-then-holds_back-clause-answered c log actor shown =
    let v : StreamValue = c.args.self.now in
    let is_at = c.home-shard.ensures.value
    ∙ ap (λ (u : StreamValue). home_among (filter is_open u.tree) c.args.item.hash) c.self.view_is in
    let held =
    held_is log v.clock v.no v.tree c.args.item v.enforced c.home-shard.result c.item_bytes-bytes.result
    (puts log v.no c.home-shard.result) shown.stored.shards_are shown.rates.enforced_is is_at c.item_bytes-bytes.ensures
    refl
    ∙ sym (c.holds_back.ensures (puts log v.no) shown.rates.stand) ∙ c.if-holds_back.true in
    put_throttled v log actor c.args.item shown c.home-shard.result is_at held

pub returns-then-seq-clause-answered : goal.returns-then-seq-clause-answered
returns-then-seq-clause-answered c log actor shown =
    let v : StreamValue = c.args.self.now in
    let is_at = c.home-shard.ensures.value
    ∙ ap (λ (u : StreamValue). home_among (filter is_open u.tree) c.args.item.hash) c.self.view_is in
    let held =
    held_is log v.clock v.no v.tree c.args.item v.enforced c.home-shard.result c.item_bytes-bytes.result
    (puts log v.no c.home-shard.result) shown.stored.shards_are shown.rates.enforced_is is_at c.item_bytes-bytes.ensures
    refl
    ∙ sym (c.holds_back.ensures (puts log v.no) shown.rates.stand) ∙ c.if-holds_back.false in
    put_spent v log actor c.args.item shown held (sym (ap (λ (u : StreamValue). u.next) c.self.view_is)
    ∙ sym c.seq.view_is
    ∙ c.if-seq.true)

pub put_at-requires-clause-within : goal.put_at-requires-clause-within
put_at-requires-clause-within c =
    let inside = slice_get_within c.self.inside.tree.shards c.home-shard.result c.home-shard.ensures.found.state
    c.home-shard.ensures.found.made in
    omega (
      arith,
      inside,
      c.shard.view_is,
      c.self.invariant.as_many,
      ap (length {A = LogWithReserve}) c.deref_mut.ensures.value,
      as_many_logs c.self.inside.logs.items,
    )

pub invariant_of-self-2 : goal.invariant_of-self-2
invariant_of-self-2 c =
    let v : StreamValue = the_view c.self.inside in
    let free : v.next ≢ last_number = λ e. c.if-seq.false (c.seq.view_is ∙ e) in
    let sh = c.home-shard.result in
    let next : ℕ = c.seq-2.inside.0 + 1 in
    let ws : List WindowValue = c.count_at.new.windows in
    let kept : List LogValue =
    map log_of (take c.self.inside.logs.len (c.put_at.new.logs
    ++ drop (length c.put_at.new.logs) c.self.inside.logs.items)) in
    let back = put_back _ sh _ (floor_of v.cut) _ c.put_at.new.logs _ _ (omega arith) c.in_ok-put_at.ensures.ok
    c.deref_mut.ensures.value c.shard.view_is in
    let many : length ws ≡ c.self.inside.windows.len = omega arith in
    let rated : AreRated v.clock (length v.tree) ws =
    record {
      as_many = omega (arith, many, c.self.invariant.rated.as_many);
      counted = c.count_at.ensures.counted;
    } in
    let stored = stream_put v sh next (put_record v c.args.item) _ ws (ap (λ n. n + 1) c.seq-2.view_is)
    free refl refl refl rated c.self.invariant in
    subst (λ (us : List WindowValue). IsStream (with_logs v kept us next))
    (sym (written_back c.self.inside.windows.len ws c.self.inside.windows.items many))
    (subst (λ (ls : List LogValue). IsStream (with_logs v ls ws next)) (sym back)
    (settled_stream _ sh v.next_to_settle stored))

pub returns-clause-answered : goal.returns-clause-answered
returns-clause-answered c log actor shown =
    let v : StreamValue = the_view c.self.inside in
    let inside = slice_get_within c.self.inside.tree.shards c.home-shard.result c.home-shard.ensures.found.state
    c.home-shard.ensures.found.made in
    let more : v.next ≢ last_number = λ e. c.if-seq.false (c.seq.view_is ∙ e) in
    let shown' : Shows v log = shown_inside log c.self.view_is shown in
    let sh = c.home-shard.result in
    let next : ℕ = c.seq-2.inside.0 + 1 in
    let ws : List WindowValue = c.count_at.new.windows in
    let kept : List LogValue =
    map log_of (take c.self.inside.logs.len (c.put_at.new.logs
    ++ drop (length c.put_at.new.logs) c.self.inside.logs.items)) in
    let back = put_back _ sh _ (floor_of v.cut) _ c.put_at.new.logs _ _ (omega arith) c.in_ok-put_at.ensures.ok
    c.deref_mut.ensures.value c.shard.view_is in
    let many : length ws ≡ c.self.inside.windows.len = omega arith in
    let is_at = c.home-shard.ensures.value
    ∙ ap (λ (u : StreamValue). home_among (filter is_open u.tree) c.args.item.hash) c.self.view_is in
    let now : StreamValue = c.args.self.now in
    let held_now =
    held_is log now.clock now.no now.tree c.args.item now.enforced sh c.item_bytes-bytes.result
    (puts log now.no sh) shown.stored.shards_are shown.rates.enforced_is is_at c.item_bytes-bytes.ensures refl
    ∙ sym (c.holds_back.ensures (puts log now.no) shown.rates.stand) ∙ c.if-holds_back.false in
    let held : is_held_back log v.clock v.no c.args.item ≡ false =
    subst (λ (u : StreamValue). is_held_back log u.clock u.no c.args.item ≡ false) (sym c.self.view_is) held_now in
    let lent : StandFor (puts log v.no) 0 c.deref_mut-2.result.now =
    subst (StandFor (puts log v.no) 0) (sym c.deref_mut-2.ensures.value) shown'.rates.stand in
    let stand : StandFor (with_put sh (put_of v c.args.item) (puts log v.no)) 0 ws =
    subst (λ n. let p : SizedPut = record { clock = v.clock; bytes = n } in
    StandFor (with_put sh p (puts log v.no)) 0 ws) c.item_bytes-bytes.ensures
    (subst (λ i. let p : SizedPut = record { clock = v.clock; bytes = c.item_bytes-bytes.result } in
    StandFor (with_put i p (puts log v.no)) 0 ws) c.shard.view_is
    (c.count_at.ensures.stand (puts log v.no) lent)) in
    let done =
    put_done v log actor c.args.item shown'.stored sh next _ ws held
    (ap (λ n. n + 1) c.seq-2.view_is) more c.home-shard.ensures.value inside c.self.invariant.trims refl shown'.rates
    stand in
    let after = with_lines (lines_of (put log v.clock actor v.no c.args.item)) log in
    let settled = subst (λ (us : List WindowValue). Shows (with_logs v kept us next) after)
    (sym (written_back c.self.inside.windows.len ws c.self.inside.windows.items many))
    (subst (λ (ls : List LogValue). Shows (with_logs v ls ws next) after) (sym back)
    (shows_settled _ sh v.clock v.cut v.next_to_settle after done.1)) in
    led_along (λ (u : StreamValue). put log u.clock actor u.no c.args.item) v c.args.self.now _ log _ c.self.view_is
    (done.0, settled)
