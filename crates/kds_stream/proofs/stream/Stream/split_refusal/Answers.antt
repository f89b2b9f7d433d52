use Rattle.std.proofs.Common.{◌≡◌, ◌≢◌, ◌∷◌, [], ◌^◌, ◌<◌, true, length, sym, ap, subst, ◌∙◌, arith}
use Rattle.std.specs.Prelude.{slice_get}
use Rattle.kds_defs.specs.declared.reply.Refusal.TheVariants as refusal
use Rattle.kds_defs.specs.declared.reply.Reply.TheVariants as reply
use Rattle.kds_defs.specs.Decision.{Accepted, Refused}
use Rattle.kds_defs.specs.StreamCommands.{last_number, split_where}
use Rattle.kds_defs.specs.Streams.{floor_of}
use Rattle.kds_stream.proofs.Insides.{shown_inside}
use Rattle.kds_stream.proofs.Reshards.{split_accepted, split_full, split_refused, split_spent, split_unlisted}
use Rattle.kds_stream.specs.Showing.{is_full, split_line}
use Rattle.kds_stream.specs.Value.{StreamValue, is_listed_at}
use Rattle.kds_stream.specs.contracts.stream.Stream.{the_view}
use Rattle.kds_stream_logs.proofs.LogLemmas.{as_many_logs}
use Rattle.kds_stream.proofs.stream.Stream.split_refusal.Goals as goal

pub returns-then-not-is_listed-clause-decided : goal.returns-then-not-is_listed-clause-decided
returns-then-not-is_listed-clause-decided c log actor show =
    split_unlisted c.args.self.now log actor show (is_full c.args.self.now c.args.open_limit) c.args.shard c.args.at
    (sym c.if-not-is_listed.ensures)

pub returns-in-Some-clause-decided : goal.returns-in-Some-clause-decided
returns-in-Some-clause-decided c log actor show =
    let v : StreamValue = the_view c.self.inside in
    let show' = shown_inside log c.self.view_is show in
    let listed = subst (λ (u : StreamValue). is_listed_at (floor_of u.cut) (slice_get u.tree c.args.shard) ≡ true)
    (sym c.self.view_is) (sym c.if-not-is_listed.ensures) in
    subst (λ (u : StreamValue). split_where (is_full u c.args.open_limit) log u.clock actor u.no c.args.shard c.args.at
    ≡ Refused c.in-Some.refusal) c.self.view_is
    (split_refused v log actor show' (is_full v c.args.open_limit) c.args.shard c.args.at c.in-Some.refusal listed
    c.in-Some.ensures)

pub returns-then-is_full-clause-decided : goal.returns-then-is_full-clause-decided
returns-then-is_full-clause-decided c log actor show =
    let v : StreamValue = the_view c.self.inside in
    let show' = shown_inside log c.self.view_is show in
    let listed = subst (λ (u : StreamValue). is_listed_at (floor_of u.cut) (slice_get u.tree c.args.shard) ≡ true)
    (sym c.self.view_is) (sym c.if-not-is_listed.ensures) in
    let passes = sym c.in_default.is ∙ c.split_refusal.ensures in
    subst (λ (u : StreamValue). split_where (is_full u c.args.open_limit) log u.clock actor u.no c.args.shard c.args.at
    ≡ Refused refusal.Full) c.self.view_is
    (split_full v log actor show' (is_full v c.args.open_limit) c.args.shard c.args.at listed passes
    (ap (λ (u : StreamValue). is_full u c.args.open_limit) c.self.view_is ∙ sym c.is_full.ensures ∙ c.if-is_full.true))

pub returns-then-next-clause-decided : goal.returns-then-next-clause-decided
returns-then-next-clause-decided c log actor show =
    let v : StreamValue = the_view c.self.inside in
    let show' = shown_inside log c.self.view_is show in
    let listed = subst (λ (u : StreamValue). is_listed_at (floor_of u.cut) (slice_get u.tree c.args.shard) ≡ true)
    (sym c.self.view_is) (sym c.if-not-is_listed.ensures) in
    let passes = sym c.in_default.is ∙ c.split_refusal.ensures in
    subst (λ (u : StreamValue). split_where (is_full u c.args.open_limit) log u.clock actor u.no c.args.shard c.args.at
    ≡ Refused refusal.Spent) c.self.view_is
    (split_spent v log actor show' (is_full v c.args.open_limit) c.args.shard c.args.at listed passes
    (ap (λ (u : StreamValue). is_full u c.args.open_limit) c.self.view_is ∙ sym c.is_full.ensures ∙ c.if-is_full.false)
    (sym c.next.view_is ∙ c.if-next.true))

pub returns-clause-decided : goal.returns-clause-decided
returns-clause-decided c log actor show =
    let v : StreamValue = the_view c.self.inside in
    let show' = shown_inside log c.self.view_is show in
    let listed = subst (λ (u : StreamValue). is_listed_at (floor_of u.cut) (slice_get u.tree c.args.shard) ≡ true)
    (sym c.self.view_is) (sym c.if-not-is_listed.ensures) in
    let passes = sym c.in_default.is ∙ c.split_refusal.ensures in
    let free : v.next ≢ last_number = λ e. c.if-next.false (c.next.view_is ∙ e) in
    let small : length v.tree < 2 ^ 63 =
    omega (
      arith,
      c.self.invariant.as_many,
      c.self.inside.logs.ok.0,
      c.self.inside.logs.ok.1,
      c.self.inside.logs.small,
      as_many_logs c.self.inside.logs.items,
    ) in
    subst (λ (u : StreamValue). split_where (is_full u c.args.open_limit) log u.clock actor u.no c.args.shard c.args.at
    ≡ Accepted (split_line log u.clock actor u.no c.args.shard c.args.at ∷ []) reply.Done) c.self.view_is
    (split_accepted v log actor show' (is_full v c.args.open_limit) c.args.shard c.args.at listed passes
    (ap (λ (u : StreamValue). is_full u c.args.open_limit) c.self.view_is ∙ sym c.is_full.ensures ∙ c.if-is_full.false)
    free small)
