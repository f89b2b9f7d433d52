use Rattle.std.proofs.Common.{◌≡◌, ◌≢◌, ◌∷◌, [], ◌^◌, ◌<◌, true, length, sym, subst, ◌∙◌, arith}
use Rattle.std.specs.Prelude.{slice_get}
use Rattle.std.proofs.lemmas.Bool.{and_left, and_right}
use Rattle.kds_defs.specs.declared.reply.Refusal.TheVariants as refusal
use Rattle.kds_defs.specs.declared.reply.Reply.TheVariants as reply
use Rattle.kds_defs.specs.Decision.{Accepted, Refused}
use Rattle.kds_defs.specs.StreamCommands.{last_number, merge}
use Rattle.kds_defs.specs.Streams.{floor_of}
use Rattle.kds_stream.proofs.Insides.{shown_inside}
use Rattle.kds_stream.proofs.Reshards.{merge_accepted, merge_refused, merge_spent, merge_unlisted}
use Rattle.kds_stream.specs.Showing.{merge_line}
use Rattle.kds_stream.specs.Value.{StreamValue, is_listed_at}
use Rattle.kds_stream.specs.contracts.stream.Stream.{the_view}
use Rattle.kds_stream.proofs.stream.Stream.merge_refusal.Goals as goal
use Rattle.kds_stream_logs.proofs.LogLemmas.{as_many_logs}
use Rattle.kds_stream.proofs.stream.Stream.merge_refusal.Goals.{then-not-is_listed-via-then-not-is_listed}
use Rattle.kds_stream.proofs.stream.Stream.merge_refusal.Goals.{then-not-is_listed-via-else-not-is_listed+then-not-is_listed-2}

pub returns-then-not-is_listed-clause-decided : goal.returns-then-not-is_listed-clause-decided
returns-then-not-is_listed-clause-decided c log actor show =
    let first = is_listed_at (floor_of c.args.self.now.cut) (slice_get c.args.self.now.tree c.args.shard) in
    let second = is_listed_at (floor_of c.args.self.now.cut) (slice_get c.args.self.now.tree c.args.other) in
    merge_unlisted c.args.self.now log actor show c.args.shard c.args.other
    (elim c.then-not-is_listed.branch [
      | then-not-is_listed-via-then-not-is_listed w ↦ and_left first second (sym w.if-not-is_listed.ensures)
      | then-not-is_listed-via-else-not-is_listed+then-not-is_listed-2 w ↦
          and_right first second (sym w.if-not-is_listed-2.ensures)
    ])

pub returns-in-Some-clause-decided : goal.returns-in-Some-clause-decided
returns-in-Some-clause-decided c log actor show =
    let v : StreamValue = the_view c.self.inside in
    let show' = shown_inside log c.self.view_is show in
    let listed = subst (λ (u : StreamValue). is_listed_at (floor_of u.cut) (slice_get u.tree c.args.shard) ≡ true)
    (sym c.self.view_is) (sym c.if-not-is_listed.ensures) in
    let other_listed = subst (λ (u : StreamValue). is_listed_at (floor_of u.cut) (slice_get u.tree c.args.other) ≡ true)
    (sym c.self.view_is) (sym c.if-not-is_listed-2.ensures) in
    subst (λ (u : StreamValue). merge log u.clock actor u.no c.args.shard c.args.other ≡ Refused c.in-Some.refusal)
    c.self.view_is
    (merge_refused v log actor show' c.args.shard c.args.other c.in-Some.refusal listed other_listed c.in-Some.ensures)

pub returns-then-next-clause-decided : goal.returns-then-next-clause-decided
returns-then-next-clause-decided c log actor show =
    let v : StreamValue = the_view c.self.inside in
    let show' = shown_inside log c.self.view_is show in
    let listed = subst (λ (u : StreamValue). is_listed_at (floor_of u.cut) (slice_get u.tree c.args.shard) ≡ true)
    (sym c.self.view_is) (sym c.if-not-is_listed.ensures) in
    let other_listed = subst (λ (u : StreamValue). is_listed_at (floor_of u.cut) (slice_get u.tree c.args.other) ≡ true)
    (sym c.self.view_is) (sym c.if-not-is_listed-2.ensures) in
    let passes = sym c.in_default.is ∙ c.merge_refusal.ensures in
    subst (λ (u : StreamValue). merge log u.clock actor u.no c.args.shard c.args.other ≡ Refused refusal.Spent)
    c.self.view_is
    (merge_spent v log actor show' c.args.shard c.args.other listed other_listed passes (sym c.next.view_is
    ∙ c.if-next.true))

pub returns-clause-decided : goal.returns-clause-decided
returns-clause-decided c log actor show =
    let v : StreamValue = the_view c.self.inside in
    let show' = shown_inside log c.self.view_is show in
    let listed = subst (λ (u : StreamValue). is_listed_at (floor_of u.cut) (slice_get u.tree c.args.shard) ≡ true)
    (sym c.self.view_is) (sym c.if-not-is_listed.ensures) in
    let other_listed = subst (λ (u : StreamValue). is_listed_at (floor_of u.cut) (slice_get u.tree c.args.other) ≡ true)
    (sym c.self.view_is) (sym c.if-not-is_listed-2.ensures) in
    let passes = sym c.in_default.is ∙ c.merge_refusal.ensures in
    let free : v.next ≢ last_number = λ e. c.if-next.false (c.next.view_is ∙ e) in
    let small : length v.tree < 2 ^ 63 =
    omega (
      arith,
      c.self.invariant.as_many,
      c.self.inside.logs.ok.0,
      c.self.inside.logs.ok.1,
      c.self.inside.logs.small,
      as_many_logs c.self.inside.logs.items,
    ) in
    subst (λ (u : StreamValue). merge log u.clock actor u.no c.args.shard c.args.other
    ≡ Accepted (merge_line log u.clock actor u.no c.args.shard c.args.other ∷ []) reply.Done) c.self.view_is
    (merge_accepted v log actor show' c.args.shard c.args.other listed other_listed passes free small)
