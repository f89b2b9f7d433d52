-- The decisions on SplitShard and MergeShards by the results of the code's tests.
use Rattle.std.proofs.Common.{◌≡◌, ◌≢◌, ℕ, ◌+◌, ◌^◌, ◌<◌, Bool, true, false, List, [], ◌∷◌, length, Option, Some, None}
use Rattle.std.proofs.Common.{refl, sym, ap, subst, ◌∙◌, arith}
use Rattle.std.specs.Prelude.{◌==◌, ◌&&◌, ◌||◌, not, nat_lt, is_some, slice_get, if◌then◌else◌}
use Rattle.std.proofs.lemmas.Bool.Decides.{nat_tests}
use Rattle.std.proofs.lemmas.Bool.{and_from, or_right, or_from}
use Rattle.std.proofs.lemmas.Option.{same_Some}
use Rattle.kds_base.specs.Span.{are_adjacent, is_inside}
use Rattle.kds_base.proofs.Facts.{is_other, is_equal}
use Rattle.kds_defs.proofs.Decisions.{passed_if, refused_if}
use Rattle.kds_defs.specs.declared.reply.Refusal.{Refusal}
use Rattle.kds_defs.specs.declared.reply.Refusal.TheVariants as refusal
use Rattle.kds_defs.specs.declared.reply.Reply.TheVariants as reply
use Rattle.kds_defs.specs.Decision.{Accepted, Decision, Refused, refuse◌if◌else◌}
use Rattle.kds_defs.specs.Journal.{Journal}
use Rattle.kds_defs.specs.Records.{next_number}
use Rattle.kds_defs.specs.Shards.{ShardState, is_listed, range_of, shard_at, shards}
use Rattle.kds_defs.specs.StreamCommands.{is_open_at, last_number, merge, split_where}
use Rattle.kds_defs.specs.Streams.{floor_of}
use Rattle.kds_stream.proofs.Listed.{listed_is, shard_is}
use Rattle.kds_stream.specs.Showing.{Shows, merge_line, split_line}
use Rattle.kds_stream.specs.Value.{StreamValue, is_listed_at}
use Rattle.kds_tree.specs.Tree.{merge_refusal, split_refusal}

-- ---- The tests of the shard tree and those of the decision

split_tests : (s a b : Bool) (r : Refusal) (rest : Decision) → s ≡ true
    → Some r ≡ (if not s then Some refusal.NoShard else if not a then Some refusal.ShardClosed else if not b then Some
    refusal.BadSplit else None)
    → (refuse refusal.ShardClosed if not a else refuse refusal.BadSplit if not b else rest) ≡ Refused r
unfolding refuse◌if◌else◌
split_tests false a b r rest made h = absurd cc
split_tests true false b r rest made h = ap Refused (sym (same_Some r refusal.ShardClosed h))
split_tests true true false r rest made h = ap Refused (sym (same_Some r refusal.BadSplit h))
split_tests true true true r rest made h = absurd cc

split_passes : (s a b : Bool) (rest : Decision)
    → None ≡ (if not s then Some refusal.NoShard else if not a then Some refusal.ShardClosed else if not b then Some
    refusal.BadSplit else None)
    → (refuse refusal.ShardClosed if not a else refuse refusal.BadSplit if not b else rest) ≡ rest
unfolding refuse◌if◌else◌
split_passes false a b rest h = absurd cc
split_passes true false b rest h = absurd cc
split_passes true true false rest h = absurd cc
split_passes true true true rest h = refl

merge_tests : (s a b : Bool) (r : Refusal) (rest : Decision) → s ≡ true
    → Some r ≡ (if not s then Some refusal.NoShard else if not a then Some refusal.ShardClosed else if not b then Some
    refusal.NotAdjacent else None)
    → (refuse refusal.ShardClosed if not a else refuse refusal.NotAdjacent if not b else rest) ≡ Refused r
unfolding refuse◌if◌else◌
merge_tests false a b r rest made h = absurd cc
merge_tests true false b r rest made h = ap Refused (sym (same_Some r refusal.ShardClosed h))
merge_tests true true false r rest made h = ap Refused (sym (same_Some r refusal.NotAdjacent h))
merge_tests true true true r rest made h = absurd cc

merge_passes : (s a b : Bool) (rest : Decision)
    → None ≡ (if not s then Some refusal.NoShard else if not a then Some refusal.ShardClosed else if not b then Some
    refusal.NotAdjacent else None)
    → (refuse refusal.ShardClosed if not a else refuse refusal.NotAdjacent if not b else rest) ≡ rest
unfolding refuse◌if◌else◌
merge_passes false a b rest h = absurd cc
merge_passes true false b rest h = absurd cc
merge_passes true true false rest h = absurd cc
merge_passes true true true rest h = refl

there : (floor : ℕ) (o : Option ShardState) → is_listed_at floor o ≡ true → is_some o ≡ true
there floor None h = absurd cc
there floor (Some x) h = refl

few : (n : ℕ) → n < 2 ^ 63 → nat_lt last_number (n + 1) ≡ false
few n h = grind (arith, nat_tests)

few_one : (n : ℕ) → n < 2 ^ 63 → nat_lt last_number n ≡ false
few_one n h = grind (arith, nat_tests)

-- ---- The decisions

module _ (v : StreamValue) (log : Journal) (actor : ℕ) (show : Shows v log) where
  spent_next : (a : Bool) → v.next ≡ last_number → (a || next_number log v.no == last_number) ≡ true
  spent_next a spent = or_right a (next_number log v.no == last_number)
      (is_equal (next_number log v.no) last_number (show.stored.next_is ∙ spent))

  free_next : (a : Bool) → a ≡ false → v.next ≢ last_number → (a || next_number log v.no == last_number) ≡ false
  free_next a is free =
      or_from a (next_number log v.no == last_number) is
      (is_other (next_number log v.no) last_number (λ e. free (sym show.stored.next_is ∙ e)))

  few_shards : length v.tree < 2 ^ 63 → length (shards log v.no) < 2 ^ 63
  few_shards h = subst (λ (xs : List ShardState). length xs < 2 ^ 63) (sym show.stored.shards_are) h

  module _ (full : Bool) (sh hash : ℕ) where
    split_rest : Decision
    split_rest =
        refuse refusal.Full if full else
        refuse refusal.Spent if nat_lt last_number (length (shards log v.no) + 1) || next_number log v.no
        == last_number else
        Accepted (split_line log v.clock actor v.no sh hash ∷ []) reply.Done

    pub split_unlisted : is_listed_at (floor_of v.cut) (slice_get v.tree sh) ≡ false
        → split_where full log v.clock actor v.no sh hash ≡ Refused refusal.NoShard
    split_unlisted h = refused_if _ _ _ (ap not (listed_is v log show sh ∙ h))

    split_listed : is_listed_at (floor_of v.cut) (slice_get v.tree sh) ≡ true
        → split_where full log v.clock actor v.no sh hash
        ≡ (refuse refusal.ShardClosed if not (is_open_at (slice_get v.tree sh)) else refuse refusal.BadSplit if not
        (is_inside (range_of (slice_get v.tree sh)) hash) else split_rest)
    unfolding split_rest
    split_listed h =
        passed_if _ _ _ (ap not (listed_is v log show sh ∙ h))
        ∙ ap (λ o. refuse refusal.ShardClosed if not (is_open_at o) else refuse refusal.BadSplit if not
        (is_inside (range_of o) hash) else split_rest) (shard_is v log show sh)

    pub split_refused : (r : Refusal) → is_listed_at (floor_of v.cut) (slice_get v.tree sh) ≡ true
        → Some r ≡ split_refusal v.tree sh hash → split_where full log v.clock actor v.no sh hash ≡ Refused r
    split_refused r listed h =
        split_listed listed ∙ split_tests (is_some (slice_get v.tree sh)) _ _ r split_rest
        (there (floor_of v.cut) (slice_get v.tree sh) listed) h

    pub split_full : is_listed_at (floor_of v.cut) (slice_get v.tree sh) ≡ true → None ≡ split_refusal v.tree sh hash
        → full ≡ true → split_where full log v.clock actor v.no sh hash ≡ Refused refusal.Full
    unfolding split_rest
    split_full listed h is =
        split_listed listed ∙ split_passes (is_some (slice_get v.tree sh)) _ _ split_rest h ∙ refused_if _ _ _ is

    pub split_spent : is_listed_at (floor_of v.cut) (slice_get v.tree sh) ≡ true → None ≡ split_refusal v.tree sh hash
        → full ≡ false → v.next ≡ last_number → split_where full log v.clock actor v.no sh hash ≡ Refused refusal.Spent
    unfolding split_rest
    split_spent listed h room spent =
        split_listed listed ∙ split_passes (is_some (slice_get v.tree sh)) _ _ split_rest h
        ∙ passed_if _ _ _ room
        ∙ refused_if _ _ _ (spent_next (nat_lt last_number (length (shards log v.no) + 1)) spent)

    pub split_accepted : is_listed_at (floor_of v.cut) (slice_get v.tree sh) ≡ true
        → None ≡ split_refusal v.tree sh hash
        → full ≡ false → v.next ≢ last_number → length v.tree < 2 ^ 63
        → split_where full log v.clock actor v.no sh hash
        ≡ Accepted (split_line log v.clock actor v.no sh hash ∷ []) reply.Done
    unfolding split_rest
    split_accepted listed h room free small =
        split_listed listed ∙ split_passes (is_some (slice_get v.tree sh)) _ _ split_rest h
        ∙ passed_if _ _ _ room
        ∙ passed_if _ _ _ (free_next (nat_lt last_number (length (shards log v.no) + 1))
        (few (length (shards log v.no)) (few_shards small)) free)

  module _ (sh other : ℕ) where
    merge_rest : Decision
    merge_rest =
        refuse refusal.Spent if nat_lt last_number (length (shards log v.no)) || next_number log v.no
        == last_number else
        Accepted (merge_line log v.clock actor v.no sh other ∷ []) reply.Done

    both_listed : (is_listed log v.clock v.no sh && is_listed log v.clock v.no other)
        ≡ (is_listed_at (floor_of v.cut) (slice_get v.tree sh)
        && is_listed_at (floor_of v.cut) (slice_get v.tree other))
    both_listed =
        ap (λ b. b && is_listed log v.clock v.no other) (listed_is v log show sh)
        ∙ ap (λ b. is_listed_at (floor_of v.cut) (slice_get v.tree sh) && b) (listed_is v log show other)

    pub merge_unlisted : (is_listed_at (floor_of v.cut) (slice_get v.tree sh)
        && is_listed_at (floor_of v.cut) (slice_get v.tree other)) ≡ false
        → merge log v.clock actor v.no sh other ≡ Refused refusal.NoShard
    merge_unlisted h = refused_if _ _ _ (ap not (both_listed ∙ h))

    merge_listed : is_listed_at (floor_of v.cut) (slice_get v.tree sh) ≡ true
        → is_listed_at (floor_of v.cut) (slice_get v.tree other) ≡ true
        → merge log v.clock actor v.no sh other
        ≡ (refuse refusal.ShardClosed if not (is_open_at (slice_get v.tree sh)
        && is_open_at (slice_get v.tree other)) else refuse refusal.NotAdjacent if not
        (are_adjacent (range_of (slice_get v.tree sh)) (range_of (slice_get v.tree other))) else merge_rest)
    unfolding merge_rest
    merge_listed h g =
        passed_if _ _ _ (ap not (both_listed ∙ and_from _ _ h g))
        ∙ ap (λ o. refuse refusal.ShardClosed if not (is_open_at o && is_open_at (shard_at log v.no other)) else refuse
        refusal.NotAdjacent if not (are_adjacent (range_of o) (range_of (shard_at log v.no other))) else
        merge_rest) (shard_is v log show sh)
        ∙ ap (λ o. refuse refusal.ShardClosed if not (is_open_at (slice_get v.tree sh) && is_open_at o) else refuse
        refusal.NotAdjacent if not (are_adjacent (range_of (slice_get v.tree sh)) (range_of o)) else merge_rest)
        (shard_is v log show other)

    made_both : is_listed_at (floor_of v.cut) (slice_get v.tree sh) ≡ true
        → is_listed_at (floor_of v.cut) (slice_get v.tree other) ≡ true
        → (is_some (slice_get v.tree sh) && is_some (slice_get v.tree other)) ≡ true
    made_both h g = and_from _ _ (there (floor_of v.cut) (slice_get v.tree sh) h)
        (there (floor_of v.cut) (slice_get v.tree other) g)

    pub merge_refused : (r : Refusal) → is_listed_at (floor_of v.cut) (slice_get v.tree sh) ≡ true
        → is_listed_at (floor_of v.cut) (slice_get v.tree other) ≡ true → Some r ≡ merge_refusal v.tree sh other
        → merge log v.clock actor v.no sh other ≡ Refused r
    merge_refused r h g is =
        merge_listed h g ∙ merge_tests (is_some (slice_get v.tree sh) && is_some (slice_get v.tree other))
        _ _ r merge_rest (made_both h g) is

    pub merge_spent : is_listed_at (floor_of v.cut) (slice_get v.tree sh) ≡ true
        → is_listed_at (floor_of v.cut) (slice_get v.tree other) ≡ true → None ≡ merge_refusal v.tree sh other
        → v.next ≡ last_number → merge log v.clock actor v.no sh other ≡ Refused refusal.Spent
    unfolding merge_rest
    merge_spent h g is spent =
        merge_listed h g ∙ merge_passes (is_some (slice_get v.tree sh) && is_some (slice_get v.tree other))
        _ _ merge_rest is
        ∙ refused_if _ _ _ (spent_next (nat_lt last_number (length (shards log v.no))) spent)

    pub merge_accepted : is_listed_at (floor_of v.cut) (slice_get v.tree sh) ≡ true
        → is_listed_at (floor_of v.cut) (slice_get v.tree other) ≡ true → None ≡ merge_refusal v.tree sh other
        → v.next ≢ last_number → length v.tree < 2 ^ 63
        → merge log v.clock actor v.no sh other ≡ Accepted (merge_line log v.clock actor v.no sh other ∷ []) reply.Done
    unfolding merge_rest
    merge_accepted h g is free small =
        merge_listed h g ∙ merge_passes (is_some (slice_get v.tree sh) && is_some (slice_get v.tree other))
        _ _ merge_rest is
        ∙ passed_if _ _ _ (free_next (nat_lt last_number (length (shards log v.no)))
        (few_one (length (shards log v.no)) (few_shards small)) free)
