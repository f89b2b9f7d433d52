-- In a legal journal, the ranges of each stream's open shards partition the hash keys.
use Rattle.std.proofs.Common.{◌≡◌, ℕ, Bool, true, false, List, [], ◌∷◌, ◌++◌, Option, Some, None, refl, subst, ◌∙◌}
use Rattle.std.specs.Prelude.{◌==◌, ◌||◌, slice_get, if◌then◌else◌}
use Rattle.std.proofs.lemmas.Bool.{and_parts}
use Rattle.kds_defs.specs.declared.entry.Entry.{Entry}
use Rattle.kds_defs.specs.declared.entry.Entry.TheVariants as entry
use Rattle.kds_defs.specs.declared.reply.Reply.{Reply}
use Rattle.kds_defs.specs.Decision.{Accepted}
use Rattle.kds_defs.specs.Journal.{Line, Journal}
use Rattle.kds_defs.specs.Legal.{told, IsLegal, IsInRange}
use Rattle.kds_defs.specs.Records.{next_number}
use Rattle.kds_defs.specs.Safe.{HasPartitions}
use Rattle.kds_base.specs.Span.{is_inside, are_adjacent, lower_part, upper_part, joined}
use Rattle.kds_base.proofs.Facts.{equal_so}
use Rattle.kds_defs.specs.Shards.{ShardState, Closing, shards, shards_after, new_shard, with_closed, range_of, shard_at}
use Rattle.kds_defs.specs.StreamCommands.{is_open_at}
use Rattle.kds_defs.specs.Streams.{was_made, was_made_after}
use Rattle.kds_defs.specs.Tiled.{IsTiled}
use Rattle.kds_defs.proofs.Decisions.{passes, holds_so}
use Rattle.kds_defs.proofs.Tiles.{same_times, tiled_new, tiled_split, tiled_merge}

split_there : (xs : List ShardState) (sh n m hash start : ℕ) (closing : Closing) (p q : Option ℕ)
    (o : Option ShardState)
    → slice_get xs sh ≡ o → is_open_at o ≡ true → is_inside (range_of o) hash ≡ true → IsTiled xs
    → IsTiled (with_closed sh closing xs
    ++ (new_shard n (lower_part (range_of o) hash) p q start ∷ new_shard m (upper_part (range_of o) hash) p q start
    ∷ []))
split_there xs sh n m hash start closing p q None is open_now inside tiled = absurd cc
split_there xs sh n m hash start closing p q (Some x) is open_now inside tiled =
    tiled_split xs sh n m hash start closing p q x is open_now inside tiled

merge_there : (xs : List ShardState) (sh other n start : ℕ) (closing : Closing) (p q : Option ℕ)
    (o o' : Option ShardState) → slice_get xs sh ≡ o → slice_get xs other ≡ o' → is_open_at o ≡ true
    → is_open_at o' ≡ true → are_adjacent (range_of o) (range_of o') ≡ true → IsTiled xs
    → IsTiled (with_closed other closing (with_closed sh closing xs)
    ++ (new_shard n (joined (range_of o) (range_of o')) p q start ∷ []))
merge_there xs sh other n start closing p q None o' is is' open_x open_y touch tiled = absurd cc
merge_there xs sh other n start closing p q (Some x) None is is' open_x open_y touch tiled = absurd cc
merge_there xs sh other n start closing p q (Some x) (Some y) is is' open_x open_y touch tiled =
    tiled_merge xs sh other n start closing p q x y is is' open_x open_y touch tiled

chosen : (b : Bool) (xs ys : List ShardState) → (b ≡ true → IsTiled xs) → (b ≡ false → IsTiled ys)
    → IsTiled (if b then xs else ys)
chosen true xs ys h g = h refl
chosen false xs ys h g = g refl

or_else : (b d : Bool) → (b || d) ≡ true → b ≡ false → d ≡ true
or_else true d h f = absurd cc
or_else false d h f = h

tiled_after : (log : Journal) (line : Line) (e : Entry) (reply : Reply) → IsInRange e
    → told log line e ≡ Accepted (line ∷ []) reply
    → (s start : ℕ) → (was_made log s ≡ true → IsTiled (shards log s)) → was_made_after e s (was_made log s) ≡ true
    → IsTiled (shards_after line e s start (shards log s))
tiled_after log line (entry.Made stream name count) reply range h s start is_before made =
    chosen (stream == s) _ _ (λ same. tiled_new count start range.0 range.1)
    (λ other. is_before (or_else (stream == s) _ made other))
tiled_after log line (entry.Split stream sh hash number low high) reply range h s start is_before made =
    let a = passes _ _ _ _ reply h in
    let b = passes _ _ _ _ reply a.1 in
    let d = passes _ _ _ _ reply b.1 in
    let e = passes _ _ _ _ reply d.1 in
    chosen (stream == s) _ _
    (λ same.
    let target = equal_so stream s same in
    split_there (shards log s) sh _ _ hash start _ _ _ _ refl
    (subst (λ k. is_open_at (shard_at log k sh) ≡ true) target (holds_so _ d.0))
    (subst (λ k. is_inside (range_of (shard_at log k sh)) hash ≡ true) target (holds_so _ e.0))
    (is_before made))
    (λ other. is_before made)
tiled_after log line (entry.Merged stream sh other number child) reply range h s start is_before made =
    let a = passes _ _ _ _ reply h in
    let b = passes _ _ _ _ reply a.1 in
    let d = passes _ _ _ _ reply b.1 in
    let e = passes _ _ _ _ reply d.1 in
    let opens = and_parts _ _ (holds_so _ d.0) in
    chosen (stream == s) _ _
    (λ same.
    let target = equal_so stream s same in
    merge_there (shards log s) sh other _ start _ _ _ _ _ refl refl
    (subst (λ k. is_open_at (shard_at log k sh) ≡ true) target opens.0)
    (subst (λ k. is_open_at (shard_at log k other) ≡ true) target opens.1)
    (subst (λ k. are_adjacent (range_of (shard_at log k sh)) (range_of (shard_at log k other)) ≡ true) target
    (holds_so _ e.0))
    (is_before made))
    (λ other. is_before made)
tiled_after log line _ reply range h s start is_before made = is_before made

pub tiled : (log : Journal) → IsLegal log → (s : ℕ) → was_made log s ≡ true → IsTiled (shards log s)
tiled [] legal s made = absurd cc
tiled (line ∷ log) legal s made =
    tiled_after log line line.what legal.0.reply legal.0.in_range legal.0.allowed s (next_number (line ∷ log) s)
    (tiled log legal.1 s) made

pub partitions : (log : Journal) → IsLegal log → HasPartitions log
partitions log legal s made k below = same_times (shards log s) k ∙ (tiled log legal s made).times k below
