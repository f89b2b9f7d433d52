-- In a legal journal, the parents of each shard are closed shards with smaller numbers.
use Rattle.std.proofs.Common.{◌≡◌, ℕ, zero, suc, ◌+◌, ◌<◌, Bool, true, false, List, [], ◌∷◌, ◌++◌, length, Option, Some}
use Rattle.std.proofs.Common.{None, refl, subst, arith}
use Rattle.std.specs.Prelude.{◌==◌, slice_get, if◌then◌else◌}
use Rattle.std.specs.List.{AllByRecursion}
use Rattle.std.proofs.lemmas.Bool.{and_parts}
use Rattle.kds_base.specs.Span.{Span, joined, lower_part, upper_part, uniform}
use Rattle.kds_base.proofs.Facts.{all_append, all_weaker, equal_so}
use Rattle.kds_defs.specs.declared.entry.Entry.{Entry}
use Rattle.kds_defs.specs.declared.entry.Entry.TheVariants as entry
use Rattle.kds_defs.specs.declared.reply.Reply.{Reply}
use Rattle.kds_defs.specs.Decision.{Accepted}
use Rattle.kds_defs.specs.Journal.{Line, Journal}
use Rattle.kds_defs.specs.Legal.{IsLegal, told}
use Rattle.kds_defs.specs.Listings.{is_closed_at}
use Rattle.kds_defs.specs.Records.{next_number}
use Rattle.kds_defs.specs.Shards.{Closing, ShardState, first_shards, merged_shards, new_shard, range_of, shard_at}
use Rattle.kds_defs.specs.Shards.{shards, shards_after, split_shards, with_closed}
use Rattle.kds_defs.specs.StreamCommands.{is_open_at}
use Rattle.kds_defs.proofs.Decisions.{passes, holds_so}
use Rattle.kds_defs.proofs.Numbers.{length-closed}
use Rattle.kcl_drill_laws.specs.Parents.{AreParentsClosed, IsParentClosed}
use Rattle.kcl_laws.proofs.Trims.{closed_closed, closed_append}
use Rattle.kcl_laws.proofs.LineageLemmas.{open_within}

-- ---- A closed shard stays closed

closed_now : (n : ℕ) (closing : Closing) (xs : List ShardState) → n < length xs
    → is_closed_at (slice_get (with_closed n closing xs) n) ≡ true
closed_now n closing [] below = absurd (omega arith)
closed_now zero closing (x ∷ xs) below = refl
closed_now (suc n) closing (x ∷ xs) below = closed_now n closing xs (omega arith)

-- ---- The shards of a stream

parent_in : (xs ys : List ShardState) (n : ℕ) (o : Option ℕ)
    → ((p : ℕ) → is_closed_at (slice_get xs p) ≡ true → is_closed_at (slice_get ys p) ≡ true) → IsParentClosed xs n o
    → IsParentClosed ys n o
parent_in xs ys n None keeps is = tt
parent_in xs ys n (Some p) keeps is = (is.0, keeps p is.1)

-- The parents of the shard, if any, are closed shards of `all` with smaller numbers.
abbrev IsIn : List ShardState → ShardState → Type 0
IsIn all x = IsParentClosed all x.no x.parent × IsParentClosed all x.no x.adjacent

-- The parents of each of the shards `xs` are closed shards of `all` with smaller numbers.
abbrev AreIn : List ShardState → List ShardState → Type 0
AreIn all xs = AllByRecursion (IsIn all) xs

all_in : (all all' xs : List ShardState)
    → ((p : ℕ) → is_closed_at (slice_get all p) ≡ true → is_closed_at (slice_get all' p) ≡ true)
    → AreIn all xs → AreIn all' xs
all_in all all' xs keeps are =
    all_weaker (IsIn all) (IsIn all')
    (λ x is. (parent_in all all' x.no x.parent keeps is.0, parent_in all all' x.no x.adjacent keeps is.1)) xs are

all_closed : (all : List ShardState) (n : ℕ) (closing : Closing) (xs : List ShardState) → AreIn all xs
    → AreIn all (with_closed n closing xs)
all_closed all n closing [] are = tt
all_closed all zero closing (x ∷ xs) are = (are.0, are.1)
all_closed all (suc n) closing (x ∷ xs) are = (are.0, all_closed all n closing xs are.1)

all_first : (all : List ShardState) (n start : ℕ) (ranges : List Span) → AreIn all (first_shards n start ranges)
all_first all n start [] = tt
all_first all n start (r ∷ rs) = ((tt, tt), all_first all (n + 1) start rs)

split_closed : (xs : List ShardState) (sh hash start : ℕ) (closing : Closing) → sh < length xs → AreParentsClosed xs
    → AreParentsClosed (split_shards sh hash closing start xs)
split_closed xs sh hash start closing below are =
    let old = with_closed sh closing xs in
    let new = new_shard (length xs) (lower_part (range_of (slice_get xs sh)) hash) (Some sh) None start
    ∷ new_shard (length xs + 1) (upper_part (range_of (slice_get xs sh)) hash) (Some sh) None start ∷ [] in
    let closed = closed_append sh old new (closed_now sh closing xs below) in
    all_append (IsIn (old ++ new)) old new
    (all_in xs (old ++ new) old (λ p is. closed_append p old new (closed_closed p sh closing xs is))
    (all_closed xs sh closing xs are))
    (((below, closed), tt), (((omega arith, closed), tt), tt))

merged_closed : (xs : List ShardState) (sh other start : ℕ) (closing : Closing) → sh < length xs → other < length xs
    → AreParentsClosed xs → AreParentsClosed (merged_shards sh other closing start xs)
merged_closed xs sh other start closing below below' are =
    let first = with_closed sh closing xs in
    let old = with_closed other closing first in
    let new = new_shard (length xs) (joined (range_of (slice_get xs sh)) (range_of (slice_get xs other))) (Some sh)
    (Some other) start ∷ [] in
    let one = closed_append sh old new (closed_closed sh other closing first (closed_now sh closing xs below)) in
    let two = closed_append other old new
    (closed_now other closing first (omega (arith, below', length-closed sh closing xs))) in
    all_append (IsIn (old ++ new)) old new
    (all_in xs (old ++ new) old
    (λ p is. closed_append p old new (closed_closed p other closing first (closed_closed p sh closing xs is)))
    (all_closed xs other closing first (all_closed xs sh closing xs are)))
    (((below, one), (below', two)), tt)

choice : (b : Bool) (xs ys : List ShardState) → (b ≡ true → AreParentsClosed xs) → AreParentsClosed ys
    → AreParentsClosed (if b then xs else ys)
choice true xs ys new old = new refl
choice false xs ys new old = old

open_below : (log : Journal) (stream s sh : ℕ) → (stream == s) ≡ true → is_open_at (shard_at log stream sh) ≡ true
    → sh < length (shards log s)
open_below log stream s sh same is =
    open_within (shards log s) sh (subst (λ t. is_open_at (shard_at log t sh) ≡ true) (equal_so stream s same) is)

parents_by : (log : Journal) (line : Line) (e : Entry) (reply : Reply) (s start : ℕ)
    → told log line e ≡ Accepted (line ∷ []) reply → AreParentsClosed (shards log s)
    → AreParentsClosed (shards_after line e s start (shards log s))
parents_by log line (entry.Made stream name count) reply s start h old =
    choice (stream == s) _ (shards log s) (λ same. all_first _ 0 start (uniform count)) old
parents_by log line (entry.Split stream sh hash number low high) reply s start h old =
    let a = passes _ _ _ _ reply h in
    let b = passes _ _ _ _ reply a.1 in
    let d = passes _ _ _ _ reply b.1 in
    choice (stream == s) _ (shards log s)
    (λ same. split_closed (shards log s) sh hash start (record { number = number; clock = line.clock })
    (open_below log stream s sh same (holds_so _ d.0)) old) old
parents_by log line (entry.Merged stream sh other number child) reply s start h old =
    let a = passes _ _ _ _ reply h in
    let b = passes _ _ _ _ reply a.1 in
    let d = passes _ _ _ _ reply b.1 in
    let two = and_parts _ _ (holds_so _ d.0) in
    choice (stream == s) _ (shards log s)
    (λ same. merged_closed (shards log s) sh other start (record { number = number; clock = line.clock })
    (open_below log stream s sh same two.0) (open_below log stream s other same two.1) old) old
parents_by log line _ reply s start h old = old

pub parents_closed : (log : Journal) → IsLegal log → (s : ℕ) → AreParentsClosed (shards log s)
parents_closed [] legal s = tt
parents_closed (line ∷ log) legal s =
    parents_by log line line.what legal.0.reply s (next_number (line ∷ log) s) legal.0.allowed
    (parents_closed log legal.1 s)
