use Rattle.std.proofs.Common.{◌+◌, ap, length, refl, sym, ◌∙◌, ℕ, Option}
use Rattle.std.specs.List.{filter}
use Rattle.kds_defs.specs.Listings.{is_after_shard}
use Rattle.kds_tree.proofs.Listing.{at_end, behind_none, right_behind}
use Rattle.kds_tree.proofs.tree.start_behind.Goals as goal

pub returns-in-Some-clause-behind : goal.returns-in-Some-clause-behind
returns-in-Some-clause-behind c numbers =
    let xs = c.args.shards.now in
    right_behind xs c.in-Some.no c.no.inside.0 (c.no.inside.0 + 1) numbers c.no.view_is refl
    ∙ sym (ap (λ (after : Option ℕ). filter (is_after_shard after) xs) c.in-Some.is)

pub returns-in-Some-2-clause-behind : goal.returns-in-Some-2-clause-behind
returns-in-Some-2-clause-behind c numbers =
    let xs = c.args.shards.now in
    at_end xs c.in-Some.no c.no.inside.0 (length xs) numbers c.no.view_is c.if-no-shards.false refl
    ∙ sym (ap (λ (after : Option ℕ). filter (is_after_shard after) xs) c.in-Some.is)

pub returns-in-None-clause-behind : goal.returns-in-None-clause-behind
returns-in-None-clause-behind c numbers =
    let xs = c.args.shards.now in
    behind_none xs ∙ sym (ap (λ (after : Option ℕ). filter (is_after_shard after) xs) c.in-None.is)
