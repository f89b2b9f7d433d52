use Rattle.std.proofs.Common.{rules}
use Rattle.kcl_table.proofs.writes.target_counter.Goals as goal

pub returns : goal.returns
returns c = search rules

pub returns-then-lt : goal.returns-then-lt
returns-then-lt c = search rules

pub returns-then-delivered-q : goal.returns-then-delivered-q
returns-then-delivered-q c = search rules
