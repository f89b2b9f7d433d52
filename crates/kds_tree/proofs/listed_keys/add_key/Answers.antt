use Rattle.std.proofs.Common.{rules}
use Rattle.kds_tree.proofs.listed_keys.add_key.Goals as goal

pub returns-then-is_expired : goal.returns-then-is_expired
returns-then-is_expired c = search rules
