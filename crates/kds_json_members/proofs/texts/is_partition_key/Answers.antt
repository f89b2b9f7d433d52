use Rattle.std.proofs.Common.{rules}
use Rattle.std.proofs.lemmas.Str.{is_utf8-from_IsUtf8}
use Rattle.kds_json_members.proofs.texts.is_partition_key.Goals as goal

pub returns-then-count-ge1 : goal.returns-then-count-ge1
returns-then-count-ge1 c = rw (is_utf8-from_IsUtf8 c.args.text.now c.utf8.text) (search rules)
