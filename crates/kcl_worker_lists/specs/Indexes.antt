-- The row of a key in rows whose keys rise.
use Rattle.std.specs.Prelude.{if◌then◌else◌, Option, Some, None}
use Rattle.kds_base.specs.declared.lease_key.ShardRef.{ShardRef}
use Rattle.kds_defs.specs.declared.reply.Row.{Row}
use Rattle.kds_defs.specs.Keys.{same_key}

-- The row, if it has the key `key`.
abbrev pub if_key : (key : ShardRef) (r : Option Row) → Option Row
if_key key None = None
if_key key (Some r) = if same_key r.key key then Some r else None
