-- The place of a lease key in a list of items in the order of their keys.
use Rattle.std.specs.Prelude.{ℕ, suc, Bool, true, false, if◌then◌else◌, List, [], ◌∷◌, Option, Some, None}
use Rattle.kds_base.specs.declared.lease_key.ShardRef.{ShardRef}
use Rattle.kds_defs.specs.Keys.{is_before}

-- Whether the key comes before the next item, or there is no next item.
abbrev pub before_next : {X : Type 0} (key_of : X → ShardRef) (key : ShardRef) (next : Option X) → Bool
before_next key_of key None = true
before_next key_of key (Some x) = is_before key (key_of x)

-- The index of the key's item, if the keys rise: how many items at the beginning come before the key.
abbrev pub insertion_index : {X : Type 0} (key_of : X → ShardRef) (key : ShardRef) (items : List X) → ℕ
insertion_index key_of key [] = 0
insertion_index key_of key (x ∷ xs) = if is_before (key_of x) key then suc (insertion_index key_of key xs) else 0

-- Whether there is an item, and it passes the test.
abbrev pub passes : {X : Type 0} (test : X → Bool) (item : Option X) → Bool
passes test None = false
passes test (Some x) = test x
