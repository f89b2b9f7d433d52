-- Tests on lease keys: `same_key` is equality, and `is_before` a strict total order.
use Rattle.std.proofs.Common.{◌≡◌, true, false, arith}
use Rattle.std.specs.Prelude.{◌==◌}
use Rattle.std.proofs.lemmas.Bool.{and_parts, and_from}
use Rattle.std.proofs.lemmas.Bool.Decides.{nat_tests}
use Rattle.kds_base.specs.declared.lease_key.ShardRef.{ShardRef}
use Rattle.kds_base.proofs.Facts.{equal_so, is_itself}
use Rattle.kds_defs.specs.Keys.{is_before, same_key}

pub same_ref : (a b : ShardRef) → same_key a b ≡ true → a ≡ b
same_ref a b h =
    let p = and_parts (a.stream == b.stream) (a.shard == b.shard) h in
    let s = equal_so a.stream b.stream p.0 in
    let t = equal_so a.shard b.shard p.1 in
    λ i. record { stream = s i; shard = t i }

pub key_itself : (key : ShardRef) → same_key key key ≡ true
key_itself key = and_from (key.stream == key.stream) (key.shard == key.shard) (is_itself key.stream)
    (is_itself key.shard)

-- ---- The order of keys is total

pub before_both : (a b c : ShardRef) → is_before a b ≡ true → is_before b c ≡ true → is_before a c ≡ true
before_both a b c h g = grind (arith, nat_tests)

pub not_same : (a b : ShardRef) → is_before a b ≡ true → same_key a b ≡ false
not_same a b h = grind (arith, nat_tests)

pub not_same_after : (a b : ShardRef) → is_before b a ≡ true → same_key a b ≡ false
not_same_after a b h = grind (arith, nat_tests)

pub not_before_after : (a b : ShardRef) → is_before a b ≡ true → is_before b a ≡ false
not_before_after a b h = grind (arith, nat_tests)

pub after_else : (a b : ShardRef) → is_before a b ≡ false → same_key a b ≡ false → is_before b a ≡ true
after_else a b h g = grind (arith, nat_tests)

pub before_else : (a b : ShardRef) → is_before b a ≡ false → same_key a b ≡ false → is_before a b ≡ true
before_else a b h g = grind (arith, nat_tests)
