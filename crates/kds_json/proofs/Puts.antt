-- PutRecord and PutRecords ask for an allowed command, or their fault names a member in valid UTF-8.
use Rattle.std.proofs.Common.{◌≡◌, ℕ, ◌+◌, ◌≤◌, ◌<◌, ◌^◌, ◌++◌, List, length, decimal, nat_le, Result, Ok, Err, IfSome}
use Rattle.std.proofs.Common.{codes, refl, arith, is_some}
use Rattle.std.specs.List.{AllByRecursion, sum_by}
use Rattle.std.specs.Str.{IsUtf8}
use Rattle.std.proofs.lemmas.Bool.Decides.{nat_tests}
use Rattle.std.proofs.lemmas.Fmt.{IsAscii-decimal}
use Rattle.std.proofs.lemmas.Str.{IsUtf8-append, IsUtf8-from_ascii}
use Rattle.serde_json.specs.Data.{Data, Items, no_items, item}
use Rattle.serde_json.specs.Find.{as_array, as_object}
use Rattle.kds_defs.specs.declared.command.NewItem.{NewItem}
use Rattle.kds_defs.specs.declared.limits.TheConstants.{MANY_ITEMS, MANY_BYTES}
use Rattle.kds_defs.specs.Lawful.{IsPartitionKey, IsItem, AreItems, item_bytes}
use Rattle.kds_json_members.specs.declared.problem.Fault.{Fault}
use Rattle.kds_json_members.specs.Results.{some_or}
use Rattle.kds_json.specs.Asked.{IsRequest}
use Rattle.kds_json_members.specs.Member.{required_at}
use Rattle.kds_json_members.specs.Kinds.{key_in, blob_in, hash_at}
use Rattle.kds_json.specs.Operations.{item_of, put_record}
use Rattle.kds_json.specs.Many.{count, counted, records_in, record_name, in_record, record_at, records_from}
use Rattle.kds_json.specs.Many.{within_limit, put_records}
use Rattle.kds_json_members.proofs.Members.{Reads, then_reads, some_or_reads, either_reads, and_then_has, kept_if}
use Rattle.kds_json_members.proofs.Members.{in_range, key_is, IsShort, blob_is, IsHash}
use Rattle.kds_json_members.proofs.Members.{hash_reads, plain_text, required_reads}
use Rattle.kds_json.proofs.Steps.{asks, names}

item_reads : (d : Data) → Reads IsItem (item_of d)
unfolding item_of
item_reads d =
    then_reads IsPartitionKey IsItem (required_at key_in (codes "PartitionKey") d) _
    (required_reads IsPartitionKey key_in (codes "PartitionKey") d refl key_is) (λ key is_key.
    then_reads (IsShort (length key)) IsItem (required_at (blob_in (length key)) (codes "Data") d) _
    (required_reads (IsShort (length key)) (blob_in (length key)) (codes "Data") d refl (blob_is (length key)))
    (λ payload is_short.
    then_reads IsHash IsItem (hash_at key (codes "ExplicitHashKey") d) _
    (hash_reads key (codes "ExplicitHashKey") d refl)
    (λ hash is_hash. record { key = is_key; hash = is_hash; bytes = is_short })))

pub put_reads : (d : Data) → Reads IsRequest (put_record d)
unfolding put_record
put_reads d =
    names d _ (λ name is_named.
    then_reads IsItem IsRequest (item_of d) _ (item_reads d) (λ one is. ((is_named, is), refl)))

-- ---- PutRecords

-- The array has from 1 to `MANY_ITEMS` items.
abbrev pub IsCounted : Items → Type 0
IsCounted ds = (1 ≤ count ds) × (count ds ≤ MANY_ITEMS)

records_counted : (x : Data) → IfSome (records_in x) IsCounted
records_counted x = and_then_has IsCounted counted (as_array x)
    (λ ds. kept_if IsCounted _ ds (in_range 1 MANY_ITEMS (count ds)))

record_name_text : (index : ℕ) → index < 2 ^ 64 → IsUtf8 (record_name index)
record_name_text index small =
    IsUtf8-append (codes "Records.") (decimal index) (plain_text (codes "Records.") refl)
    (IsUtf8-from_ascii (decimal index) (IsAscii-decimal index small))

in_record_reads : (index : ℕ) (r : Result NewItem Fault) → index < 2 ^ 64 → Reads IsItem r
    → Reads IsItem (in_record index r)
in_record_reads index (Ok x) small h = h
in_record_reads index (Err f) small text =
    IsUtf8-append (record_name index ++ codes ".") f.member
    (IsUtf8-append (record_name index) (codes ".") (record_name_text index small) (plain_text (codes ".") refl)) text

record_reads : (index : ℕ) (d : Data) → index < 2 ^ 64 → Reads IsItem (record_at index d)
unfolding record_at
record_reads index d small =
    either_reads IsItem (is_some (as_object d)) _ _ (in_record_reads index (item_of d) small (item_reads d))
    (record_name_text index small)

-- The records are as many as the items, and each may be put.
abbrev AreRead : Items → List NewItem → Type 0
AreRead ds xs = AllByRecursion IsItem xs × (length xs ≡ count ds)

records_read : (index : ℕ) (ds : Items) → index + count ds < 2 ^ 64 → Reads (AreRead ds) (records_from index ds)
records_read index no_items small = (tt, refl)
records_read index (item d ds) small =
    then_reads IsItem (AreRead (item d ds)) (record_at index d) _ (record_reads index d (omega arith)) (λ x is.
    then_reads (AreRead ds) (AreRead (item d ds)) (records_from (index + 1) ds) _
    (records_read (index + 1) ds (omega arith)) (λ xs are.
    ((is, are.0), omega (arith, are.1))))

within_are : (ds : Items) (items : List NewItem) → IsCounted ds → AreRead ds items
    → IfSome (within_limit items) AreItems
within_are ds items counts are =
    kept_if AreItems (nat_le (sum_by item_bytes items) MANY_BYTES) items (λ h. record {
      each = are.0;
      some = omega (arith, are.1, counts.0);
      few = omega (arith, are.1, counts.1);
      bytes = grind (arith, nat_tests);
    })

pub many_reads : (d : Data) → Reads IsRequest (put_records d)
unfolding put_records
many_reads d =
    names d _ (λ name is_named.
    asks IsCounted records_in (codes "Records") d _ refl records_counted (λ ds counts.
    then_reads (AreRead ds) IsRequest (records_from 1 ds) _ (records_read 1 ds (omega (arith, counts.1))) (λ items are.
    then_reads AreItems IsRequest (some_or _ (codes "Records") (within_limit items)) _
    (some_or_reads AreItems _ (codes "Records") (within_limit items) (plain_text (codes "Records") refl)
    (within_are ds items counts are))
    (λ fitting fit. ((is_named, fit), refl)))))
