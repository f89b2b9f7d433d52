-- What each kind of member is read as has the kind's property, and names in faults are valid UTF-8.
use Rattle.std.proofs.Common.{◌≡◌, ℕ, ◌+◌, ◌≤◌, ◌<◌, ◌^◌, List, [], ◌∷◌, length, Bool, true, false, nat_le, nat_lt}
use Rattle.std.proofs.Common.{◌&&◌, Option, Some, None, option_map}
use Rattle.std.proofs.Common.{option_and_then, Result, Ok, Err, IfSome, if◌then◌else◌, refl, arith}
use Rattle.std.specs.Prelude.{MatchResult, ⊤}
use Rattle.std.specs.List.{list_all}
use Rattle.std.specs.Str.{IsAscii, IsUtf8}
use Rattle.std.specs.Str.Parse.{digits_value}
use Rattle.std.proofs.lemmas.Str.{IsUtf8-from_ascii, IsUtf8-from_is_utf8}
use Rattle.std.proofs.lemmas.Str.Ascii.{IsAscii-cons, IsAscii-nil}
use Rattle.std.proofs.lemmas.Bool.{ltb-true}
use Rattle.std.proofs.lemmas.Bool.Decides.{nat_tests}
use Rattle.serde_json.specs.Data.{Data}
use Rattle.serde_json.specs.Find.{as_str, as_number, as_u64}
use Rattle.base64.specs.Engines.{standard}
use Rattle.base64.specs.GeneralPurpose.{decoded_of}
use Rattle.kds_base.specs.Hashes.{key_hash}
use Rattle.kds_base.specs.Names.{IsName, is_name, name_of}
use Rattle.kds_base.specs.NumberText.{is_plain, number_of}
use Rattle.kds_base.proofs.Facts.{both_left, both_right}
use Rattle.kds_defs.specs.declared.limits.TheConstants.{RECORD_BYTES}
use Rattle.kds_defs.specs.Lawful.{IsPartitionKey, IsNameIfThere}
use Rattle.kds_json_members.specs.declared.problem.Fault.{Fault}
use Rattle.kds_json_members.specs.declared.problem.FaultKind.{FaultKind}
use Rattle.kds_json_members.specs.Results.{◌>>=◌, some_or}
use Rattle.kds_json_members.specs.Member.{required, absent_at, absent_of, member_of, required_at, value_or, optional_at}
use Rattle.kds_json_members.specs.Member.{token_at}
use Rattle.kds_json_members.specs.Kinds.{name_in, some_name_in, within, number_in, is_partition_key, key_of, key_in}
use Rattle.kds_json_members.specs.Kinds.{fitting, blob_of, blob_in, hash_in, hash_at}
use Rattle.kds_json_members.proofs.Digests.{hash_fits}

-- ---- Steps that give a value or a fault

-- `P` holds of the step's value, or the name in its fault is valid UTF-8.
abbrev pub Reads : {A : Type 0} → (A → Type 0) → Result A Fault → Type 0
Reads P r = MatchResult r P (λ f. IsUtf8 f.member)

-- The property that every value has.
abbrev pub Anything : (A : Type 0) → A → Type 0
Anything A x = Unit {0}

pub then_reads : {A B : Type 0} (P : A → Type 0) (Q : B → Type 0) (r : Result A Fault) (f : A → Result B Fault)
    → Reads P r
    → ((x : A) → P x → Reads Q (f x)) → Reads Q (r >>= f)
then_reads P Q (Ok x) f h k = k x h
then_reads P Q (Err e) f h k = h

pub some_or_reads : {A : Type 0} (P : A → Type 0) (kind : FaultKind) (name : List ℕ) (o : Option A) → IsUtf8 name
    → IfSome o P
    → Reads P (some_or kind name o)
some_or_reads P kind name (Some x) text h = h
some_or_reads P kind name None text h = text

pub either_reads : {A : Type 0} (P : A → Type 0) (b : Bool) (x y : Result A Fault) → Reads P x → Reads P y
    → Reads P (if b then x else y)
either_reads P true x y h k = h
either_reads P false x y h k = k

pub anything : {A : Type 0} (o : Option A) → IfSome o (Anything A)
anything (Some x) = tt
anything None = tt

pub and_then_has : {A B : Type 0} (P : B → Type 0) (f : A → Option B) (o : Option A) → ((x : A) → IfSome (f x) P)
    → IfSome (option_and_then f o) P
and_then_has P f (Some x) h = h x
and_then_has P f None h = tt

pub kept_if : {A : Type 0} (P : A → Type 0) (b : Bool) (x : A) → (b ≡ true → P x)
    → IfSome (if b then Some x else None) P
kept_if P true x h = h refl
kept_if P false x h = tt

-- ---- The value of a member, by its kind

pub map_has : {A B : Type 0} (P : B → Type 0) (f : A → B) (o : Option A) → IfSome o (λ x. P (f x))
    → IfSome (option_map f o) P
map_has P f (Some x) h = h
map_has P f None h = tt

pub name_is : (x : Data) → IfSome (name_in x) IsName
name_is x = and_then_has IsName name_of (as_str x) (λ text. kept_if IsName (is_name text) text (λ h. h))

pub some_name_is : (x : Data) → IfSome (some_name_in x) IsNameIfThere
some_name_is x = map_has IsNameIfThere Some (name_in x) (name_is x)

-- The number is from `low` to `high`, both included.
abbrev pub IsWithin : ℕ → ℕ → ℕ → Type 0
IsWithin low high n = (low ≤ n) × (n ≤ high)

pub in_range : (low high n : ℕ) → (nat_le low n && nat_le n high) ≡ true → IsWithin low high n
in_range low high n h = grind (arith, nat_tests)

pub number_is : (low high : ℕ) (x : Data) → IfSome (number_in low high x) (IsWithin low high)
number_is low high x =
    and_then_has (IsWithin low high) (within low high) (option_and_then as_u64 (as_number x))
    (λ n. kept_if (IsWithin low high) (nat_le low n && nat_le n high) n (in_range low high n))

pub key_from_test : (text : List ℕ) → is_partition_key text ≡ true → IsPartitionKey text
key_from_test text h = record {
  text = IsUtf8-from_is_utf8 text (grind (arith, nat_tests));
  some = grind (arith, nat_tests);
  few = grind (arith, nat_tests);
}

pub key_is : (x : Data) → IfSome (key_in x) IsPartitionKey
key_is x =
    and_then_has IsPartitionKey key_of (as_str x)
    (λ text. kept_if IsPartitionKey (is_partition_key text) text (key_from_test text))

-- The payload and its key have at most RECORD_BYTES bytes together.
abbrev pub IsShort : ℕ → List ℕ → Type 0
IsShort key_bytes bytes = length bytes + key_bytes ≤ RECORD_BYTES

pub blob_is : (key_bytes : ℕ) (x : Data) → IfSome (blob_in key_bytes x) (IsShort key_bytes)
blob_is key_bytes x =
    and_then_has (IsShort key_bytes) (blob_of key_bytes) (as_str x)
    (λ text. and_then_has (IsShort key_bytes) (fitting key_bytes) (decoded_of standard text)
    (λ b. kept_if (IsShort key_bytes) (nat_le (length b + key_bytes) RECORD_BYTES) b (λ h. grind (arith, nat_tests))))

-- The number is a hash key: below 2^128.
abbrev pub IsHash : ℕ → Type 0
IsHash n = n < 2 ^ 128

pub hash_from_test : (text : List ℕ) → (is_plain text && nat_lt (digits_value 10 text) (2 ^ 128)) ≡ true
    → IsHash (digits_value 10 text)
hash_from_test text h = grind (arith, nat_tests)

pub hash_is : (x : Data) → IfSome (hash_in x) IsHash
hash_is x =
    and_then_has IsHash (number_of 128) (as_str x)
    (λ text. kept_if IsHash (is_plain text && nat_lt (digits_value 10 text) (2 ^ 128)) (digits_value 10 text)
    (hash_from_test text))

-- ---- The members of a request

-- Each byte of the name is ASCII, as in every member of requests.
abbrev pub IsPlain : List ℕ → Type 0
IsPlain name = list_all (λ b. nat_lt b 128) name ≡ true

plain_bytes : (name : List ℕ) → IsPlain name → IsAscii name
plain_bytes [] h = IsAscii-nil
plain_bytes (b ∷ name) h =
    IsAscii-cons b name (ltb-true b 128 (both_left (nat_lt b 128) (list_all (λ c. nat_lt c 128) name) h))
    (plain_bytes name (both_right (nat_lt b 128) (list_all (λ c. nat_lt c 128) name) h))

pub plain_text : (name : List ℕ) → IsPlain name → IsUtf8 name
plain_text name plain = IsUtf8-from_ascii name (plain_bytes name plain)

pub required_reads : {A : Type 0} (P : A → Type 0) (reads : Data → Option A) (name : List ℕ) (d : Data) → IsPlain name
    → ((x : Data) → IfSome (reads x) P) → Reads P (required_at reads name d)
unfolding required_at
required_reads P reads name d plain h =
    then_reads (Anything Data) P (required name d) _
    (some_or_reads (Anything Data) _ name (member_of name d) (plain_text name plain) (anything (member_of name d)))
    (λ x _. some_or_reads P _ name (reads x) (plain_text name plain) (h x))

value_reads : {A : Type 0} (P : A → Type 0) (default : A) (reads : Data → Option A) (name : List ℕ) (o : Option Data)
    → IsUtf8 name → P default
    → ((x : Data) → IfSome (reads x) P) → Reads P (value_or default reads name o)
value_reads P default reads name None text is h = is
value_reads P default reads name (Some x) text is h = some_or_reads P _ name (reads x) text (h x)

pub optional_reads : {A : Type 0} (P : A → Type 0) (default : A) (reads : Data → Option A) (name : List ℕ) (d : Data)
    → IsPlain name → P default
    → ((x : Data) → IfSome (reads x) P) → Reads P (optional_at default reads name d)
unfolding optional_at
optional_reads P default reads name d plain is h =
    value_reads P default reads name (member_of name d) (plain_text name plain) is h

absent_of_reads : (name : List ℕ) (o : Option Data) → IsUtf8 name → Reads (Anything ⊤) (absent_of name o)
absent_of_reads name (Some x) text = text
absent_of_reads name None text = tt

pub absent_reads : (name : List ℕ) (d : Data) → IsPlain name → Reads (Anything ⊤) (absent_at name d)
absent_reads name d plain = absent_of_reads name (member_of name d) (plain_text name plain)

pub token_reads : {A : Type 0} (stands_for : List ℕ → Option A) (name : List ℕ) (d : Data) → IsPlain name
    → Reads (Anything A) (token_at stands_for name d)
unfolding token_at
token_reads {A} stands_for name d plain =
    then_reads (Anything (List ℕ)) (Anything A) (required_at as_str name d) _
    (required_reads (Anything (List ℕ)) as_str name d plain (λ x. anything (as_str x)))
    (λ text _. some_or_reads (Anything A) _ name (stands_for text) (plain_text name plain) (anything (stands_for text)))

pub hash_reads : (key name : List ℕ) (d : Data) → IsPlain name → Reads IsHash (hash_at key name d)
unfolding hash_at
hash_reads key name d plain = optional_reads IsHash (key_hash key) hash_in name d plain (hash_fits key) hash_is
