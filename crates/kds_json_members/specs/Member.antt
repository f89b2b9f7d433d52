-- How a member is read, and its fault; a member that is null counts as absent.
use Rattle.std.specs.Prelude.{◌≡◌, ℕ, List, false, Option, Some, None, option_and_then, Result, Ok, Err, ⊤, String}
use Rattle.std.specs.BTreeMap.{BTreeMap}
use Rattle.std.specs.Str.{bytes_eq}
use Rattle.std.specs.declared.alloc.Global.{Global}
use Rattle.serde_json.specs.Data.{Data, null, boolean, number, string, array, object}
use Rattle.serde_json.specs.Find.{get, as_str}
use Rattle.serde_json.specs.View.{members_view}
use Rattle.serde_json.specs.declared.value.Value.{Value}
use Rattle.kds_json_members.specs.declared.problem.Fault.{Fault}
use Rattle.kds_json_members.specs.declared.problem.FaultKind.TheVariants.{Missing, Invalid, Token}
use Rattle.kds_json_members.specs.Results.{◌>>=◌, fault_of, some_or}

-- The JSON object with the map's members.
abbrev pub object_view : (m : BTreeMap (String Global) Value) → Data
object_view m = object (members_view m.entries)

-- The JSON value, or None for null.
abbrev pub unless_null : (value : Data) → Option Data
unless_null null = None
unless_null (boolean b) = Some (boolean b)
unless_null (number n) = Some (number n)
unless_null (string s) = Some (string s)
unless_null (array ds) = Some (array ds)
unless_null (object ms) = Some (object ms)

-- The value of the member, or None if it is absent or null.
abbrev pub member_of : (name : List ℕ) (d : Data) → Option Data
member_of name d = option_and_then unless_null (get name d)

-- The value of the member, or the fault Missing.
abbrev pub required : (name : List ℕ) (d : Data) → Result Data Fault
required name d = some_or Missing name (member_of name d)

-- The fault Invalid if the member has a value.
abbrev pub absent_of : (name : List ℕ) (x : Option Data) → Result ⊤ Fault
absent_of name None = Ok tt
absent_of name (Some x) = Err (fault_of Invalid name)

-- The fault Invalid if the object has the member, which must be absent.
abbrev pub absent_at : (name : List ℕ) (d : Data) → Result ⊤ Fault
absent_at name d = absent_of name (member_of name d)

-- What a required member is read as: Missing if absent, Invalid if `reads` gives None.
unfoldable pub required_at : {A : Type 0} → (reads : Data → Option A) (name : List ℕ) (d : Data) → Result A Fault
required_at reads name d = do
  x ← required name d
  some_or Invalid name (reads x)

-- What a member's value is read as, or `default` without a value; Invalid if `reads` gives None.
abbrev pub value_or : {A : Type 0} → (default : A) (reads : Data → Option A) (name : List ℕ) (x : Option Data) →
    Result A Fault
value_or default reads name None = Ok default
value_or default reads name (Some x) = some_or Invalid name (reads x)

-- What an optional member is read as, or `default` if absent; Invalid if `reads` gives None.
unfoldable pub optional_at : {A : Type 0} → (default : A) (reads : Data → Option A) (name : List ℕ) (d : Data) →
    Result A Fault
optional_at default reads name d = value_or default reads name (member_of name d)

-- What a required token stands for: Missing, Invalid if it is no string, or Token if it stands for nothing.
unfoldable pub token_at : {A : Type 0} → (stands_for : List ℕ → Option A) (name : List ℕ) (d : Data) → Result A Fault
token_at stands_for name d = do
  text ← required_at as_str name d
  some_or Token name (stands_for text)
