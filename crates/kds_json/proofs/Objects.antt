-- The code's tests whether a body is UTF-8, JSON and an object agree with the definitions.
use Rattle.std.proofs.Common.{◌≡◌, ℕ, List, inl, inr, sym, true, false, Some, None, Ok, Err, [], refl}
use Rattle.std.specs.Option.{is_some}
use Rattle.std.specs.Str.{IsUtf8, is_utf8}
use Rattle.std.proofs.lemmas.Bool.{cases_Bool}
use Rattle.std.proofs.lemmas.Str.{IsUtf8-from_is_utf8, is_utf8-from_IsUtf8}
use Rattle.serde_json.specs.Read.{read}
use Rattle.serde_json.specs.Data.{Data, object}
use Rattle.serde_json.specs.Find.{as_object}
use Rattle.kds_json_members.specs.declared.problem.FaultKind.TheVariants.{Serialization}
use Rattle.kds_json_members.specs.Results.{fault_of}
use Rattle.kds_json.specs.Asked.{if_object, read_body}

pub object_is : (d : Data) → is_some (as_object d) ≡ true → if_object (Some d) ≡ Ok d
object_is (object ms) h = refl
object_is _ h = cc

pub other_is : (d : Data) → is_some (as_object d) ≡ false → if_object (Some d) ≡ Err (fault_of Serialization [])
other_is (object ms) h = cc
other_is _ h = refl

pub ruleset objects = (object_is, other_is)

pub read_text : (body : List ℕ) (d : Data) → IsUtf8 body → read body ≡ Some d → Some d ≡ read_body body
unfolding read_body
read_text body d u e = rw (is_utf8-from_IsUtf8 body u) (sym e)

pub read_nothing : (body : List ℕ) → (IsUtf8 body → read body ≡ None) → None ≡ read_body body
unfolding read_body
read_nothing body none = elim (cases_Bool (is_utf8 body)) [
  | inl text ↦ rw text (sym (none (IsUtf8-from_is_utf8 body text)))
  | inr other ↦ rw other refl
]
