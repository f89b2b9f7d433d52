-- Null is no string, so a required string is the same whether or not null counts as absent.
use Rattle.std.proofs.Common.{◌≡◌, Option, Some, None, option_and_then, refl}
use Rattle.serde_json.specs.Data.{Data, null, boolean, number, string, array, object}
use Rattle.serde_json.specs.Find.{as_str}
use Rattle.kds_json_members.specs.Member.{unless_null}

pub text_unless_null : (o : Option Data) → option_and_then as_str (option_and_then unless_null o)
    ≡ option_and_then as_str o
text_unless_null None = refl
text_unless_null (Some null) = refl
text_unless_null (Some (boolean b)) = refl
text_unless_null (Some (number n)) = refl
text_unless_null (Some (string s)) = refl
text_unless_null (Some (array ds)) = refl
text_unless_null (Some (object ms)) = refl
