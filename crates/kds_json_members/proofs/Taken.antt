-- What is found by a name in the map of an object's members is the member with this name.
use Rattle.std.proofs.Common.{◌≡◌, ℕ, List, [], ◌∷◌, Option, Some, None, is_some, option_map, option_and_then, String}
use Rattle.std.proofs.Common.{BTreeMap, Global, Ordering, Less, Equal, Greater, string_bytes, nat_cmp, is_eq}
use Rattle.std.proofs.Common.{cond, Bool, true, false, bytes_eq, true≢false, refl, sym, ap, ◌∙◌}
use Rattle.std.specs.BTreeMap.{is_at}
use Rattle.std.specs.Cmp.Lexicographic.{slice_cmp}
use Rattle.std.specs.Map.{lookup, remove_entry}
use Rattle.std.specs.Ordering.{match_ordering}
use Rattle.std.proofs.lemmas.Map.Text.{is_eq-slice_cmp}
use Rattle.std.proofs.lemmas.Slice.Eq.{bytes_eq-Decides}
use Rattle.serde_json.specs.Data.{Data, null, boolean, number, string, array, object, Members, member}
use Rattle.serde_json.specs.Find.{as_null, get_member}
use Rattle.serde_json.specs.View.{view, members_view}
use Rattle.serde_json.proofs.Views.{view-lookup}
use Rattle.serde_json.specs.declared.value.Value.{Value}
use Rattle.kds_json_members.specs.Member.{unless_null, member_of}

-- An entry of the map: a member's name and its value.
abbrev Entry : Type 0
Entry = String Global × Value

-- Whether an entry's name is `name`.
abbrev pub at_name : List ℕ → String Global → Bool
at_name name = is_at (λ k. slice_cmp nat_cmp name (string_bytes k))

found_at : (name : List ℕ) (es : List Entry) (o : Option Value) → o ≡ lookup (at_name name) es
    → get_member name (members_view es) ≡ option_map view o
found_at name es o e = sym (ap (option_map view) e ∙ view-lookup name es)

null_is : (d : Data) → is_some (as_null d) ≡ true → None ≡ unless_null d
null_is null h = refl
null_is _ h = cc

other_is : (d : Data) → is_some (as_null d) ≡ false → Some d ≡ unless_null d
other_is null h = cc
other_is (boolean b) h = refl
other_is (number n) h = refl
other_is (string s) h = refl
other_is (array ds) h = refl
other_is (object ms) h = refl

pub null_at : (name : List ℕ) (es : List Entry) (v : Value) → Some v ≡ lookup (at_name name) es
    → is_some (as_null (view v)) ≡ true
    → None ≡ member_of name (object (members_view es))
null_at name es v e h = null_is (view v) h ∙ sym (ap (option_and_then unless_null) (found_at name es (Some v) e))

pub value_at : (name : List ℕ) (es : List Entry) (v : Value) → Some v ≡ lookup (at_name name) es
    → is_some (as_null (view v)) ≡ false
    → Some (view v) ≡ member_of name (object (members_view es))
value_at name es v e h = other_is (view v) h ∙ sym (ap (option_and_then unless_null) (found_at name es (Some v) e))

pub nothing_at : (name : List ℕ) (es : List Entry) → None ≡ lookup (at_name name) es
    → None ≡ member_of name (object (members_view es))
nothing_at name es e = sym (ap (option_and_then unless_null) (found_at name es None e))
