-- An entry of a map is replaced, added or removed, and each stream stays under its own name.
use Rattle.std.proofs.Common.{◌≡◌, ℕ, zero, suc, ◌+◌, Bool, cond, List, [], ◌∷◌, ◌++◌, map, remove, slice_get}
use Rattle.std.proofs.Common.{slice_set, Some, None, refl, sym, ap, subst, ◌∙◌}
use Rattle.std.specs.Prelude.{Result, Ok, Err, OnErr}
use Rattle.std.specs.List.{position_from}
use Rattle.std.specs.Map.{keys_of, values_of}
use Rattle.std.proofs.lemmas.List.{map-append}
use Rattle.std.proofs.lemmas.Option.{none-some}
use Rattle.indexmap.specs.IndexMap.{insert_entry, set_value_at}
use Rattle.kds_stream.specs.Value.{StreamValue}
use Rattle.kds_base.proofs.Facts.{all_append}
use Rattle.kds_base.proofs.WideLemmas.{by_test}
use Rattle.kds_service.proofs.Lists.{all_remove, all_set, map_same, set_same}
use Rattle.kds_service.specs.Indexes.{AreNamedAt}
use Rattle.kds_service.specs.Shown.{AreAt, names_of}

module _ {K X : Type 0} where
  pub values_set : (es : List (K × X)) (i : ℕ) (w : X) → values_of (set_value_at es i w) ≡ slice_set (values_of es) i w
  values_set [] i w = refl
  values_set (e ∷ es) zero w = refl
  values_set (e ∷ es) (suc i) w = ap (λ ys. e.1 ∷ ys) (values_set es i w)

  pub keys_set : (es : List (K × X)) (i : ℕ) (w : X) → keys_of (set_value_at es i w) ≡ keys_of es
  keys_set [] i w = refl
  keys_set (e ∷ es) zero w = refl
  keys_set (e ∷ es) (suc i) w = ap (λ ys. e.0 ∷ ys) (keys_set es i w)

  pub insert_last : (eq : K → K → Bool) (n : ℕ) (es : List (K × X)) (k : K) (v : X)
      → position_from (eq k) n (keys_of es) ≡ None → insert_entry eq es k v ≡ es ++ ((k, v) ∷ [])
  insert_last eq n [] k v none = refl
  insert_last eq n (e ∷ es) k v none =
      by_test (eq k e.0)
      (λ is. absurd (none-some n (sym none ∙ ap (λ b. cond b (Some n) (position_from (eq k) (n + 1) (keys_of es))) is)))
      (λ is.
      let rest = sym (ap (λ b. cond b (Some n) (position_from (eq k) (n + 1) (keys_of es))) is) ∙ none in
      ap (λ b. cond b ((e.0, v) ∷ es) (e ∷ insert_entry eq es k v)) is
      ∙ ap (λ ys. e ∷ ys) (insert_last eq (n + 1) es k v rest))

pub map_take_out : {X Y : Type 0} (f : X → Y) (xs : List X) (i : ℕ) → map f (remove xs i) ≡ remove (map f xs) i
map_take_out f [] zero = refl
map_take_out f [] (suc i) = refl
map_take_out f (x ∷ xs) zero = refl
map_take_out f (x ∷ xs) (suc i) = ap (λ ys. f x ∷ ys) (map_take_out f xs i)

-- ---- Each stream is still under its own name and at the clock

pub named_set : (c i : ℕ) (es : List (List ℕ × StreamValue)) (x v : StreamValue) → AreNamedAt c es
    → slice_get (values_of es) i ≡ Some x → v.name ≡ x.name → v.clock ≡ c → AreNamedAt c (set_value_at es i v)
named_set c i es x v placed here name clock = record {
  named = keys_set es i v ∙ placed.named ∙ sym (map_same (λ u. u.name) i (values_of es) x v here name)
      ∙ ap names_of (sym (values_set es i v));
  at = subst (AreAt c) (sym (values_set es i v)) (all_set (λ u. u.clock ≡ c) i (values_of es) v placed.at clock);
}

-- Writing back a stream that a failed call left unchanged changes no value.
pub kept_set : {A E : Type 0} (r : Result A E) (i : ℕ) (es : List (List ℕ × StreamValue)) (x v : StreamValue)
    → slice_get (values_of es) i ≡ Some x → OnErr r (v ≡ x) → OnErr r (values_of (set_value_at es i v) ≡ values_of es)
kept_set (Ok a) i es x v here same = tt
kept_set (Err e) i es x v here same = values_set es i v ∙ ap (slice_set (values_of es) i) same
    ∙ set_same i (values_of es) x here

pub named_push : (c : ℕ) (es fs : List (List ℕ × StreamValue)) (k : List ℕ) (v : StreamValue) → AreNamedAt c es
    → fs ≡ es ++ ((k, v) ∷ []) → k ≡ v.name → v.clock ≡ c → AreNamedAt c fs
named_push c es fs k v placed pushed name clock = record {
  named =
      ap keys_of pushed
      ∙ map-append (λ e. e.0) es ((k, v) ∷ [])
      ∙ ap (λ ks. ks ++ (k ∷ [])) placed.named
      ∙ ap (λ n. names_of (values_of es) ++ (n ∷ [])) name
      ∙ sym (map-append (λ u. u.name) (values_of es) (v ∷ []))
      ∙ ap names_of (sym (ap values_of pushed ∙ map-append (λ e. e.1) es ((k, v) ∷ [])));
  at =
      subst (AreAt c) (sym (ap values_of pushed ∙ map-append (λ e. e.1) es ((k, v) ∷ [])))
      (all_append (λ u. u.clock ≡ c) (values_of es) (v ∷ []) placed.at (clock, tt));
}

pub named_remove : (c i : ℕ) (es fs : List (List ℕ × StreamValue)) → AreNamedAt c es → fs ≡ remove es i
    → AreNamedAt c fs
named_remove c i es fs placed taken = record {
  named =
      ap keys_of taken
      ∙ map_take_out (λ e. e.0) es i
      ∙ ap (λ ks. remove ks i) placed.named
      ∙ sym (map_take_out (λ u. u.name) (values_of es) i)
      ∙ ap names_of (sym (ap values_of taken ∙ map_take_out (λ e. e.1) es i));
  at = subst (AreAt c) (sym (ap values_of taken ∙ map_take_out (λ e. e.1) es i))
      (all_remove (λ u. u.clock ≡ c) i (values_of es) placed.at);
}

pub named_along : (c : ℕ) (es fs : List (List ℕ × StreamValue)) → keys_of es ≡ names_of (values_of es)
    → keys_of fs ≡ keys_of es → names_of (values_of fs) ≡ names_of (values_of es) → AreAt c (values_of fs)
    → AreNamedAt c fs
named_along c es fs named same names is_at = record { named = same ∙ named ∙ sym names; at = is_at }
