-- The code's state is inside the target exactly if the bytes end there by the grammar.
use Rattle.std.proofs.Common.{◌≡◌, ℕ, List, [], ◌∷◌, ◌++◌, true, false, refl, sym, ap, ◌∙◌, arith, subst, inl, inr}
use Rattle.std.proofs.lemmas.Bool.{cases_Bool, eqb-true}
use Rattle.std.proofs.lemmas.List.{append_assoc}
use Rattle.std.proofs.lemmas.List.Elements.{All-nil, All-cons, All-head, All-tail}
use Rattle.std.specs.Prelude.{◌==◌, fold, IsTrue}
use Rattle.httparse.specs.Grammar.{is_token_byte, is_uri_byte, AllPass, IsToken, LineEnd, crlf, lf, print_end}
use Rattle.httparse.specs.Grammar.{print_blank, EndsInTarget}
use Rattle.kds_head.specs.declared.target.Reached.{Reached}
use Rattle.kds_head.specs.declared.target.Reached.TheVariants.{Blank, CarriageReturn, Method, Target, Other}
use Rattle.kds_head.specs.Target.{after_byte}

-- The part of a request in which its bytes end after `bs`.
abbrev run : Reached → List ℕ → Reached
run r bs = fold after_byte r bs

other_stays : (bs : List ℕ) → run Other bs ≡ Other
other_stays [] = refl
other_stays (b ∷ bs) = other_stays bs

no_way : (bs : List ℕ) → run Other bs ≡ Target → ⊥
no_way bs h = let bad : Other ≡ Target = sym (other_stays bs) ∙ h in cc bad

-- ---- If the state is inside the target, so are the bytes by the grammar

in_target : (bs : List ℕ) → run Target bs ≡ Target → AllPass is_uri_byte bs
in_target [] h = All-nil (λ b. IsTrue (is_uri_byte b))
in_target (b ∷ bs) h = elim (cases_Bool (is_uri_byte b)) [
  | inl uri ↦ All-cons (λ c. IsTrue (is_uri_byte c)) b bs uri (in_target bs (rw uri at h))
  | inr none ↦ absurd (no_way bs (rw none at h))
]

-- The bytes are a method, a space, and perhaps some bytes of a target.
abbrev MethodThen : List ℕ → Type 0
MethodThen bs = (m : List ℕ) × (t : List ℕ) × AllPass is_token_byte m × AllPass is_uri_byte t × (bs ≡ m ++ 32 ∷ t)

in_method : (bs : List ℕ) → run Method bs ≡ Target → MethodThen bs
in_method [] h = absurd (cc h)
in_method (b ∷ bs) h = elim (cases_Bool (b == 32)) [
  | inl space ↦
      let same : b ≡ 32 = eqb-true b 32 space in
      ([], bs, All-nil (λ c. IsTrue (is_token_byte c)), in_target bs (rw space at h), ap (λ z. z ∷ bs) same)
  | inr other ↦ elim (cases_Bool (is_token_byte b)) [
    | inl token ↦
        let rest = in_method bs (rw (other, token) at h) in (
          b ∷ rest.0,
          rest.1,
          All-cons (λ c. IsTrue (is_token_byte c)) b rest.0 token rest.2,
          rest.3,
          ap (λ z. b ∷ z) rest.4,
        )
    | inr none ↦ absurd (no_way bs (rw (other, none) at h))
  ]
]

first_token : (b : ℕ) (bs : List ℕ) → is_token_byte b ≡ true → run Method bs ≡ Target → EndsInTarget (b ∷ bs)
first_token b bs token h =
    let rest = in_method bs h in (
      [],
      b ∷ rest.0,
      rest.1,
      (omega arith, All-cons (λ c. IsTrue (is_token_byte c)) b rest.0 token rest.2),
      rest.3,
      ap (λ z. b ∷ z) rest.4,
    )

with_end : (e : LineEnd) (bs : List ℕ) → EndsInTarget bs → EndsInTarget (print_end e ++ bs)
with_end crlf bs h = (crlf ∷ h.0, h.1, h.2, h.3, h.4, ap (λ z. 13 ∷ 10 ∷ z) h.5)
with_end lf bs h = (lf ∷ h.0, h.1, h.2, h.3, h.4, ap (λ z. 10 ∷ z) h.5)

other_first : (b : ℕ) (bs : List ℕ) → (b == 10) ≡ false → (b == 13) ≡ false → run Blank (b ∷ bs) ≡ Target
    → EndsInTarget (b ∷ bs)
other_first b bs no_feed no_return h = elim (cases_Bool (is_token_byte b)) [
  | inl token ↦ first_token b bs token (rw (no_feed, no_return, token) at h)
  | inr none ↦ absurd (no_way bs (rw (no_feed, no_return, none) at h))
]

in_blank : (bs : List ℕ) → run Blank bs ≡ Target → EndsInTarget bs
in_blank [] h = absurd (cc h)
in_blank (b ∷ []) h = elim (cases_Bool (b == 10)) [
  | inl feed ↦ let bad : Blank ≡ Target = rw feed at h in absurd (cc bad)
  | inr no_feed ↦ elim (cases_Bool (b == 13)) [
    | inl ret ↦ let bad : CarriageReturn ≡ Target = rw (no_feed, ret) at h in absurd (cc bad)
    | inr no_return ↦ other_first b [] no_feed no_return h
  ]
]
in_blank (b ∷ c ∷ cs) h = elim (cases_Bool (b == 10)) [
  | inl feed ↦
      let rest = in_blank (c ∷ cs) (rw feed at h) in
      let same : b ≡ 10 = eqb-true b 10 feed in
      subst (λ (z : ℕ). EndsInTarget (z ∷ c ∷ cs)) (sym same) (with_end lf (c ∷ cs) rest)
  | inr no_feed ↦ elim (cases_Bool (b == 13)) [
    | inl ret ↦ elim (cases_Bool (c == 10)) [
      | inl feed ↦
          let rest = in_blank cs (rw (no_feed, ret, feed) at h) in
          let first : b ≡ 13 = eqb-true b 13 ret in
          let second : c ≡ 10 = eqb-true c 10 feed in
          subst (λ (z : ℕ). EndsInTarget (z ∷ c ∷ cs)) (sym first)
          (subst (λ (z : ℕ). EndsInTarget (13 ∷ z ∷ cs)) (sym second) (with_end crlf cs rest))
      | inr none ↦ absurd (no_way cs (rw (no_feed, ret, none) at h))
    ]
    | inr no_return ↦ other_first b (c ∷ cs) no_feed no_return h
  ]
]

-- ---- If the bytes end inside the target by the grammar, so does the state

no_token : (b n : ℕ) → is_token_byte b ≡ true → is_token_byte n ≡ false → (b == n) ≡ false
no_token b n token none = elim (cases_Bool (b == n)) [
  | inl same ↦ let bad : is_token_byte n ≡ true = subst (λ (z : ℕ). is_token_byte z ≡ true) (eqb-true b n same) token in
      let no : true ≡ false = sym bad ∙ none in cc no
  | inr other ↦ other
]

feed_none : is_token_byte 10 ≡ false
unfolding is_token_byte
feed_none = refl

return_none : is_token_byte 13 ≡ false
unfolding is_token_byte
return_none = refl

space_none : is_token_byte 32 ≡ false
unfolding is_token_byte
space_none = refl

target_run : (t : List ℕ) → AllPass is_uri_byte t → run Target t ≡ Target
target_run [] all = refl
target_run (b ∷ t) all =
    let uri : is_uri_byte b ≡ true = All-head (λ c. IsTrue (is_uri_byte c)) b t all in
    rw uri (target_run t (All-tail (λ c. IsTrue (is_uri_byte c)) b t all))

method_step : (b : ℕ) (bs : List ℕ) → (b == 32) ≡ false → is_token_byte b ≡ true → run Method (b ∷ bs) ≡ run Method bs
method_step b bs other token = rw (other, token) refl

start_step : (b : ℕ) (bs : List ℕ) → (b == 10) ≡ false → (b == 13) ≡ false → is_token_byte b ≡ true
    → run Blank (b ∷ bs) ≡ run Method bs
start_step b bs no_feed no_return token = rw (no_feed, no_return, token) refl

method_run : (m t : List ℕ) → AllPass is_token_byte m → AllPass is_uri_byte t → run Method (m ++ 32 ∷ t) ≡ Target
method_run [] t all uris = target_run t uris
method_run (b ∷ m) t all uris =
    let token : is_token_byte b ≡ true = All-head (λ c. IsTrue (is_token_byte c)) b m all in
    method_step b (m ++ 32 ∷ t) (no_token b 32 token space_none) token
    ∙ method_run m t (All-tail (λ c. IsTrue (is_token_byte c)) b m all) uris

start_run : (m t : List ℕ) → IsToken m → AllPass is_uri_byte t → run Blank (m ++ 32 ∷ t) ≡ Target
start_run [] t tok uris = absurd (omega (arith, tok.0))
start_run (b ∷ m) t tok uris =
    let token : is_token_byte b ≡ true = All-head (λ c. IsTrue (is_token_byte c)) b m tok.1 in
    start_step b (m ++ 32 ∷ t) (no_token b 10 token feed_none) (no_token b 13 token return_none) token
    ∙ method_run m t (All-tail (λ c. IsTrue (is_token_byte c)) b m tok.1) uris

blank_run : (ends : List LineEnd) (rest : List ℕ) → run Blank (print_blank ends ++ rest) ≡ run Blank rest
blank_run [] rest = refl
blank_run (crlf ∷ ends) rest = blank_run ends rest
blank_run (lf ∷ ends) rest = blank_run ends rest

pub reaches : (bs : List ℕ) → EndsInTarget bs → run Blank bs ≡ Target
reaches bs e = ap (λ z. run Blank z) (e.5 ∙ append_assoc (print_blank e.0) e.1 (32 ∷ e.2))
    ∙ blank_run e.0 (e.1 ++ 32 ∷ e.2) ∙ start_run e.1 e.2 e.3 e.4

pub target_is : (r : Reached) (bs : List ℕ) → r ≡ run Blank bs → ((r ≡ Target) → EndsInTarget bs)
    × (EndsInTarget bs → r ≡ Target)
target_is r bs e = (λ h. in_blank bs (sym e ∙ h), λ h. e ∙ reaches bs h)
