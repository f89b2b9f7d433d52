-- Bytes have one finding, which stays when more follow and is within the limits; short heads have few headers.
use Rattle.std.proofs.Common.{◌≡◌, ◌≢◌, ℕ, ◌+◌, ◌*◌, ◌<◌, ◌≤◌, ◌⊎◌, List, [], ◌∷◌, ◌++◌, map, length, take, sym, ap}
use Rattle.std.proofs.Common.{◌∙◌, subst, arith, zero, suc, get_or, refl, inl, inr, codes, Bool, true, false, Result}
use Rattle.std.proofs.Common.{Ok, Err}
use Rattle.std.specs.Prelude.{◌==◌, min, if◌then◌else◌, nat_lt, All, IsTrue, IfOk}
use Rattle.std.specs.Str.{IsUtf8, is_utf8, chars}
use Rattle.std.proofs.lemmas.Str.{IsUtf8-from_is_utf8}
use Rattle.std.proofs.lemmas.Bool.Decides.{nat_tests}
use Rattle.std.proofs.lemmas.List.{append_assoc, append-nil, length-append, length-take}
use Rattle.std.proofs.lemmas.List.Elements.{All-nil, All-cons, All-head, All-tail}
use Rattle.std.specs.List.{flat_map}
use Rattle.kds_base.proofs.Facts.{equal_so}
use Rattle.httparse.proofs.GrammarLemmas.{request_unique, ReadsRequest-append}
use Rattle.httparse.specs.Grammar.{NeverHasRequest, HasNoRequest, MayBecomeRequest, LineEnd, crlf, lf, print_end}
use Rattle.httparse.specs.Grammar.{print_blank, Field, IsField, print_field, RequestHead, IsRequestHead, IsToken}
use Rattle.httparse.specs.Grammar.{AllPass, is_token_byte, is_uri_byte, print_request}
use Rattle.httparse.specs.Spans.{RequestExceeds, name_and_value}
use Rattle.kds_head.specs.declared.found.Found.{Found}
use Rattle.kds_head.specs.declared.found.Found.TheVariants.{Need, Refused, Whole}
use Rattle.kds_head.specs.declared.numbers.TheConstants.{HEAD_BYTES, BODY_BYTES}
use Rattle.kds_head.specs.Headers.{Headers}
use Rattle.kds_head.specs.Response.{is_refusal}
use Rattle.kds_head.specs.Table.{judged, judged_by, refused◌if◌else◌}
use Rattle.kds_head.specs.Find.{NeverBecomesHead, IsFoundIn, IsFound, IsWithinLimits}

end_some : (e : LineEnd) → 1 ≤ length (print_end e)
end_some crlf = omega arith
end_some lf = omega arith

field_three : (f : Field) → 0 < length f.name → 3 ≤ length (print_field f)
field_three f h =
    let whole : length (print_field f) ≡ length f.name + (1 + (length f.raw + length (print_end f.end))) =
    simp length-append (omega arith) in
    omega (arith, whole, end_some f.end)

fields_three : (fields : List Field) → ((k : ℕ) (d : Field) → k < length fields → IsField (get_or fields k d))
    → 3 * length fields ≤ length (flat_map print_field fields)
fields_three [] all = omega arith
fields_three (f ∷ fields) all =
    let first : IsField f = all zero f (omega arith) in
    let rest = fields_three fields (λ k d h. all (suc k) d (omega arith)) in
    let parts : length (print_field f ++ flat_map print_field fields) ≡ length (print_field f)
    + length (flat_map print_field fields) = length-append (print_field f) _ in
    omega (arith, parts, rest, field_three f first.name.0)

head_fields : (h : RequestHead) → length (flat_map print_field h.fields) + 2 ≤ length (print_request h)
unfolding print_request
head_fields h = simp length-append (omega arith)

-- A head of few bytes has few headers.
pub too_many_bytes : (room : ℕ) (buf : List ℕ) → length buf ≤ 3 * room + 2 → RequestExceeds room buf → ⊥
too_many_bytes room buf short e =
    let h = e.3 in
    let three = fields_three h.fields (λ k d lt. e.4.0.fields k d lt) in
    let whole : length buf ≡ length e.0 + length e.1 = ap length e.2 ∙ length-append e.0 e.1 in
    let read : length e.0 + 1 ≡ length (print_request h) + 0 = sym (length-append e.0 (print_end lf)) ∙ ap length e.4.1
    ∙ length-append (print_request h) [] in
    absurd (omega (arith, short, three, whole, read, e.5, head_fields h))

at_most : (n k : ℕ) → nat_lt k n ≡ false → n ≤ k
at_most n k e = grind (arith, nat_tests)

-- ---- Bytes have one finding at most

pub none_now : (front : List ℕ) → NeverHasRequest front → HasNoRequest front
none_now front never h rest reads = never [] h rest (reads.0, append-nil front ∙ reads.1)

never_may : (front : List ℕ) → NeverBecomesHead front → MayBecomeRequest front → ⊥
never_may front p (inl m) = p.0 m.0 m.1 [] m.2
never_may front p (inr inside) = p.1 inside

pub at_most_one_in : (front : List ℕ) (found other : Found) → IsFoundIn front found → IsFoundIn front other
    → found ≡ other
at_most_one_in front found other (inl a) (inl b) = a.2 ∙ ap judged (request_unique front a.0 b.0 _ _ a.1.1 b.1.1).0
    ∙ sym b.2
at_most_one_in front found other (inl a) (inr (inl b)) = absurd (none_now front b.0.0 a.0 a.1.0 a.1.1)
at_most_one_in front found other (inl a) (inr (inr b)) = absurd (b.0.0 a.0 a.1.0 a.1.1)
at_most_one_in front found other (inr (inl a)) (inl b) = absurd (none_now front a.0.0 b.0 b.1.0 b.1.1)
at_most_one_in front found other (inr (inl a)) (inr (inl b)) = a.1 ∙ sym b.1
at_most_one_in front found other (inr (inl a)) (inr (inr b)) = absurd (never_may front a.0 b.0.1)
at_most_one_in front found other (inr (inr a)) (inl b) = absurd (a.0.0 b.0 b.1.0 b.1.1)
at_most_one_in front found other (inr (inr a)) (inr (inl b)) = absurd (never_may front b.0 a.0.1)
at_most_one_in front found other (inr (inr a)) (inr (inr b)) = a.1 ∙ sym b.1

-- ---- What was found stays when more bytes follow

never_more : (front more : List ℕ) → NeverHasRequest front → NeverHasRequest (front ++ more)
never_more front more never rest h r reads =
    never (more ++ rest) h r (reads.0, sym (append_assoc front more rest) ∙ reads.1)

cuts : (a b c d : List ℕ) → a ++ b ≡ c ++ d → ((m : List ℕ) × (c ≡ a ++ m))
    ⊎ ((m : List ℕ) × (a ≡ c ++ m) × (m ++ b ≡ d))
cuts [] b c d e = inl (c, refl)
cuts (x ∷ a) b [] d e = inr (x ∷ a, refl, e)
cuts (x ∷ a) b (y ∷ c) d e = both (cuts a b c d (cc))
  where
    same : x ≡ y
    same = cc

    both : ((m : List ℕ) × (c ≡ a ++ m)) ⊎ ((m : List ℕ) × (a ≡ c ++ m) × (m ++ b ≡ d))
        → ((m : List ℕ) × (y ∷ c ≡ (x ∷ a) ++ m)) ⊎ ((m : List ℕ) × (x ∷ a ≡ (y ∷ c) ++ m) × (m ++ b ≡ d))
    both (inl p) = inl (p.0, rw (same, p.1) refl)
    both (inr p) = inr (p.0, rw (same, p.1) refl, p.2)

-- The shortest head with the given empty lines and method.
abbrev short_head : List LineEnd → List ℕ → RequestHead
short_head blank method =
    record { blank = blank; method = method; target = 47 ∷ []; minor = 1; line_end = lf; fields = []; last = lf }

all_front : (P : ℕ → Type 0) (xs ys : List ℕ) → All P (xs ++ ys) → All P xs
all_front P [] ys all = All-nil P
all_front P (x ∷ xs) ys all =
    All-cons P x xs (All-head P x (xs ++ ys) all) (all_front P xs ys (All-tail P x (xs ++ ys) all))

slash : IsUtf8 (47 ∷ [])
unfolding is_utf8 chars lib.Utf8.encode
slash = IsUtf8-from_is_utf8 (47 ∷ []) refl

is_short_head : (blank : List LineEnd) (method : List ℕ) → IsToken method → IsRequestHead (short_head blank method)
is_short_head blank method token = record {
  method = token;
  target = (omega arith, All-cons (λ b. IsTrue (is_uri_byte b)) 47 [] refl (All-nil (λ b. IsTrue (is_uri_byte b))));
  target_text = slash;
  minor = omega arith;
  fields = All-nil IsField;
}

short_rest : List ℕ
short_rest = 47 ∷ 32 ∷ codes "HTTP/1.1" ++ 10 ∷ 10 ∷ []

short_printed : (blank : List LineEnd) (method : List ℕ)
    → print_request (short_head blank method) ≡ ((print_blank blank ++ method) ++ 32 ∷ []) ++ short_rest
unfolding print_request short_rest
short_printed blank method = simp append_assoc

pub may_before : (front more : List ℕ) → MayBecomeRequest (front ++ more) → MayBecomeRequest front
may_before front more (inl m) = inl (more ++ m.0, m.1, (m.2.0, sym (append_assoc front more m.0) ∙ m.2.1))
may_before front more (inr e) =
    either (cuts front more start e.2 (e.5 ∙ sym (append_assoc (print_blank e.0 ++ e.1) (32 ∷ []) e.2)))
  where
    start : List ℕ
    start = (print_blank e.0 ++ e.1) ++ 32 ∷ []

    either : ((m : List ℕ) × (start ≡ front ++ m)) ⊎ ((m : List ℕ) × (front ≡ start ++ m) × (m ++ more ≡ e.2))
        → MayBecomeRequest front
    either (inl p) = inl (
      p.0 ++ short_rest,
      short_head e.0 e.1,
      (
        is_short_head e.0 e.1 e.3,
        sym (append_assoc front p.0 short_rest) ∙ ap (λ z. z ++ short_rest) (sym p.1) ∙ sym (short_printed e.0 e.1)
            ∙ sym (append-nil _),
      ),
    )
    either (inr p) =
        let all : AllPass is_uri_byte (p.0 ++ more) = subst (λ (z : List ℕ). AllPass is_uri_byte z) (sym p.2) e.4 in
        inr (
          e.0,
          e.1,
          p.0,
          e.3,
          all_front (λ b. IsTrue (is_uri_byte b)) p.0 more all,
          p.1 ∙ append_assoc (print_blank e.0 ++ e.1) (32 ∷ []) p.0,
        )

open_is : (b : Bool) (found : Found) → found ≡ (if b then Refused 431 else Need) → found ≢ Need → b ≡ true
open_is true found e n = refl
open_is false found e n = absurd (n e)

no_room : (front m : List ℕ) → length front ≡ 16384 → length (front ++ m) ≤ 16384 → m ≡ []
no_room front [] e l = refl
no_room front (x ∷ m) e l = absurd (omega (arith, length-append front (x ∷ m)))

pub stays_in : (front m : List ℕ) (found : Found) → length (front ++ m) ≤ 16384 → IsFoundIn front found → found ≢ Need
    → IsFoundIn (front ++ m) found
stays_in front m found l (inl a) n = inl (a.0, (a.1.0 ++ m, ReadsRequest-append front a.0 a.1.0 m a.1.1), a.2)
stays_in front m found l (inr (inl b)) n =
    inr (inl ((never_more front m b.0.0, λ e. never_may front b.0 (may_before front m (inr e))), b.1))
stays_in front m found l (inr (inr c)) n =
    let full : length front ≡ 16384 = equal_so _ _ (open_is (length front == 16384) found c.1 n) in
    let same : front ++ m ≡ front = ap (λ z. front ++ z) (no_room front m full l) ∙ append-nil front in
    subst (λ (z : List ℕ). IsFoundIn z found) (sym same) (inr (inr c))

front_grows : (n : ℕ) (xs ys : List ℕ) → (m : List ℕ) × (take n (xs ++ ys) ≡ take n xs ++ m)
front_grows zero xs ys = ([], refl)
front_grows (suc n) [] ys = (take (suc n) ys, refl)
front_grows (suc n) (x ∷ xs) ys = let r = front_grows n xs ys in (r.0, ap (λ z. x ∷ z) r.1)

front_short : (n : ℕ) (xs : List ℕ) → length (take n xs) ≤ n
front_short n xs = omega (arith, length-take n xs)

-- A found head or refusal stays when more bytes follow.
pub stays_found : (bytes more : List ℕ) (found : Found) → IsFound bytes found → found ≢ Need
    → IsFound (bytes ++ more) found
stays_found bytes more found f n = by_front (front_grows 16384 bytes more)
  where
    by_front : ((m : List ℕ) × (take 16384 (bytes ++ more) ≡ take 16384 bytes ++ m))
        → IsFoundIn (take 16384 (bytes ++ more)) found
    by_front g =
        let short : length (take 16384 bytes ++ g.0) ≤ 16384 =
        subst (λ (z : List ℕ). length z ≤ 16384) g.1 (front_short 16384 (bytes ++ more)) in
        subst (λ (z : List ℕ). IsFoundIn z found) (sym g.1) (stays_in (take 16384 bytes) g.0 found short f n)

-- ---- A finding is within the limits

IsLimited : ℕ → Found → Type 0
IsLimited bytes Need = ⊥
IsLimited bytes (Refused status) = is_refusal status ≡ true
IsLimited bytes (Whole head) = (head.length ≡ bytes) × (head.body ≤ BODY_BYTES)

limited_step : (bytes s : ℕ) (b : Bool) (later : Found) → is_refusal s ≡ true → (b ≡ false → IsLimited bytes later)
    → IsLimited bytes (refused s if b else later)
unfolding refused◌if◌else◌ IsLimited
limited_step bytes s true later k h = k
limited_step bytes s false later k h = h refl

limited_judged : (bytes : ℕ) (method target : List ℕ) (minor : ℕ) (headers : Headers)
    → IsLimited bytes (judged_by bytes method target minor headers)
unfolding IsLimited
limited_judged bytes method target minor headers =
    limited_step bytes 400 _ _ refl (λ _.
    limited_step bytes 501 _ _ refl (λ _.
    limited_step bytes 411 _ _ refl (λ _.
    limited_step bytes 400 _ _ refl (λ _.
    limited_step bytes 413 _ _ refl (λ small.
    limited_step bytes 405 _ _ refl (λ _.
    limited_step bytes 404 _ _ refl (λ _. (refl, at_most _ _ small))))))))

known_open : (b : Bool) (bytes : List ℕ) → (length (take HEAD_BYTES bytes) == HEAD_BYTES) ≡ b
    → IsWithinLimits bytes (if b then Refused 431 else Need)
known_open true bytes e = refl
known_open false bytes e = few (length (take HEAD_BYTES bytes)) (length bytes) (length-take HEAD_BYTES bytes) e
  where
    few : (n all : ℕ) → n ≡ min HEAD_BYTES all → (n == HEAD_BYTES) ≡ false → all < HEAD_BYTES
    few n all m e = grind (arith, nat_tests)

print_some : (h : RequestHead) → 0 < length (print_request h)
unfolding print_request
print_some h = simp length-append (omega arith)

bounded : (bytes : List ℕ) (size : ℕ) (found : Found) → 0 < size → size ≤ length (take HEAD_BYTES bytes)
    → IsLimited size found → IsWithinLimits bytes found
unfolding IsLimited
bounded bytes size Need some fits h = absurd h
bounded bytes size (Refused status) some fits h = h
bounded bytes size (Whole head) some fits h = record {
  some = omega (arith, h.0);
  there = omega (arith, h.0, length-take HEAD_BYTES bytes);
  head = omega (arith, h.0, length-take HEAD_BYTES bytes);
  body = h.1;
}

front_size : (front : List ℕ) (h : RequestHead) (rest : List ℕ) → front ≡ print_request h ++ rest
    → length (print_request h) ≤ length front
front_size front h rest e = omega (arith, ap length e, length-append (print_request h) rest)

pub limits_in : (bytes : List ℕ) (found : Found) → IsFound bytes found → IsWithinLimits bytes found
limits_in bytes found (inl a) =
    let size = front_size (take HEAD_BYTES bytes) a.0 a.1.0 a.1.1.1 in
    bounded bytes (length (print_request a.0)) found (print_some a.0) size
    (subst (λ (f : Found). IsLimited (length (print_request a.0)) f) (sym a.2)
    (limited_judged _ a.0.method a.0.target a.0.minor (map name_and_value a.0.fields)))
limits_in bytes found (inr (inl b)) = subst (λ (f : Found). IsWithinLimits bytes f) (sym b.1) refl
limits_in bytes found (inr (inr c)) =
    subst (λ (f : Found). IsWithinLimits bytes f) (sym c.1)
    (known_open (length (take HEAD_BYTES bytes) == HEAD_BYTES) bytes refl)

pub limits : {E : Type 0} (bytes : List ℕ) (r : Result Found E) → IfOk r (IsFound bytes) → IfOk r (IsWithinLimits bytes)
limits bytes (Ok found) h = limits_in bytes found h
limits bytes (Err e) h = tt

method_token : IsToken (65 ∷ [])
unfolding is_token_byte
method_token = (
  omega arith,
  All-cons (λ b. IsTrue (is_token_byte b)) 65 [] refl (All-nil (λ b. IsTrue (is_token_byte b))),
)

pub empty_need : IsFound [] Need
empty_need = inr (inr (
  (no_head, inl (print_request least, least, (is_short_head [] (65 ∷ []) method_token, sym (append-nil _)))),
  refl,
))
  where
    least : RequestHead
    least = short_head [] (65 ∷ [])

    no_head : HasNoRequest []
    no_head h rest reads = absurd (omega (arith, print_some h, ap length reads.1, length-append (print_request h) rest))
