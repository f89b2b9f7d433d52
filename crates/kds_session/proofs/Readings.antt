-- Bytes fall into messages in one way, and further bytes change no message that was read.
use Rattle.std.proofs.Common.{◌≡◌, ◌≢◌, ℕ, ◌+◌, ◌-◌, ◌<◌, ◌≤◌, Option, Some, None, List, [], ◌∷◌, ◌++◌, length, take}
use Rattle.std.proofs.Common.{drop, sym, ap, ◌∙◌, subst, arith, refl, inl, inr, Bool, true, false}
use Rattle.std.specs.Prelude.{MatchBool, ◌==◌, ◌||◌, nat_le}
use Rattle.std.proofs.lemmas.Bool.Decides.{nat_tests}
use Rattle.std.proofs.lemmas.Bool.{MatchBool-at_false}
use Rattle.std.proofs.lemmas.List.{append_assoc, append-nil, length-append, take-append-le, drop-append-le, length-drop}
use Rattle.kds_base.proofs.Facts.{le_so, above_so}
use Rattle.kds_head.specs.declared.found.Head.{Head}
use Rattle.kds_head.specs.declared.found.Found.{Found}
use Rattle.kds_head.specs.declared.found.Found.TheVariants.{Need, Refused, Whole}
use Rattle.kds_head.specs.declared.numbers.TheConstants.{HEAD_BYTES, BODY_BYTES}
use Rattle.kds_head.specs.Find.{IsFound, IsWithinLimits}
use Rattle.kds_session.specs.declared.limits.TheConstants.{REQUESTS}
use Rattle.kds_session.specs.Messages.{Message, message_at, Begins, size, rest_of, Ending, boundary, inside, closed}
use Rattle.kds_session.specs.Messages.{refused, IsWhole, IsShort, IsUnfinished, Ends, Falls, closes_after}
use Rattle.kds_session.specs.declared.limits.TheConstants.{UNREAD_BYTES}
use Rattle.kds_session.specs.Standing.{GoesOn, going, end_in}
use Rattle.kds_session.specs.Steps.{IsKept}

-- A whole or refused head stays when more bytes follow.
abbrev pub HeadStays : Type 0
HeadStays = (bytes more : List ℕ) (found : Found) → IsFound bytes found → found ≢ Need → IsFound (bytes ++ more) found

-- The laws of heads: one finding, which stays, is within the limits, and needs more without bytes.
pub record HeadLaws : Type 0 where
  pub one : (bytes : List ℕ) (found other : Found) → IsFound bytes found → IsFound bytes other → found ≡ other
  pub stays : HeadStays
  pub limits : (bytes : List ℕ) (found : Found) → IsFound bytes found → IsWithinLimits bytes found
  pub none : IsFound [] Need

-- ---- Bytes fall into messages in one way at most

same_head : (h k : Head) → Whole h ≡ Whole k → h ≡ k
same_head h k e = cc

same_status : (s t : ℕ) → Refused s ≡ Refused t → s ≡ t
same_status s t e = cc

need_refused : (s : ℕ) → Need ≡ Refused s → ⊥
need_refused s e = cc

need_whole : (h : Head) → Need ≡ Whole h → ⊥
need_whole h e = cc

refused_whole : (s : ℕ) (h : Head) → Refused s ≡ Whole h → ⊥
refused_whole s h e = cc

pub same_message : HeadLaws → (bytes : List ℕ) (m n : Message) → Begins bytes m → Begins bytes n → m ≡ n
same_message laws bytes m n a b =
    a.1 ∙ ap (λ (k : Head). message_at bytes k) (same_head _ _ (laws.one bytes _ _ a.0.found b.0.found)) ∙ sym b.1

some_size : HeadLaws → (bytes : List ℕ) (m : Message) → Begins bytes m → 0 < size m.head
some_size laws bytes m b = let within = laws.limits bytes (Whole m.head) b.0.found in omega (arith, within.some)

unfinished_begins : HeadLaws → (bytes : List ℕ) (m : Message) → IsUnfinished bytes → Begins bytes m → ⊥
unfinished_begins laws bytes m (inl need) b = need_whole m.head (laws.one bytes _ _ need b.0.found)
unfinished_begins laws bytes m (inr short) b =
    let h : short.0 ≡ m.head = same_head _ _ (laws.one bytes _ _ short.1.found b.0.found) in
    let s : size short.0 ≡ size m.head = ap size h in
    absurd (omega (arith, s, short.1.short, b.0.whole))

pub ends_begins : HeadLaws → (bytes : List ℕ) (e : Ending) (m : Message) → Ends bytes e → Begins bytes m → ⊥
ends_begins laws bytes boundary m e b = let some = some_size laws bytes m b in
    absurd (omega (arith, some, b.0.whole, ap length e))
ends_begins laws bytes inside m e b = unfinished_begins laws bytes m e.1 b
ends_begins laws bytes (refused s) m e b = refused_whole s m.head (laws.one bytes _ _ e b.0.found)
ends_begins laws bytes closed m e b = e

unfinished_refused : HeadLaws → (bytes : List ℕ) (s : ℕ) → IsUnfinished bytes → IsFound bytes (Refused s) → ⊥
unfinished_refused laws bytes s (inl need) f = need_refused s (laws.one bytes _ _ need f)
unfinished_refused laws bytes s (inr short) f = refused_whole s short.0 (laws.one bytes _ _ f short.1.found)

empty_refused : HeadLaws → (bytes : List ℕ) (s : ℕ) → bytes ≡ [] → IsFound bytes (Refused s) → ⊥
empty_refused laws bytes s e f =
    need_refused s (laws.one [] Need (Refused s) laws.none (subst (λ (z : List ℕ). IsFound z (Refused s)) e f))

one_ending : HeadLaws → (bytes : List ℕ) (e f : Ending) → Ends bytes e → Ends bytes f → e ≡ f
one_ending laws bytes boundary boundary a b = refl
one_ending laws bytes boundary inside a b = absurd (omega (arith, b.0, ap length a))
one_ending laws bytes boundary (refused s) a b = absurd (empty_refused laws bytes s a b)
one_ending laws bytes boundary closed a b = absurd b
one_ending laws bytes inside boundary a b = absurd (omega (arith, a.0, ap length b))
one_ending laws bytes inside inside a b = refl
one_ending laws bytes inside (refused s) a b = absurd (unfinished_refused laws bytes s a.1 b)
one_ending laws bytes inside closed a b = absurd b
one_ending laws bytes (refused s) boundary a b = absurd (empty_refused laws bytes s b a)
one_ending laws bytes (refused s) inside a b = absurd (unfinished_refused laws bytes s b.1 a)
one_ending laws bytes (refused s) (refused t) a b = ap refused (same_status s t (laws.one bytes _ _ a b))
one_ending laws bytes (refused s) closed a b = absurd b
one_ending laws bytes closed f a b = absurd a

cons_same : (m n : Message) (ms ns : List Message) → m ≡ n → ms ≡ ns → m ∷ ms ≡ n ∷ ns
cons_same m n ms ns e f = cc

pub one_way : HeadLaws → (old : ℕ) (bytes : List ℕ) (ms ns : List Message) (e f : Ending) → Falls old bytes ms e
    → Falls old bytes ns f → (ms ≡ ns) × (e ≡ f)
one_way laws old bytes [] [] e f a b = (refl, one_ending laws bytes e f a b)
one_way laws old bytes [] (n ∷ ns) e f a b = absurd (ends_begins laws bytes e n a b.0)
one_way laws old bytes (m ∷ ms) [] e f a b = absurd (ends_begins laws bytes f m b a.0)
one_way laws old bytes (m ∷ ms) (n ∷ ns) e f a b =
    let same = same_message laws bytes m n a.0 b.0 in
    let after : MatchBool (closes_after (old + 1) m.head) ((ns ≡ [])
    × (f ≡ closed)) (Falls (old + 1) (rest_of bytes m) ns f)
    = subst (λ (k : Message).
    MatchBool (closes_after (old + 1) k.head) ((ns ≡ []) × (f ≡ closed)) (Falls (old + 1) (rest_of bytes k) ns f))
    (sym same) b.1 in
    let later = by_close (closes_after (old + 1) m.head) ms ns e f (Falls (old + 1) (rest_of bytes m) ms e)
    (Falls (old + 1) (rest_of bytes m) ns f) (one_way laws (old + 1) (rest_of bytes m) ms ns e f) a.1 after in
    (cons_same m n ms ns same later.0, later.1)
  where
    by_close : (close : Bool) (ms ns : List Message) (e f : Ending) (P Q : Type 0) → (P → Q → (ms ≡ ns) × (e ≡ f))
        → MatchBool close ((ms ≡ []) × (e ≡ closed)) P → MatchBool close ((ns ≡ []) × (f ≡ closed)) Q
        → (ms ≡ ns) × (e ≡ f)
    by_close true ms ns e f P Q go a b = (a.0 ∙ sym b.0, a.1 ∙ sym b.1)
    by_close false ms ns e f P Q go a b = go a b

-- ---- More bytes follow

pub begins_at : (bytes : List ℕ) (head : Head) → IsWhole bytes head → Begins bytes (message_at bytes head)
begins_at bytes head whole = (whole, refl)

body_more : (bytes more : List ℕ) (head : Head) → size head ≤ length bytes
    → take head.body (drop head.length bytes) ≡ take head.body (drop head.length (bytes ++ more))
body_more bytes more head whole =
    let first : drop head.length (bytes ++ more) ≡ drop head.length bytes ++ more =
    drop-append-le head.length bytes more (omega arith) in
    let room : head.body ≤ length (drop head.length bytes) = omega (arith, whole, length-drop head.length bytes) in
    sym (ap (λ z. take head.body z) first ∙ take-append-le head.body (drop head.length bytes) more room)

pub begins_more : HeadLaws → (bytes more : List ℕ) (m : Message) → Begins bytes m → Begins (bytes ++ more) m
begins_more laws bytes more m b = (
  record {
    found = laws.stays bytes more (Whole m.head) b.0.found (λ e. need_whole m.head (sym e));
    whole = omega (arith, b.0.whole, length-append bytes more);
  },
  b.1 ∙ ap (λ (z : List ℕ). let x : Message = record { head = m.head; body = z } in
      x) (body_more bytes more m.head b.0.whole),
)

rest_more : (bytes more : List ℕ) (m : Message) → Begins bytes m → rest_of (bytes ++ more) m ≡ rest_of bytes m ++ more
rest_more bytes more m b = drop-append-le (size m.head) bytes more b.0.whole

-- The next request is the last one allowed exactly if at most one is left.
pub last_is : (done left : ℕ) → done + left ≡ REQUESTS → 0 < left → (done + 1 == REQUESTS) ≡ nat_le left 1
last_is done left e some = grind (arith, nat_tests)

match_false : (b : Bool) (P Q : Type 0) → b ≡ false → Q → MatchBool b P Q
match_false b P Q e q = rw e q

match_true : (b : Bool) (P Q : Type 0) → b ≡ true → P → MatchBool b P Q
match_true b P Q e p = rw e p

-- ---- A connection that goes on, and how it ends

pub goes_fed : (fed : List ℕ) (done : List Message) (left : ℕ) (unread bytes : List ℕ) → GoesOn fed done left unread
    → GoesOn (fed ++ bytes) done left (unread ++ bytes)
goes_fed fed done left unread bytes g = record {
  count = g.count;
  some_left = g.some_left;
  onward = λ more ms e f.
      subst (λ (z : List ℕ). Falls 0 z (done ++ ms) e) (sym (append_assoc fed bytes more))
      (g.onward (bytes ++ more) ms e
      (subst (λ (z : List ℕ). Falls (length done) z ms e) (append_assoc unread bytes more) f));
  back = λ more all e f.
      let b = g.back (bytes ++ more) all e (subst (λ (z : List ℕ). Falls 0 z all e) (append_assoc fed bytes more) f) in
      (b.0, b.1, subst (λ (z : List ℕ). Falls (length done) z b.0 e) (sym (append_assoc unread bytes more)) b.2);
}

not_last : (n left : ℕ) (close : Bool) → n + left ≡ REQUESTS → 0 < left → (close || n + 1 == REQUESTS) ≡ false
    → 1 < left
not_last n left true e some h = absurd (cc)
not_last n left false e some h = grind (arith, nat_tests)

past : HeadLaws → (n : ℕ) (unread more : List ℕ) (m : Message) (ms : List Message) (e : Ending) → Begins unread m
    → closes_after (n + 1) m.head ≡ false
    → Falls n (unread ++ more) ms e → (rest : List Message) × (ms ≡ m ∷ rest)
    × Falls (n + 1) (rest_of unread m ++ more) rest e
past laws n unread more m [] e b close f =
    absurd (ends_begins laws (unread ++ more) e m f (begins_more laws unread more m b))
past laws n unread more m (k ∷ ms) e b close f =
    let same = same_message laws (unread ++ more) k m f.0 (begins_more laws unread more m b) in
    let after = subst (λ (x : Message).
    MatchBool (closes_after (n + 1) x.head) ((ms ≡ [])
    × (e ≡ closed)) (Falls (n + 1) (rest_of (unread ++ more) x) ms e)) same f.1 in (
      ms,
      cons_same k m ms ms same refl,
      subst (λ (z : List ℕ). Falls (n + 1) z ms e) (rest_more unread more m b)
          (MatchBool-at_false _ _ close after),
    )

pub goes_past : HeadLaws → (fed : List ℕ) (done : List Message) (left : ℕ) (unread : List ℕ) (m : Message)
    → GoesOn fed done left unread → Begins unread m
    → closes_after (length done + 1) m.head ≡ false → GoesOn fed (done ++ m ∷ []) (left - 1) (rest_of unread m)
goes_past laws fed done left unread m g b more_come =
    let len : length (done ++ m ∷ []) ≡ length done + 1 = length-append done (m ∷ []) in
    let left_some : 1 < left = not_last (length done) left m.head.close g.count g.some_left more_come in
    record {
      count = omega (arith, len, g.count, left_some);
      some_left = omega arith;
      onward = λ more ms e f.
          let f' : Falls (length done + 1) (rest_of (unread ++ more) m) ms e
          = subst (λ (n : ℕ). Falls n (rest_of (unread ++ more) m) ms e) len
          (subst (λ (z : List ℕ). Falls (length (done ++ m ∷ [])) z ms e) (sym (rest_more unread more m b)) f) in
          let whole = g.onward more (m ∷ ms) e (
            begins_more laws unread more m b,
            match_false (closes_after (length done + 1) m.head) _ _ more_come f',
          ) in
          subst (λ (z : List Message). Falls 0 (fed ++ more) z e) (sym (append_assoc done (m ∷ []) ms)) whole;
      back = λ more all e f.
          let b1 = g.back more all e f in
          let b2 = past laws (length done) unread more m b1.0 e b more_come b1.2 in (
            b2.0,
            b1.1 ∙ ap (λ z. done ++ z) b2.1 ∙ sym (append_assoc done (m ∷ []) b2.0),
            subst (λ (n : ℕ). Falls n (rest_of unread m ++ more) b2.0 e) (sym len) b2.2,
          );
    }

pub goes_last : HeadLaws → (fed : List ℕ) (done : List Message) (left : ℕ) (unread : List ℕ) (m : Message)
    → GoesOn fed done left unread → Begins unread m
    → closes_after (length done + 1) m.head ≡ true → (more : List ℕ) → Falls 0 (fed ++ more) (done ++ m ∷ []) closed
goes_last laws fed done left unread m g b close more =
    g.onward more (m ∷ []) closed (
      begins_more laws unread more m b,
      match_true (closes_after (length done + 1) m.head) _ _ close (refl, refl),
    )

pub goes_refused : HeadStays → (fed : List ℕ) (done : List Message) (left : ℕ) (unread : List ℕ) (s : ℕ)
    → GoesOn fed done left unread → IsFound unread (Refused s)
    → (more : List ℕ) → Falls 0 (fed ++ more) done (refused s)
goes_refused stays fed done left unread s g f more =
    subst (λ (z : List Message). Falls 0 (fed ++ more) z (refused s)) (append-nil done)
    (g.onward more [] (refused s) (stays unread more (Refused s) f (λ e. need_refused s (sym e))))

at_end : (fed : List ℕ) (done : List Message) (left : ℕ) (unread : List ℕ) (e : Ending) → GoesOn fed done left unread
    → Ends unread e → Falls 0 fed done e
at_end fed done left unread e g f =
    subst (λ (z : List ℕ). Falls 0 z done e) (append-nil fed)
    (subst (λ (z : List Message). Falls 0 (fed ++ []) z e) (append-nil done)
    (g.onward [] [] e (subst (λ (z : List ℕ). Ends z e) (sym (append-nil unread)) f)))

-- Without a whole unread message, the bytes end between two messages or inside one.
pub goes_ending : (fed : List ℕ) (done : List Message) (left : ℕ) (unread : List ℕ) → GoesOn fed done left unread
    → IsUnfinished unread → Falls 0 fed done (end_in going unread)
goes_ending fed done left [] g u = at_end fed done left [] boundary g refl
goes_ending fed done left (x ∷ xs) g u = at_end fed done left (x ∷ xs) inside g (omega arith, u)

-- ---- Whether the body is whole

pub whole_by : (bytes : List ℕ) (head : Head) → IsFound bytes (Whole head) → nat_le (size head) (length bytes) ≡ true
    → IsWhole bytes head
whole_by bytes head f e = record { found = f; whole = le_so _ _ e }

pub short_by : (bytes : List ℕ) (head : Head) → IsFound bytes (Whole head) → nat_le (size head) (length bytes) ≡ false
    → IsShort bytes head
short_by bytes head f e = record { found = f; short = above_so _ _ e }

-- ---- The bytes of an unfinished message

few_bytes : (n size length body : ℕ) → n < size → size ≡ length + body → length ≤ HEAD_BYTES → body ≤ BODY_BYTES
    → n < HEAD_BYTES + BODY_BYTES
few_bytes n size length body h e a b = omega arith

pub unfinished_short : ((bytes : List ℕ) (found : Found) → IsFound bytes found → IsWithinLimits bytes found)
    → (bytes : List ℕ) → IsUnfinished bytes → length bytes < HEAD_BYTES + BODY_BYTES
unfinished_short limits bytes (inl need) = let few = limits bytes Need need in omega arith
unfinished_short limits bytes (inr short) =
    let within = limits bytes (Whole short.0) short.1.found in
    few_bytes (length bytes) (size short.0) short.0.length short.0.body short.1.short refl within.head within.body

-- ---- A head that is kept

pub kept_more : HeadStays → (bytes more new : List ℕ) (kept : Option Head) → new ≡ bytes ++ more → IsKept bytes kept
    → IsKept new kept
kept_more stays bytes more new None e k = tt
kept_more stays bytes more new (Some h) e k =
    subst (λ (z : List ℕ). IsFound z (Whole h)) (sym e) (stays bytes more (Whole h) k (λ e. need_whole h (sym e)))

pub fed_fits : (bytes more new : List ℕ) → new ≡ bytes ++ more → length more ≤ UNREAD_BYTES - length bytes
    → length bytes ≤ UNREAD_BYTES → length new ≤ UNREAD_BYTES
fed_fits bytes more new e room few = let n : length new ≡ length bytes + length more =
    ap length e ∙ length-append bytes more in omega arith
