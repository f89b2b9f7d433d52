-- The bytes of an input so far decide its first lines, whatever follows.
use Rattle.std.proofs.Common.{◌≡◌, ℕ, zero, suc, ◌+◌, ◌<◌, ◌≤◌, List, [], ◌∷◌, ◌++◌, length, take, drop, Bool, true}
use Rattle.std.proofs.Common.{false, Option, Some, None, cond, refl, sym, ap, subst, ◌∙◌, arith, inl, inr, ◌⊎◌}
use Rattle.std.proofs.lemmas.Grind.{common_steps}
use Rattle.std.proofs.lemmas.Bool.{cases_Bool, eqb-true}
use Rattle.std.proofs.lemmas.List.{append_assoc, append-nil, length-append, drop-drop}
use Rattle.std.proofs.lemmas.List.Splits.{slice_split-cons_yes, slice_split-cons_no}
use Rattle.std.specs.List.{onto_first}
use Rattle.std.specs.Prelude.{◌==◌, MatchOption}
use Rattle.memchr.specs.Find.{IsFirstByte, Passes, is_byte}
use Rattle.kds_defs.specs.declared.limits.TheConstants.{LINE_BYTES, INPUT_BYTES}
use Rattle.kds_lines.specs.Lines.{too_long, unfinished, pieces, is_too_long, is_feed, ended, preceded, last_of}
use Rattle.kds_lines.specs.Lines.{lined_from}
use Rattle.kds_lines.specs.Lines.{lined, preceded_by, Fed, Begins, IsTooLong, NoFeed, HasFeedAt}

-- ---- The first line feed

no_other : (b : ℕ) → ((b == 10) ≡ true → ⊥) → (b == 10) ≡ false
no_other b differs = elim (cases_Bool (b == 10)) [
  | inl same ↦ absurd (differs same)
  | inr other ↦ other
]

none_before : (bytes : List ℕ) (index : ℕ) → ((k : ℕ) → k < index → k < length bytes → Passes (is_byte 10) bytes k → ⊥)
    → NoFeed (take index bytes)
none_before [] zero h = tt
none_before [] (suc index) h = tt
none_before (b ∷ bs) zero h = tt
none_before (b ∷ bs) (suc index) h = (
  no_other b (h 0 (omega arith) (omega arith)),
  none_before bs index (λ k low within. h (suc k) (omega arith) (omega arith)),
)

nowhere : (bytes : List ℕ) → ((k : ℕ) → k < length bytes → Passes (is_byte 10) bytes k → ⊥) → NoFeed bytes
nowhere [] h = tt
nowhere (b ∷ bs) h = (no_other b (h 0 (omega arith)), nowhere bs (λ k within. h (suc k) (omega arith)))

parted : (bytes : List ℕ) (index : ℕ) → index < length bytes → Passes (is_byte 10) bytes index
    → bytes ≡ take index bytes ++ 10 ∷ drop (suc index) bytes
parted [] index within here = absurd (omega arith)
parted (b ∷ bs) zero within here = ap (λ x. x ∷ bs) (eqb-true b 10 here)
parted (b ∷ bs) (suc index) within here = ap (λ rest. b ∷ rest) (parted bs index (omega arith) here)

pub first_is : (bytes : List ℕ) (r : Option ℕ) → IsFirstByte (is_byte 10) bytes r
    → MatchOption r (NoFeed bytes) (HasFeedAt bytes)
first_is bytes None h = nowhere bytes (λ k within. h k (omega arith) within)
first_is bytes (Some index) h =
    let next : suc index ≡ index + 1 = omega arith in
    record {
      within = h.0.high;
      before = none_before bytes index (λ k low within. h.0.before k (omega arith) low);
      parts = parted bytes index h.0.high h.1 ∙ ap (λ n. take index bytes ++ 10 ∷ drop n bytes) next;
    }

pub feed_parts : (rest tail after next : List ℕ) (index : ℕ) → HasFeedAt rest index → tail ≡ take index rest
    → after ≡ drop index rest → next ≡ drop 1 after
    → (rest ≡ (tail ++ 10 ∷ []) ++ next) × NoFeed tail
feed_parts rest tail after next index c et ea en =
    let e : next ≡ drop (index + 1) rest = en ∙ ap (λ z. drop 1 z) ea ∙ drop-drop 1 index rest in (
      c.parts ∙ ap (λ z. z ++ 10 ∷ drop (index + 1) rest) (sym et) ∙ ap (λ z. tail ++ 10 ∷ z) (sym e)
          ∙ sym (append_assoc tail (10 ∷ []) next),
      subst (λ (z : List ℕ). NoFeed z) (sym et) c.before,
    )

-- ---- The parts between line feeds

-- A list of parts isn't empty.
abbrev IsCut : List (List ℕ) → Type 0
IsCut ps = (q : List ℕ) × (qs : List (List ℕ)) × (ps ≡ q ∷ qs)

onto_first_cut : (b : ℕ) (ps : List (List ℕ)) → IsCut (onto_first b ps)
onto_first_cut b [] = (b ∷ [], [], refl)
onto_first_cut b (q ∷ qs) = (b ∷ q, qs, refl)

cut_cond : (c : Bool) (ps : List (List ℕ)) (b : ℕ) → IsCut (cond c ([] ∷ ps) (onto_first b ps))
cut_cond true ps b = ([], ps, refl)
cut_cond false ps b = onto_first_cut b ps

pieces_cut : (bytes : List ℕ) → IsCut (pieces bytes)
pieces_cut [] = ([], [], refl)
pieces_cut (b ∷ bs) = cut_cond (is_feed b) (pieces bs) b

-- The parts with the bytes `a` before the first one.
abbrev onto_piece : List ℕ → List (List ℕ) → List (List ℕ)
onto_piece a [] = a ∷ []
onto_piece a (q ∷ qs) = (a ++ q) ∷ qs

onto_piece_cons : (b : ℕ) (a : List ℕ) (ps : List (List ℕ)) → IsCut ps
    → onto_first b (onto_piece a ps) ≡ onto_piece (b ∷ a) ps
onto_piece_cons b a [] c = refl
onto_piece_cons b a (q ∷ qs) c = refl

onto_nothing : (ps : List (List ℕ)) → IsCut ps → ps ≡ onto_piece [] ps
onto_nothing [] c = cc
onto_nothing (q ∷ qs) c = refl

pieces_onto : (a z : List ℕ) → NoFeed a → pieces (a ++ z) ≡ onto_piece a (pieces z)
pieces_onto [] z n = onto_nothing (pieces z) (pieces_cut z)
pieces_onto (b ∷ a) z n = slice_split-cons_no is_feed b (a ++ z) n.0 ∙ ap (onto_first b) (pieces_onto a z n.1)
    ∙ onto_piece_cons b a (pieces z) (pieces_cut z)

no_feed-append : (a b : List ℕ) → NoFeed a → NoFeed b → NoFeed (a ++ b)
no_feed-append [] b n m = m
no_feed-append (x ∷ a) b n m = (n.0, no_feed-append a b n.1 m)

pieces_none : (a : List ℕ) → NoFeed a → pieces a ≡ a ∷ []
pieces_none a n = ap pieces (sym (append-nil a)) ∙ pieces_onto a [] n ∙ ap (λ w. w ∷ []) (append-nil a)

pieces_feed : (a z : List ℕ) → NoFeed a → pieces (a ++ 10 ∷ z) ≡ a ∷ pieces z
pieces_feed a z n = pieces_onto a (10 ∷ z) n ∙ ap (λ q. onto_piece a q) (slice_split-cons_yes is_feed 10 z refl)
    ∙ ap (λ q. q ∷ pieces z) (append-nil a)

-- ---- Lines within the limits

lined_cut : (used : ℕ) (p : List ℕ) (ps : List (List ℕ)) → IsCut ps
    → lined_from used (p ∷ ps)
    ≡ cond (is_too_long (length p) (used + length p + 1)) (ended too_long)
    (preceded p (lined_from (used + length p + 1) ps))
lined_cut used p [] c = cc
lined_cut used p (q ∷ qs) c = refl

lined_first : (used : ℕ) (a z : List ℕ) → NoFeed a
    → lined_from used (pieces (a ++ 10 ∷ z))
    ≡ cond (is_too_long (length a) (used + length a + 1)) (ended too_long)
    (preceded a (lined_from (used + length a + 1) (pieces z)))
lined_first used a z n = ap (lined_from used) (pieces_feed a z n) ∙ lined_cut used a (pieces z) (pieces_cut z)

over_at : (len total : ℕ) → (LINE_BYTES < len) ⊎ (INPUT_BYTES < total) → is_too_long len total ≡ true
over_at len total h = grind (arith, common_steps)

last_over : (used : ℕ) (p : List ℕ) → 0 < length p → is_too_long (length p) (used + length p) ≡ true
    → last_of used p ≡ ended too_long
last_over used [] n h = absurd (omega arith)
last_over used (b ∷ bs) n h = ap (λ c. ended (cond c too_long unfinished)) h

longer : (used n m k : ℕ) → n ≤ m → (LINE_BYTES < n) ⊎ (INPUT_BYTES < used + n) → (LINE_BYTES < m)
    ⊎ (INPUT_BYTES < used + m + k)
longer used n m k le (inl h) = inl (omega arith)
longer used n m k le (inr h) = inr (omega arith)

lined_over : (used : ℕ) (a : List ℕ) (ps : List (List ℕ)) → IsCut ps → 0 < length a → (LINE_BYTES < length a)
    ⊎ (INPUT_BYTES < used + length a)
    → lined_from used (onto_piece a ps) ≡ ended too_long
lined_over used a [] c n h = cc
lined_over used a (q ∷ []) c n h =
    let l : length (a ++ q) ≡ length a + length q = length-append a q in
    let zero_more : used + length (a ++ q) + 0 ≡ used + length (a ++ q) = omega arith in
    let over : is_too_long (length (a ++ q)) (used + length (a ++ q) + 0) ≡ true =
    over_at _ _ (longer used (length a) (length (a ++ q)) 0 (omega arith) h) in
    last_over used (a ++ q) (omega arith) (rw zero_more at over)
lined_over used a (q ∷ r ∷ rs) c n h =
    let l : length (a ++ q) ≡ length a + length q = length-append a q in
    let over : is_too_long (length (a ++ q)) (used + length (a ++ q) + 1) ≡ true =
    over_at _ _ (longer used (length a) (length (a ++ q)) 1 (omega arith) h) in
    rw over refl

-- ---- Bytes are fed

feed_goes : (y a z : List ℕ) (ts : List (List ℕ)) (used : ℕ) (held : List ℕ) → Fed y ts used held → NoFeed a
    → lined ((y ++ (a ++ 10 ∷ [])) ++ z)
    ≡ preceded_by ts (cond (is_too_long (length (held ++ a)) (used + length (held ++ a) + 1)) (ended too_long)
    (preceded (held ++ a) (lined_from (used + length (held ++ a) + 1) (pieces z))))
feed_goes y a z ts used held f n =
    let whole_y : (y ++ (a ++ 10 ∷ [])) ++ z ≡ y ++ (a ++ 10 ∷ z) = simp append_assoc in
    let whole_held : held ++ (a ++ 10 ∷ z) ≡ (held ++ a) ++ 10 ∷ z = sym (append_assoc held a (10 ∷ z)) in
    ap lined whole_y ∙ f.goes_on (a ++ 10 ∷ z) ∙ ap (λ w. preceded_by ts (lined_from used (pieces w))) whole_held
    ∙ ap (preceded_by ts) (lined_first used (held ++ a) z (no_feed-append held a f.no_feed n))

pub line_fed : (y a : List ℕ) (ts : List (List ℕ)) (used : ℕ) (held : List ℕ) → Fed y ts used held → NoFeed a
    → is_too_long (length (held ++ a)) (used + length (held ++ a) + 1) ≡ false
    → Fed (y ++ (a ++ 10 ∷ [])) (ts ++ (held ++ a) ∷ []) (used + length (held ++ a) + 1) []
line_fed y a ts used held f n short = record {
  goes_on = λ more. feed_goes y a more ts used held f n
      ∙ ap (λ c. preceded_by ts
      (cond c (ended too_long) (preceded (held ++ a) (lined_from (used + length (held ++ a) + 1) (pieces more)))))
      short
      ∙ ap (λ w. record { texts = w; end = (lined_from (used + length (held ++ a) + 1) (pieces more)).end })
      (sym (append_assoc ts ((held ++ a) ∷ []) _));
  no_feed = tt;
}

nothing_more : (ts : List (List ℕ)) → preceded_by ts (ended too_long) ≡ record { texts = ts; end = too_long }
nothing_more ts = ap (λ w. record { texts = w; end = too_long }) (append-nil ts)

pub line_over : (y a : List ℕ) (ts : List (List ℕ)) (used : ℕ) (held : List ℕ) → Fed y ts used held → NoFeed a
    → is_too_long (length (held ++ a)) (used + length (held ++ a) + 1) ≡ true → IsTooLong (y ++ (a ++ 10 ∷ [])) ts
line_over y a ts used held f n over = λ more. feed_goes y a more ts used held f n
    ∙ ap (λ c. preceded_by ts
    (cond c (ended too_long) (preceded (held ++ a) (lined_from (used + length (held ++ a) + 1) (pieces more)))))
    over
    ∙ nothing_more ts

pub more_fed : (y a : List ℕ) (ts : List (List ℕ)) (used : ℕ) (held : List ℕ) → Fed y ts used held → NoFeed a
    → Fed (y ++ a) ts used (held ++ a)
more_fed y a ts used held f n = record {
  goes_on = λ z. ap lined (append_assoc y a z) ∙ f.goes_on (a ++ z)
      ∙ ap (λ w. preceded_by ts (lined_from used (pieces w))) (sym (append_assoc held a z));
  no_feed = no_feed-append held a f.no_feed n;
}

pub more_over : (y a : List ℕ) (ts : List (List ℕ)) (used : ℕ) (held : List ℕ) → Fed y ts used held → NoFeed a
    → 0 < length (held ++ a)
    → (LINE_BYTES < length (held ++ a)) ⊎ (INPUT_BYTES < used + length (held ++ a)) → IsTooLong (y ++ a) ts
more_over y a ts used held f n some over =
    let g = more_fed y a ts used held f n in
    λ z. g.goes_on z ∙ ap (λ w. preceded_by ts (lined_from used w)) (pieces_onto (held ++ a) z g.no_feed)
    ∙ ap (preceded_by ts) (lined_over used (held ++ a) (pieces z) (pieces_cut z) some over) ∙ nothing_more ts

pub at_end : (y : List ℕ) (ts : List (List ℕ)) (used : ℕ) (held : List ℕ) → Fed y ts used held
    → lined y ≡ preceded_by ts (last_of used held)
at_end y ts used held f =
    let none : held ++ [] ≡ held = append-nil held in
    ap lined (sym (append-nil y)) ∙ f.goes_on [] ∙ ap (λ w. preceded_by ts (lined_from used (pieces w))) none
    ∙ ap (λ w. preceded_by ts (lined_from used w)) (pieces_none held f.no_feed)

no_texts : (used : ℕ) (held : List ℕ) → (last_of used held).texts ≡ []
no_texts used [] = refl
no_texts used (b ∷ bs) = refl

pub lines_so_far : (y : List ℕ) (ts : List (List ℕ)) (used : ℕ) (held : List ℕ) → Fed y ts used held
    → (lined y).texts ≡ ts
lines_so_far y ts used held f =
    ap (λ l. l.texts) (at_end y ts used held f) ∙ ap (λ z. ts ++ z) (no_texts used held) ∙ append-nil ts

-- ---- The first lines of an input

pub fed_begins : (y : List ℕ) (ts : List (List ℕ)) (used : ℕ) (held : List ℕ) → Fed y ts used held → Begins y ts
fed_begins y ts used held f = λ more. (_, ap (λ l. l.texts) (f.goes_on more))

pub begins_more : (y z : List ℕ) (ts : List (List ℕ)) → Begins y ts → Begins (y ++ z) ts
begins_more y z ts b = λ more. let r = b (z ++ more) in (r.0, ap (λ w. (lined w).texts) (append_assoc y z more) ∙ r.1)

pub too_long_more : (y z : List ℕ) (ts : List (List ℕ)) → IsTooLong y ts → IsTooLong (y ++ z) ts
too_long_more y z ts d = λ more. ap lined (append_assoc y z more) ∙ d (z ++ more)
