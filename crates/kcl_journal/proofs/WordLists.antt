-- The words of a text, between single spaces, and the batch of a read as a list of words.
use Rattle.std.proofs.Common.{◌≡◌, ℕ, ◌<◌, List, [], ◌∷◌, ◌++◌, length, map, arith, Bool, true, false, Option, Some}
use Rattle.std.proofs.Common.{None, refl, sym, ap, ◌∙◌, codes, decimal, subst}
use Rattle.std.proofs.lemmas.List.{append_assoc, append-nil, length-append}
use Rattle.std.proofs.lemmas.List.Splits.{join_with_byte-slice_split}
use Rattle.std.specs.List.{AllByRecursion, join_with_byte}
use Rattle.std.specs.Prelude.{◌==◌, if◌then◌else◌, option_map}
use Rattle.std.specs.Str.{bytes_eq}
use Rattle.std.proofs.lemmas.Slice.Eq.{bytes_eq-Decides}
use Rattle.kcl_script_fields.specs.Fields.{parted, Lacks, number}
use Rattle.kcl_script_fields.proofs.Parts.{parted_spells, bind_some, map_some}
use Rattle.kcl_script_fields.proofs.Forms.{IsForm, number_form, decimal_lacks}
use Rattle.kcl_script_fields.proofs.RawLemmas.{choose}
use Rattle.kcl_journal.specs.Ranges.{Is64}
use Rattle.kcl_journal.specs.Entries.{words, numbers_of, ended_of, ended_text, numbers_text, batch_from, batch_of}

pub words_found : (a b : List ℕ) → Lacks 32 a → words (a ++ 32 ∷ b) ≡ a ∷ words b
words_found [] b n = refl
words_found (x ∷ a) b n = rw (n.0, words_found a b n.1) refl

pub words_whole : (a : List ℕ) → Lacks 32 a → words a ≡ a ∷ []
words_whole [] n = refl
words_whole (x ∷ a) n = rw (n.0, words_whole a n.1) refl

-- The two parts with a further byte, not a space, in front.
abbrev onto : ℕ → Option (List ℕ × List ℕ) → Option (List ℕ × List ℕ)
onto b o = option_map (λ (q : List ℕ × List ℕ). let p : List ℕ × List ℕ = (b ∷ q.0, q.1) in p) o

nowhere_rest : (b : ℕ) (o : Option (List ℕ × List ℕ)) → onto b o ≡ None → o ≡ None
nowhere_rest b None h = refl
nowhere_rest b (Some q) h = absurd (cc)

nowhere_cases : (c : Bool) (b : ℕ) (bs : List ℕ) → (b == 32) ≡ c → (parted 32 bs ≡ None → Lacks 32 bs)
    → ◌≡◌ {A = Option (List ℕ × List ℕ)}
    (if◌then◌else◌ {A = Option (List ℕ × List ℕ)} c (Some ([], bs)) (onto b (parted 32 bs))) None
    → ((b == 32) ≡ false) × Lacks 32 bs
nowhere_cases true b bs c f h = absurd (cc)
nowhere_cases false b bs c f h = (c, f (nowhere_rest b (parted 32 bs) h))

pub nowhere_lacks : (text : List ℕ) → parted 32 text ≡ None → Lacks 32 text
nowhere_lacks [] h = tt
nowhere_lacks (b ∷ bs) h = nowhere_cases (b == 32) b bs refl (nowhere_lacks bs) h

pub words_parted : (text : List ℕ) (p : List ℕ × List ℕ) → parted 32 text ≡ Some p → words text ≡ p.0 ∷ words p.1
words_parted text p h =
    let s = parted_spells 32 text p h in
    ap words s.0 ∙ words_found p.0 p.1 s.1

pub words_nowhere : (text : List ℕ) → parted 32 text ≡ None → words text ≡ text ∷ []
words_nowhere text h = words_whole text (nowhere_lacks text h)

-- ---- Numbers in words

numbers_spell : (ws : List (List ℕ)) (ns : List ℕ) → numbers_of ws ≡ Some ns → AllByRecursion Is64 ns
    × (ws ≡ map decimal ns)
numbers_spell [] ns h =
    let same : [] ≡ ns = cc in
    subst (λ (z : List ℕ). AllByRecursion Is64 z × ([] ≡ map decimal z)) same (tt, refl)
numbers_spell (w ∷ ws) ns h =
    let a = bind_some (number w) _ ns h in
    let b = map_some (λ (ms : List ℕ). a.0 ∷ ms) (numbers_of ws) ns a.2 in
    let d = number_form.spells w a.0 a.1 in
    let e = numbers_spell ws b.0 b.1 in
    subst (λ (z : List ℕ). AllByRecursion Is64 z × (w ∷ ws ≡ map decimal z)) b.2 ((d.0, e.0), (λ i. d.1 i ∷ e.1 i))

numbers_again : (ns : List ℕ) → AllByRecursion Is64 ns → numbers_of (map decimal ns) ≡ Some ns
numbers_again [] v = refl
numbers_again (n ∷ ns) v = rw (number_form.again n v.0, numbers_again ns v.1) refl

-- ---- The word that says whether a read ended the shard

ended_spells : (w : List ℕ) (ended : Bool) → ended_of w ≡ Some ended → w ≡ ended_text ended
ended_spells w ended h = choose (bytes_eq w (codes "end")) _ _ ended h
    (λ same e. let is : true ≡ ended = cc in (bytes_eq-Decides w (codes "end")).0 same ∙ ap ended_text is)
    (λ h. choose (bytes_eq w (codes "more")) _ _ ended h
    (λ same e. let is : false ≡ ended = cc in (bytes_eq-Decides w (codes "more")).0 same ∙ ap ended_text is)
    (λ h. absurd (cc)))

ended_again : (ended : Bool) → ended_of (ended_text ended) ≡ Some ended
ended_again true = refl
ended_again false = refl

ended_lacks : (ended : Bool) → Lacks 32 (ended_text ended)
ended_lacks true = (refl, (refl, (refl, tt)))
ended_lacks false = (refl, (refl, (refl, (refl, tt))))

-- ---- The batch of a read

joined : (w : List ℕ) (ns : List ℕ) → join_with_byte 32 (w ∷ map decimal ns) ≡ w ++ numbers_text ns
joined w [] = sym (append-nil w)
joined w (n ∷ ns) = ap (λ z. w ++ 32 ∷ z) (joined (decimal n) ns)

parted_words : (w : List ℕ) (ns : List ℕ) → Lacks 32 w → AllByRecursion Is64 ns
    → words (w ++ numbers_text ns) ≡ w ∷ map decimal ns
parted_words w [] l v = ap words (append-nil w) ∙ words_whole w l
parted_words w (n ∷ ns) l v =
    words_found w (decimal n ++ numbers_text ns) l
    ∙ ap (λ z. w ∷ z) (parted_words (decimal n) ns (decimal_lacks 32 n refl v.0) v.1)

-- The batch's sequence numbers fit into 64 bits.
abbrev pub IsBatch : Bool × List ℕ → Type 0
IsBatch a = AllByRecursion Is64 a.1

-- A batch's text: `end` or `more`, then the sequence numbers.
abbrev pub batch_text : Bool × List ℕ → List ℕ
batch_text a = ended_text a.0 ++ numbers_text a.1

spelled_from : (ws : List (List ℕ)) (text : List ℕ) (a : Bool × List ℕ) → join_with_byte 32 ws ≡ text
    → batch_from ws ≡ Some a → IsBatch a × (text ≡ batch_text a)
spelled_from [] text a j h = absurd (cc)
spelled_from (w ∷ ws) text a j h =
    let e = bind_some (ended_of w) _ a h in
    let m = map_some (λ (ns : List ℕ). (e.0, ns)) (numbers_of ws) a e.2 in
    let n = numbers_spell ws m.0 m.1 in
    let is : w ∷ ws ≡ ended_text e.0 ∷ map decimal m.0 = λ i. ended_spells w e.0 e.1 i ∷ n.1 i in
    subst (λ (z : Bool × List ℕ). IsBatch z × (text ≡ batch_text z)) m.2 (
      n.0,
      sym j ∙ ap (join_with_byte 32) is
          ∙ joined (ended_text e.0) m.0,
    )

pub batch_form : IsForm IsBatch batch_of batch_text
batch_form = record {
  spells = λ text a h. spelled_from (words text) text a (join_with_byte-slice_split 32 text) h;
  again = λ a v. ap batch_from (parted_words (ended_text a.0) a.1 (ended_lacks a.0) v)
      ∙ rw (ended_again a.0, numbers_again a.1 v) refl;
}

-- ---- The words as a loop finds them, one after another

-- The numbers so far before the others, or None if another word isn't a number.
abbrev pub with_front : List ℕ → Option (List ℕ) → Option (List ℕ)
with_front ns o = option_map (λ ms. ns ++ ms) o

fronts : (ns : List ℕ) (n : ℕ) (o : Option (List ℕ)) → with_front ns (option_map (λ (ms : List ℕ). n ∷ ms) o)
    ≡ with_front (ns ++ n ∷ []) o
fronts ns n None = refl
fronts ns n (Some ms) = ap (λ z. Some z) (sym (append_assoc ns (n ∷ []) ms))

-- A number may count as read or as still to be read.
pub more_numbers : (ns : List ℕ) (n : ℕ) (text : List ℕ) (p : List ℕ × List ℕ) → parted 32 text ≡ Some p
    → number p.0 ≡ Some n
    → with_front ns (numbers_of (words text)) ≡ with_front (ns ++ n ∷ []) (numbers_of (words p.1))
more_numbers ns n text p h is = rw (words_parted text p h, is) (fronts ns n (numbers_of (words p.1)))

pub no_numbers : (ns : List ℕ) (text : List ℕ) (p : List ℕ × List ℕ) → parted 32 text ≡ Some p → number p.0 ≡ None
    → with_front ns (numbers_of (words text)) ≡ None
no_numbers ns text p h is = rw (words_parted text p h, is) refl

pub last_number : (ns : List ℕ) (n : ℕ) (text : List ℕ) → parted 32 text ≡ None → number text ≡ Some n
    → with_front ns (numbers_of (words text)) ≡ Some (ns ++ n ∷ [])
last_number ns n text h is = rw (words_nowhere text h, is) refl

pub no_last : (ns : List ℕ) (text : List ℕ) → parted 32 text ≡ None → number text ≡ None
    → with_front ns (numbers_of (words text)) ≡ None
no_last ns text h is = rw (words_nowhere text h, is) refl

pub shorter : (text : List ℕ) (p : List ℕ × List ℕ) → parted 32 text ≡ Some p → length p.1 < length text
shorter text p h =
    let s = parted_spells 32 text p h in
    subst (λ (z : List ℕ). length p.1 < length z) (sym s.0) (omega (arith, length-append p.0 (32 ∷ p.1)))

-- ---- A batch, given its first word

pub batch_alone : (text : List ℕ) (o : Option Bool) → parted 32 text ≡ None → ended_of text ≡ o
    → batch_of text ≡ option_map (λ (b : Bool). let a : Bool × List ℕ = (b, []) in a) o
batch_alone text None h e = rw (words_nowhere text h, e) refl
batch_alone text (Some b) h e = rw (words_nowhere text h, e) refl

pub batch_unended : (text : List ℕ) (p : List ℕ × List ℕ) → parted 32 text ≡ Some p → ended_of p.0 ≡ None
    → batch_of text ≡ None
batch_unended text p h e = rw (words_parted text p h, e) refl

pub batch_parts : (text : List ℕ) (p : List ℕ × List ℕ) (ended : Bool) (o : Option (List ℕ)) → parted 32 text ≡ Some p
    → ended_of p.0 ≡ Some ended → numbers_of (words p.1) ≡ o
    → batch_of text ≡ option_map (λ (ns : List ℕ). let a : Bool × List ℕ = (ended, ns) in a) o
batch_parts text p ended o h e n = rw (words_parted text p h, e, n) refl
