-- One scan of the headers finds what the definitions say about each name that the service reads.
use Rattle.std.proofs.Common.{◌≡◌, ◌∙◌, ℕ, ◌+◌, List, [], ◌∷◌, Bool, true, false, map, Option, Some, None, refl, sym}
use Rattle.std.proofs.Common.{ap, subst, arith, codes, inl, inr}
use Rattle.std.proofs.lemmas.Bool.{cases_Bool}
use Rattle.std.proofs.lemmas.Bool.Decides.{nat_tests}
use Rattle.std.proofs.lemmas.List.Sums.{sum_by-cons}
use Rattle.std.specs.Prelude.{fold, cond, nat_lt, ◌==◌, ◌||◌, if◌then◌else◌, option_and_then}
use Rattle.std.specs.Option.{option_map_or}
use Rattle.std.specs.List.{list_any}
use Rattle.httparse.specs.Spans.{header_bytes, span_bytes}
use Rattle.httparse.specs.declared.spans.Span.{Span}
use Rattle.httparse.specs.declared.spans.HeaderSpan.{HeaderSpan}
use Rattle.kds_head.specs.declared.findings.Seen.{Seen}
use Rattle.kds_head.specs.declared.findings.Seen.TheVariants.{Nowhere, Once, Often}
use Rattle.kds_head.specs.declared.findings.Findings.{Findings}
use Rattle.kds_head.specs.Headers.{Headers, has_name, has_name_and_value, count_named, only_value, any_has}
use Rattle.kds_head.specs.Findings.{is_somewhere, value_in, IsSeen, AreFindings, seen_after, findings_after}
use Rattle.kds_head.specs.Findings.{no_findings}
use Rattle.kds_head.specs.Values.{byte_count, body_length, named_operation, operation, is_json, says_json}

-- ---- One header name

count_cons : (name : List ℕ) (h : List ℕ × List ℕ) (hs : Headers)
    → count_named name (h ∷ hs) ≡ cond (has_name name h) 1 0 + count_named name hs
unfolding count_named
count_cons name h hs = sum_by-cons (λ x. cond (has_name name x) 1 0) h hs

no_count : (name : List ℕ) → count_named name [] ≡ 0
unfolding count_named
no_count name = refl

no_value : (name : List ℕ) → only_value name [] ≡ None
unfolding only_value
no_value name = rw (no_count name) refl

count_yes : (name : List ℕ) (h : List ℕ × List ℕ) (hs : Headers) → has_name name h ≡ true
    → count_named name (h ∷ hs) ≡ 1 + count_named name hs
count_yes name h hs e = count_cons name h hs ∙ ap (λ t. cond t 1 0 + count_named name hs) e

count_other : (name : List ℕ) (h : List ℕ × List ℕ) (hs : Headers) → has_name name h ≡ false
    → count_named name (h ∷ hs) ≡ count_named name hs
count_other name h hs e = count_cons name h hs ∙ ap (λ t. cond t 1 0 + count_named name hs) e
    ∙ nothing (count_named name hs)
  where
    nothing : (n : ℕ) → 0 + n ≡ n
    nothing n = omega arith

more_none : (c n : ℕ) → n ≡ 1 + c → (n == 0) ≡ false
more_none c n e = grind (arith, nat_tests)

more_some : (c n : ℕ) → n ≡ 1 + c → nat_lt 0 n ≡ true
more_some c n e = grind (arith, nat_tests)

more_one : (c n : ℕ) → n ≡ 1 + c → (n == 1) ≡ (c == 0)
more_one c n e = elim (cases_Bool (c == 0)) [
  | inl zero_left ↦ let one : (n == 1) ≡ true = grind (arith, nat_tests) in one ∙ sym zero_left
  | inr some_left ↦ let more : (n == 1) ≡ false = grind (arith, nat_tests) in more ∙ sym some_left
]

only_other : (name : List ℕ) (h : List ℕ × List ℕ) (hs : Headers) → has_name name h ≡ false
    → only_value name (h ∷ hs) ≡ only_value name hs
unfolding only_value
only_other name h hs e = rw (count_other name h hs e, e) refl

only_named : (name : List ℕ) (h : List ℕ × List ℕ) (hs : Headers) → has_name name h ≡ true
    → only_value name (h ∷ hs) ≡ (if count_named name hs == 0 then Some h.1 else None)
unfolding only_value
only_named name h hs e = rw (more_one _ _ (count_yes name h hs e), e) refl

-- What was seen of the name after one more header.
abbrev step : List ℕ → List ℕ → Seen → HeaderSpan → Seen
step name front seen header = seen_after seen (has_name name (header_bytes front header)) header.value

-- What was seen of the name after all of `headers`.
abbrev pass : List ℕ → List ℕ → Seen → List HeaderSpan → Seen
pass name front seen headers = fold (step name front) seen headers

after_often : (b : Bool) (v : Span) → seen_after Often b v ≡ Often
after_often true v = refl
after_often false v = refl

often_stays : (name front : List ℕ) (hs : List HeaderSpan) → pass name front Often hs ≡ Often
often_stays name front [] = refl
often_stays name front (h ∷ hs) =
    ap (λ s. pass name front s hs) (after_often (has_name name (header_bytes front h)) h.value)
    ∙ often_stays name front hs

once_step : (name front : List ℕ) (hs : List HeaderSpan) (b : Bool) (v w : Span) (c n : ℕ) → (b ≡ true → n ≡ 1 + c)
    → (b ≡ false → n ≡ c)
    → pass name front (Once v) hs ≡ (if c == 0 then Once v else Often)
    → pass name front (seen_after (Once v) b w) hs ≡ (if n == 0 then Once v else Often)
once_step name front hs true v w c n e d ih = often_stays name front hs ∙ rw (more_none c n (e refl)) refl
once_step name front hs false v w c n e d ih = rw (d refl) ih

after_once : (name front : List ℕ) (v : Span) (hs : List HeaderSpan)
    → pass name front (Once v) hs ≡ (if count_named name (map (header_bytes front) hs) == 0 then Once v else Often)
after_once name front v [] = rw (no_count name) refl
after_once name front v (h ∷ hs) =
    once_step name front hs (has_name name (header_bytes front h)) v h.value _ _
    (count_yes name (header_bytes front h) (map (header_bytes front) hs))
    (count_other name (header_bytes front h) (map (header_bytes front) hs))
    (after_once name front v hs)

seen_once : (name front : List ℕ) (headers : Headers) (v : Span) (alone : Bool) (s : Seen)
    → s ≡ (if alone then Once v else Often)
    → nat_lt 0 (count_named name headers) ≡ true
    → only_value name headers ≡ (if alone then Some (span_bytes front v) else None) → IsSeen name front headers s
seen_once name front headers v true s e n o =
    record { some = ap is_somewhere e ∙ sym n; value = ap (value_in front) e ∙ sym o }
seen_once name front headers v false s e n o =
    record { some = ap is_somewhere e ∙ sym n; value = ap (value_in front) e ∙ sym o }

seen_step : (name front : List ℕ) (h : HeaderSpan) (hs : List HeaderSpan) (b : Bool)
    → has_name name (header_bytes front h) ≡ b
    → IsSeen name front (map (header_bytes front) hs) (pass name front Nowhere hs)
    → IsSeen name front (header_bytes front h ∷ map (header_bytes front) hs)
    (pass name front (seen_after Nowhere b h.value) hs)
seen_step name front h hs true e ih =
    let own = header_bytes front h in
    let others = map (header_bytes front) hs in
    seen_once name front (own ∷ others) h.value (count_named name others == 0) _ (after_once name front h.value hs)
    (more_some _ _ (count_yes name own others e)) (only_named name own others e)
seen_step name front h hs false e ih = record {
  some = ih.some ∙ sym (ap (λ k. nat_lt 0 k) (count_other name (header_bytes front h) (map (header_bytes front) hs) e));
  value = ih.value ∙ sym (only_other name (header_bytes front h) (map (header_bytes front) hs) e);
}

seen_all : (name front : List ℕ) (hs : List HeaderSpan)
    → IsSeen name front (map (header_bytes front) hs) (pass name front Nowhere hs)
seen_all name front [] = record { some = sym (ap (λ k. nat_lt 0 k) (no_count name)); value = sym (no_value name) }
seen_all name front (h ∷ hs) =
    seen_step name front h hs (has_name name (header_bytes front h)) refl (seen_all name front hs)

-- ---- All names together

-- The findings after all headers of the list.
abbrev read : List ℕ → Findings → List HeaderSpan → Findings
read front found hs = fold (findings_after front) found hs

encodings : (front : List ℕ) (f : Findings) (hs : List HeaderSpan)
    → (read front f hs).encoding ≡ pass (codes "Transfer-Encoding") front f.encoding hs
encodings front f [] = refl
encodings front f (h ∷ hs) = encodings front (findings_after front f h) hs

lengths : (front : List ℕ) (f : Findings) (hs : List HeaderSpan)
    → (read front f hs).content_length ≡ pass (codes "Content-Length") front f.content_length hs
lengths front f [] = refl
lengths front f (h ∷ hs) = lengths front (findings_after front f h) hs

targets : (front : List ℕ) (f : Findings) (hs : List HeaderSpan)
    → (read front f hs).target ≡ pass (codes "X-Amz-Target") front f.target hs
targets front f [] = refl
targets front f (h ∷ hs) = targets front (findings_after front f h) hs

media_types : (front : List ℕ) (f : Findings) (hs : List HeaderSpan)
    → (read front f hs).media_type ≡ pass (codes "Content-Type") front f.media_type hs
media_types front f [] = refl
media_types front f (h ∷ hs) = media_types front (findings_after front f h) hs

or_none : (b : Bool) → b ≡ (b || false)
or_none true = refl
or_none false = refl

or_apart : (a b c : Bool) → ((a || b) || c) ≡ (a || (b || c))
or_apart true b c = refl
or_apart false b c = refl

-- Whether a header is `Connection: close`.
abbrev says : List ℕ × List ℕ → Bool
says = has_name_and_value (codes "Connection") (codes "close")

closing : (front : List ℕ) (f : Findings) (hs : List HeaderSpan)
    → (read front f hs).close ≡ (f.close || list_any says (map (header_bytes front) hs))
closing front f [] = or_none f.close
closing front f (h ∷ hs) =
    closing front (findings_after front f h) hs
    ∙ or_apart f.close (says (header_bytes front h)) (list_any says (map (header_bytes front) hs))

pub all_found : (front : List ℕ) (hs : List HeaderSpan) (found : Findings) → found ≡ read front no_findings hs
    → AreFindings front (map (header_bytes front) hs) found
unfolding any_has
all_found front hs found e = record {
  encoding = seen (codes "Transfer-Encoding") found.encoding (ap (λ f. f.encoding) e ∙ encodings front no_findings hs);
  content_length = seen (codes "Content-Length") found.content_length (ap (λ f. f.content_length) e
      ∙ lengths front no_findings hs);
  target = seen (codes "X-Amz-Target") found.target (ap (λ f. f.target) e ∙ targets front no_findings hs);
  media_type = seen (codes "Content-Type") found.media_type (ap (λ f. f.media_type) e
      ∙ media_types front no_findings hs);
  close = ap (λ f. f.close) e ∙ closing front no_findings hs;
}
  where
    seen : (name : List ℕ) (s : Seen) → s ≡ pass name front Nowhere hs
        → IsSeen name front (map (header_bytes front) hs) s
    seen name s is = subst (λ (z : Seen). IsSeen name front (map (header_bytes front) hs) z) (sym is)
        (seen_all name front hs)

-- ---- The values that the table of checks reads

pub none_is : (n : ℕ) → nat_lt 0 n ≡ false → (n == 0) ≡ true
none_is n e = grind (arith, nat_tests)

pub some_is : (n : ℕ) → nat_lt 0 n ≡ true → (n == 0) ≡ false
some_is n e = grind (arith, nat_tests)

pub body_is : (v : Option (List ℕ)) (n : Option ℕ) (hs : Headers) → n ≡ option_and_then byte_count v
    → v ≡ only_value (codes "Content-Length") hs
    → n ≡ body_length hs
unfolding body_length
body_is v n hs e s = e ∙ ap (option_and_then byte_count) s

pub operation_is : (v : Option (List ℕ)) (o : List ℕ) (hs : Headers) → o ≡ option_map_or named_operation v []
    → v ≡ only_value (codes "X-Amz-Target") hs
    → o ≡ operation hs
unfolding operation
operation_is v o hs e s = e ∙ ap (λ z. option_map_or named_operation z []) s

pub json_is : (v : Option (List ℕ)) (j : Bool) (hs : Headers) → j ≡ option_map_or is_json v false
    → v ≡ only_value (codes "Content-Type") hs
    → j ≡ says_json hs
unfolding says_json
json_is v j hs e s = e ∙ ap (λ z. option_map_or is_json z false) s

pub close_is : (minor : ℕ) (said c : Bool) (hs : Headers) → c ≡ (minor == 0 || said)
    → said ≡ any_has (codes "Connection") (codes "close") hs
    → c ≡ (minor == 0 || any_has (codes "Connection") (codes "close") hs)
close_is minor said c hs e s = e ∙ ap (λ z. minor == 0 || z) s
