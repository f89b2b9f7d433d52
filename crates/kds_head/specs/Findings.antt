-- What one scan of the headers finds out about the names that the service reads.
use Rattle.std.specs.Prelude.{◌≡◌, ℕ, List, Bool, true, false, ◌||◌, nat_lt, codes, if◌then◌else◌, Option, Some, None}
use Rattle.httparse.specs.Spans.{header_bytes, span_bytes}
use Rattle.httparse.specs.declared.spans.Span.{Span}
use Rattle.httparse.specs.declared.spans.HeaderSpan.{HeaderSpan}
use Rattle.kds_head.specs.declared.findings.Seen.{Seen}
use Rattle.kds_head.specs.declared.findings.Seen.TheVariants.{Nowhere, Once, Often}
use Rattle.kds_head.specs.declared.findings.Findings.{Findings}
use Rattle.kds_head.specs.Headers.{Headers, has_name, has_name_and_value, count_named, only_value, any_has}

-- Whether at least one header has the name.
abbrev pub is_somewhere : (seen : Seen) → Bool
is_somewhere Nowhere = false
is_somewhere (Once value) = true
is_somewhere Often = true

-- The value of the only header with the name, or None if none or several have it.
abbrev pub value_in : (front : List ℕ) (seen : Seen) → Option (List ℕ)
value_in front Nowhere = None
value_in front (Once value) = Some (span_bytes front value)
value_in front Often = None

-- What was seen of the name is right for the headers.
pub record IsSeen (name front : List ℕ) (headers : Headers) (seen : Seen) : Type 0 where
  pub some : is_somewhere seen ≡ nat_lt 0 (count_named name headers)
  pub value : value_in front seen ≡ only_value name headers

-- What was seen of the four names, and of `Connection: close`, is right for the headers.
pub record AreFindings (front : List ℕ) (headers : Headers) (found : Findings) : Type 0 where
  pub encoding : IsSeen (codes "Transfer-Encoding") front headers found.encoding
  pub content_length : IsSeen (codes "Content-Length") front headers found.content_length
  pub target : IsSeen (codes "X-Amz-Target") front headers found.target
  pub media_type : IsSeen (codes "Content-Type") front headers found.media_type
  pub close : found.close ≡ any_has (codes "Connection") (codes "close") headers

-- ---- One more header

-- What was seen of a name after one more header with this name.
abbrev pub one_more : (seen : Seen) (value : Span) → Seen
one_more Nowhere value = Once value
one_more (Once first) value = Often
one_more Often value = Often

-- What was seen of a name after one more header, which has this name if `named`.
abbrev pub seen_after : (seen : Seen) (named : Bool) (value : Span) → Seen
seen_after seen named value = if named then one_more seen value else seen

-- The findings after one more header; its name and value are ranges of `front`.
abbrev pub findings_after : (front : List ℕ) (found : Findings) (header : HeaderSpan) → Findings
findings_after front found header = record {
  encoding = seen_after found.encoding (has_name (codes "Transfer-Encoding") (header_bytes front header)) header.value;
  content_length = seen_after found.content_length (has_name (codes "Content-Length") (header_bytes front header))
      header.value;
  target = seen_after found.target (has_name (codes "X-Amz-Target") (header_bytes front header)) header.value;
  media_type = seen_after found.media_type (has_name (codes "Content-Type") (header_bytes front header)) header.value;
  close = found.close || has_name_and_value (codes "Connection") (codes "close") (header_bytes front header);
}

-- The findings before the first header.
abbrev pub no_findings : Findings
no_findings = record {
  encoding = Nowhere;
  content_length = Nowhere;
  target = Nowhere;
  media_type = Nowhere;
  close = false;
}
