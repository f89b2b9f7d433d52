-- What a whole head leads to: the refusal of the first check that it fails, or acceptance.
use Rattle.std.specs.Prelude.{ℕ, List, Bool, ◌==◌, not, nat_lt, length, codes, map, slice_range, if◌then◌else◌, is_none}
use Rattle.std.specs.Prelude.{unwrap_or}
use Rattle.std.specs.Str.{bytes_eq}
use Rattle.httparse.specs.Grammar.{RequestHead, print_request}
use Rattle.httparse.specs.Spans.{header_bytes, name_and_value}
use Rattle.httparse.specs.declared.spans.HeaderSpan.{HeaderSpan}
use Rattle.httparse.specs.declared.spans.RequestSpans.{RequestSpans}
use Rattle.kds_head.specs.Headers.{Headers, count_named}
use Rattle.kds_head.specs.Values.{body_length, operation, says_json, closes}
use Rattle.kds_head.specs.declared.found.Found.{Found}
use Rattle.kds_head.specs.declared.found.Found.TheVariants.{Refused, Whole}
use Rattle.kds_head.specs.declared.numbers.TheConstants.{HEADERS, BODY_BYTES}

-- One check of a table: the refusal with `status` if `test` is true, otherwise the checks after it.
infixr 1 refused◌if◌else◌
unfoldable pub refused◌if◌else◌ : (status : ℕ) (test : Bool) (later : Found) → Found
refused status if test else later = if test then Refused status else later

-- What a head of `bytes` bytes leads to: the refusal of the first check that it fails, or acceptance.
abbrev pub judged_by : (bytes : ℕ) (method target : List ℕ) (minor : ℕ) (headers : Headers) → Found
judged_by bytes method target minor headers =
    refused 400 if nat_lt HEADERS (length headers) else
    refused 501 if nat_lt 0 (count_named (codes "Transfer-Encoding") headers) else
    refused 411 if count_named (codes "Content-Length") headers == 0 else
    refused 400 if is_none (body_length headers) else
    refused 413 if nat_lt BODY_BYTES (unwrap_or (body_length headers) 0) else
    refused 405 if not (bytes_eq method (codes "POST")) else
    refused 404 if not (bytes_eq target (codes "/")) else
    Whole (record {
      length = bytes;
      body = unwrap_or (body_length headers) 0;
      operation = operation headers;
      json = says_json headers;
      close = closes minor headers;
    })

-- What a head leads to whose parts and headers are ranges of `front`.
abbrev pub judged_in : (front : List ℕ) (headers : List HeaderSpan) (spans : RequestSpans) → Found
judged_in front headers spans =
    judged_by spans.len (slice_range front spans.method.start spans.method.end)
    (slice_range front spans.path.start spans.path.end) spans.version (map (header_bytes front) headers)

-- The refusal of the first check that a whole head fails, or what the head says of the request.
abbrev pub judged : (h : RequestHead) → Found
judged h = judged_by (length (print_request h)) h.method h.target h.minor (map name_and_value h.fields)
