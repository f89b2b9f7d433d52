-- The bytes of a response (RFC 9112, section 4).
use Rattle.std.specs.Prelude.{◌≡◌, ℕ, List, [], ◌∷◌, ◌++◌, ◌⊎◌, Bool, true, false, length, codes, decimal}
use Rattle.std.specs.Prelude.{if◌then◌else◌, ◌==◌, ◌||◌}

-- The line with its CR LF.
abbrev pub line : (text : List ℕ) → List ℕ
line text = text ++ 13 ∷ 10 ∷ []

-- The reason phrase of a status in use (RFC 9110, section 15; 431 is RFC 6585, section 5).
abbrev pub reason_phrase : (status : ℕ) → List ℕ
reason_phrase status =
    if status == 200 then codes "OK" else
    if status == 400 then codes "Bad Request" else
    if status == 404 then codes "Not Found" else
    if status == 405 then codes "Method Not Allowed" else
    if status == 411 then codes "Length Required" else
    if status == 413 then codes "Content Too Large" else
    if status == 431 then codes "Request Header Fields Too Large" else
    if status == 501 then codes "Not Implemented" else
    []

-- Whether connections are refused with this status.
abbrev pub is_refusal : (status : ℕ) → Bool
is_refusal status = status == 400 || status == 404 || status == 405 || status == 411 || status == 413 || status == 431
    || status == 501

-- Whether responses may have this status.
abbrev pub is_status : (status : ℕ) → Bool
is_status status = status == 200 || is_refusal status

-- A response of the service: a JSON answer, or an empty refusal after which the connection closes.
abbrev pub IsResponse : (status : ℕ) (body : List ℕ) (is_json closes : Bool) → Type 0
IsResponse status body true close = (status ≡ 200) ⊎ (status ≡ 400)
IsResponse status body false close = (is_refusal status ≡ true) × (body ≡ []) × (close ≡ true)

-- The Content-Type line of a JSON body (RFC 9110, section 8.3).
abbrev pub content_type : (json : Bool) → List ℕ
content_type json = if json then line (codes "Content-Type: application/x-amz-json-1.1") else []

-- The line `Connection: close` if the connection closes afterwards (RFC 9112, section 9.6).
abbrev pub connection : (close : Bool) → List ℕ
connection close = if close then line (codes "Connection: close") else []

-- The bytes of a response: status line, headers, an empty line, and the body.
unfoldable pub response_text : (status : ℕ) (body : List ℕ) (json close : Bool) → List ℕ
response_text status body json close =
    line (codes "HTTP/1.1 " ++ decimal status ++ codes " " ++ reason_phrase status)
    ++ content_type json
    ++ line (codes "Content-Length: " ++ decimal (length body))
    ++ connection close
    ++ line []
    ++ body
