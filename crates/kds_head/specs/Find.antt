-- What the first bytes of a connection are: a whole head, refused, or too few (RFC 9112, sections 2 and 3).
use Rattle.std.specs.Prelude.{◌≡◌, ◌<◌, ◌≤◌, ℕ, ◌⊎◌, ◌==◌, List, length, take, true, if◌then◌else◌}
use Rattle.httparse.specs.Grammar.{RequestHead, ReadsRequest, HasNoRequest, NeverHasRequest, MayBecomeRequest}
use Rattle.httparse.specs.Grammar.{EndsInTarget}
use Rattle.kds_head.specs.declared.found.Found.{Found}
use Rattle.kds_head.specs.declared.found.Found.TheVariants.{Need, Refused, Whole}
use Rattle.kds_head.specs.declared.found.Head.{Head}
use Rattle.kds_head.specs.declared.numbers.TheConstants.{HEAD_BYTES, BODY_BYTES}
use Rattle.kds_head.specs.Response.{is_refusal}
use Rattle.kds_head.specs.Table.{judged}

-- The bytes `front` begin with the whole head.
abbrev pub BeginsWith : (front : List ℕ) (head : RequestHead) → Type 0
BeginsWith front head = (rest : List ℕ) × ReadsRequest front head rest

-- No bytes after `front` make it begin with a head, and it doesn't end in a target, which is judged only when whole.
abbrev pub NeverBecomesHead : (front : List ℕ) → Type 0
NeverBecomesHead front = NeverHasRequest front × ¬ (EndsInTarget front)

-- No whole head yet, but more bytes may make one, or `front` ends inside a target.
abbrev pub MayBecomeHead : (front : List ℕ) → Type 0
MayBecomeHead front = HasNoRequest front × MayBecomeRequest front

-- More bytes are needed, or, with HEAD_BYTES bytes, the refusal 431 (RFC 6585, section 5).
abbrev pub undecided : (bytes : ℕ) → Found
undecided bytes = if bytes == HEAD_BYTES then Refused 431 else Need

-- What is found in `front`: what its head leads to, 400 if there can be none, otherwise `undecided`.
abbrev pub IsFoundIn : (front : List ℕ) (found : Found) → Type 0
IsFoundIn front found =
    ((head : RequestHead) × BeginsWith front head × (found ≡ judged head))
    ⊎ (NeverBecomesHead front × (found ≡ Refused 400))
    ⊎ (MayBecomeHead front × (found ≡ undecided (length front)))

-- What the first HEAD_BYTES bytes lead to: `judged` for a head, 400 if none can follow, 431 if too long, or Need.
abbrev pub IsFound : (bytes : List ℕ) (found : Found) → Type 0
IsFound bytes found = IsFoundIn (take HEAD_BYTES bytes) found

-- The head isn't empty, is all there, and neither it nor its body is longer than allowed.
pub record IsBounded (bytes : List ℕ) (whole : Head) : Type 0 where
  pub some : 0 < whole.length
  pub there : whole.length ≤ length bytes
  pub head : whole.length ≤ HEAD_BYTES
  pub body : whole.body ≤ BODY_BYTES

-- A head and its body have an allowed length, a refusal has its status, and only a short `bytes` needs more.
abbrev pub IsWithinLimits : (bytes : List ℕ) (found : Found) → Type 0
IsWithinLimits bytes Need = length bytes < HEAD_BYTES
IsWithinLimits bytes (Refused status) = is_refusal status ≡ true
IsWithinLimits bytes (Whole head) = IsBounded bytes head
