-- In which part of a request its bytes end (RFC 9112, section 3).
use Rattle.std.specs.Prelude.{ℕ, ◌==◌, if◌then◌else◌}
use Rattle.httparse.specs.Grammar.{is_token_byte, is_uri_byte}
use Rattle.kds_head.specs.declared.target.Reached.{Reached}
use Rattle.kds_head.specs.declared.target.Reached.TheVariants.{Blank, CarriageReturn, Method, Target, Other}

-- In which part of a request its bytes end after the byte `b`, if they ended in `reached` before.
abbrev pub after_byte : (reached : Reached) (b : ℕ) → Reached
after_byte Blank b = if b == 10 then Blank else if b
    == 13 then CarriageReturn else if is_token_byte b then Method else Other
after_byte CarriageReturn b = if b == 10 then Blank else Other
after_byte Method b = if b == 32 then Target else if is_token_byte b then Method else Other
after_byte Target b = if is_uri_byte b then Target else Other
after_byte Other b = Other
