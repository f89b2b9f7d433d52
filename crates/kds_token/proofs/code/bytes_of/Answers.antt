use Rattle.std.proofs.Common.{sym, ap}
use Rattle.std.specs.Result.{result_ok}
use Rattle.base64.specs.GeneralPurpose.{decoded_of}
use Rattle.kds_token.proofs.code.bytes_of.Goals as goal

pub returns-in-Ok : goal.returns-in-Ok
unfolding decoded_of
returns-in-Ok c = sym (ap result_ok c.in-Ok.ensures.ok)

pub returns-in-Err-DecodeError : goal.returns-in-Err-DecodeError
unfolding decoded_of
returns-in-Err-DecodeError c =
    sym (ap result_ok (rw c.in-Err-DecodeError.field-0-is at c.in-Err-DecodeError.ensures.err))
