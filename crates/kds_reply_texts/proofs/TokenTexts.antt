-- Base64 text is valid UTF-8, and an iterator's token needs no escaping.
use Rattle.std.proofs.Common.{◌≡◌, ℕ, List}
use Rattle.std.specs.Str.{IsUtf8}
use Rattle.std.proofs.lemmas.Str.{IsUtf8-from_ascii}
use Rattle.base64.specs.Engines.{standard}
use Rattle.base64.specs.GeneralPurpose.{encode_of}
use Rattle.base64.proofs.EngineFacts.{IsAscii-encode_of}
use Rattle.json.specs.Print.{escape}
use Rattle.kds_defs.specs.declared.reply.Iter.{Iter}
use Rattle.kds_token.specs.Tokens.{IsIter, iter_text, iter_token}
use Rattle.kds_token.proofs.TokenLemmas.{iter_small, small_bytes}
use Rattle.kds_reply_texts.proofs.PlainTexts.{escape-encoded}

pub encoded_is_text : (bytes : List ℕ) → IsUtf8 (encode_of standard bytes)
encoded_is_text bytes = IsUtf8-from_ascii (encode_of standard bytes) (IsAscii-encode_of standard bytes)

pub token_plain : (i : Iter) → IsIter i → escape (iter_token i) ≡ iter_token i
token_plain i is = escape-encoded (iter_text i) (small_bytes (iter_text i) (iter_small i is))
