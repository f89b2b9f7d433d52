-- Tokens of shard iterators and of listings: base64 (RFC 4648, section 4) of fields with colons between them.
use Rattle.std.specs.Prelude.{◌≡◌, ◌≢◌, ℕ, ◌^◌, ◌<◌, List, ◌∷◌, ◌++◌, codes, decimal, if◌then◌else◌, Option, Some, None}
use Rattle.std.specs.Str.{bytes_eq}
use Rattle.base64.specs.Engines.{standard}
use Rattle.base64.specs.GeneralPurpose.{encode_of, decoded_of}
use Rattle.kds_base.specs.NumberText.{number_of}
use Rattle.kds_defs.specs.declared.reply.Iter.{Iter}
use Rattle.kds_defs.specs.declared.reply.Page.{Page}
use Rattle.kds_base.specs.Moments.{moment_of}
use Rattle.kds_token.specs.Fields.{◌>>=◌, field}

-- ---- Shard iterators

-- The text in an iterator's token, `KI1:STREAM:SHARD:POSITION:ISSUED`.
abbrev pub iter_text : (i : Iter) → List ℕ
iter_text i = codes "KI1:"
    ++ (decimal i.stream ++ 58 ∷ (decimal i.shard ++ 58 ∷ (decimal i.position ++ 58 ∷ decimal i.issued)))

-- The token of a shard iterator (Kinesis API Reference, GetShardIterator, ShardIterator).
abbrev pub iter_token : (i : Iter) → List ℕ
iter_token i = encode_of standard (iter_text i)

-- The iterator's numbers are in range.
pub record IsIter (i : Iter) : Type 0 where
  pub stream : i.stream < 2 ^ 64
  pub shard : i.shard < 2 ^ 64
  pub position : i.position < 2 ^ 64
  pub issued : i.issued < 2 ^ 62

-- `i` is the iterator whose token is `text`, or `None` if `text` is no token of an iterator in range.
abbrev pub ReadsAsIter : (text : List ℕ) (i : Option Iter) → Type 0
ReadsAsIter text None = (i : Iter) → IsIter i → text ≢ iter_token i
ReadsAsIter text (Some i) = IsIter i × (text ≡ iter_token i)

-- ---- Places in a listing

-- The text in the token of a place in a listing, `KT1:STREAM:AFTER:ISSUED`.
abbrev pub page_text : (p : Page) → List ℕ
page_text p = codes "KT1:" ++ (decimal p.stream ++ 58 ∷ (decimal p.after ++ 58 ∷ decimal p.issued))

-- The token of a place in a listing (Kinesis API Reference, ListShards, NextToken).
abbrev pub page_token : (p : Page) → List ℕ
page_token p = encode_of standard (page_text p)

-- The numbers of the place are in range.
pub record IsPage (p : Page) : Type 0 where
  pub stream : p.stream < 2 ^ 64
  pub after : p.after < 2 ^ 64
  pub issued : p.issued < 2 ^ 62

-- `p` is the place whose token is `text`, or `None` if `text` is no token of a place in range.
abbrev pub ReadsAsPage : (text : List ℕ) (p : Option Page) → Type 0
ReadsAsPage text None = (p : Page) → IsPage p → text ≢ page_token p
ReadsAsPage text (Some p) = IsPage p × (text ≡ page_token p)

-- ---- What a text is read as

-- The iterator with the numbers in these decimal texts, or `None` if one isn't in range.
unfoldable pub iter_from : (stream shard position issued : List ℕ) → Option Iter
iter_from stream shard position issued = do
  a ← number_of 64 stream
  b ← number_of 64 shard
  c ← number_of 64 position
  d ← moment_of issued
  Some (record { stream = a; shard = b; position = c; issued = d })

-- The iterator in the text of a token, after base64 was decoded.
unfoldable pub iter_in : (text : List ℕ) → Option Iter
iter_in text = do
  kind ← field text
  stream ← field kind.1
  shard ← field stream.1
  position ← field shard.1
  if bytes_eq kind.0 (codes "KI1") then iter_from stream.0 shard.0 position.0 position.1 else None

-- The shard iterator whose token is `text`.
abbrev pub iter_of : (text : List ℕ) → Option Iter
iter_of text = decoded_of standard text >>= iter_in

-- The place with the numbers in these decimal texts, or `None` if one isn't in range.
unfoldable pub page_from : (stream after issued : List ℕ) → Option Page
page_from stream after issued = do
  a ← number_of 64 stream
  b ← number_of 64 after
  c ← moment_of issued
  Some (record { stream = a; after = b; issued = c })

-- The place in the text of a token, after base64 was decoded.
unfoldable pub page_in : (text : List ℕ) → Option Page
page_in text = do
  kind ← field text
  stream ← field kind.1
  after ← field stream.1
  if bytes_eq kind.0 (codes "KT1") then page_from stream.0 after.0 after.1 else None

-- The place in a listing whose token is `text`.
abbrev pub page_of : (text : List ℕ) → Option Page
page_of text = decoded_of standard text >>= page_in
