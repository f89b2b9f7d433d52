-- The JSON tokens that a writer adds for a value: brackets, members' names and simple values.
use Rattle.std.specs.Prelude.{ℕ, ◌≡◌, List, [], ◌∷◌, ◌++◌, Option, Some, None, OnOk, Result}
use Rattle.json.specs.Token.{Token, string}
use Rattle.json.specs.Tree.{json_tokens}
use Rattle.json.specs.Written.{Written}
use Rattle.serde_json.specs.Data.{Data}
use Rattle.serde_json.specs.Written.{outline}
use Rattle.kds_token.specs.Ids.{shard_id}

-- The JSON tokens of a value, in order.
abbrev pub tokens_of : (d : Data) → List Token
tokens_of d = json_tokens (outline d)

-- The string of a shard's ID as one token, or no token without a shard.
abbrev pub id_tokens : (shard : Option ℕ) → List Token
id_tokens None = []
id_tokens (Some shard) = string (shard_id shard) ∷ []

-- A successful call added `tokens` after the writer's; the bytes before the first token always stay.
pub record AddsTokens {A E : Type 0} (result : Result A E) (old new : Written) (tokens : List Token) : Type 0 where
  pub ok : OnOk result (new.tokens ≡ old.tokens ++ tokens)
  pub before : new.before ≡ old.before
