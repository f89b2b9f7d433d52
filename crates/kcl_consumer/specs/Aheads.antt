-- What is left of a consumer's waiting batches after the first was taken from its ring buffer.
use Rattle.std.specs.Prelude.{◌≡◌, Bool, List, [], ◌∷◌, Option, Some, None}
use Rattle.kcl_defs.specs.declared.consumer.Fetched.{Fetched}

-- The first waiting batch was taken, `new` has the rest, and `o` says whether that read ended the shard.
abbrev pub IsTaken : (waiting new : List Fetched) (o : Option Bool) → Type 0
IsTaken [] new o = (new ≡ []) × (o ≡ None)
IsTaken (f ∷ waiting) new o = (new ≡ waiting) × (o ≡ Some f.ended)
