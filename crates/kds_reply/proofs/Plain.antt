-- No reply that the code builds as a tree of JSON values has a floating-point number.
use Rattle.std.proofs.Common.{◌≡◌, ℕ, List, [], ◌∷◌, Bool, false, Option, Some, None, refl}
use Rattle.std.specs.Prelude.{option_map}
use Rattle.serde_json.specs.Data.{Data, string, Members}
use Rattle.serde_json.specs.Written.{has_float, members_have_float}
use Rattle.kds_base.specs.Span.{Span}
use Rattle.kds_defs.specs.declared.reply.About.{About}
use Rattle.kds_defs.specs.declared.reply.Page.{Page}
use Rattle.kds_defs.specs.declared.reply.Shard.{Shard}
use Rattle.kds_reply_texts.specs.Bodies.{number_data, id_data, list_data}
use Rattle.kds_reply.specs.Bodies.{member_if, page_string}
use Rattle.kds_reply_texts.specs.Children.{range_data}
use Rattle.kds_reply.specs.Shards.{sequence_data, shard_data, shards_data}
use Rattle.kds_reply.specs.Streams.{streams_data, description_data, description_summary_data, described_data}
use Rattle.kds_reply.specs.Streams.{summary_data, scaled_data}

-- The JSON value has no floating-point number.
abbrev IsPlain : Data → Type 0
IsPlain d = has_float d ≡ false

list_plain : {A : Type 0} (f : A → Data) (xs : List A) → ((x : A) → IsPlain (f x)) → IsPlain (list_data f xs)
list_plain f [] h = refl
list_plain f (x ∷ xs) h = rw (h x) (list_plain f xs h)

member_plain : {A : Type 0} (f : A → Data) (name : List ℕ) (o : Option A) (ms : Members) → ((x : A) → IsPlain (f x))
    → members_have_float ms ≡ false → members_have_float (member_if name (option_map f o) ms) ≡ false
member_plain f name None ms h rest = rest
member_plain f name (Some x) ms h rest = rw (h x) rest

-- ---- Replies on shards

range_plain : (r : Span) → IsPlain (range_data r)
unfolding range_data
range_plain r = refl

sequence_plain : (start : ℕ) (end : Option ℕ) → IsPlain (sequence_data start end)
unfolding sequence_data
sequence_plain start end = member_plain number_data _ end _ (λ n. refl) refl

shard_plain : (s : Shard) → IsPlain (shard_data s)
unfolding shard_data
shard_plain s =
    member_plain id_data _ s.adjacent _ (λ n. refl)
    (rw (range_plain s.range)
    (member_plain id_data _ s.parent _ (λ n. refl)
    (rw (sequence_plain s.start s.end) refl)))

pub shards_plain : (shards : List Shard) (next : Option Page) → IsPlain (shards_data shards next)
unfolding shards_data
shards_plain shards next =
    member_plain page_string _ next _ (λ p. refl) (rw (list_plain shard_data shards shard_plain) refl)

-- ---- Replies on streams

pub streams_plain : (names : List (List ℕ)) (more : Bool) → IsPlain (streams_data names more)
unfolding streams_data
streams_plain names more = rw (list_plain string names (λ name. refl)) refl

description_plain : (about : About) (shards : List Shard) (more : Bool) → IsPlain (description_data about shards more)
unfolding description_data
description_plain about shards more = rw (list_plain shard_data shards shard_plain) refl

description_summary_plain : (about : About) (open_shards : ℕ) → IsPlain (description_summary_data about open_shards)
unfolding description_summary_data
description_summary_plain about open_shards = refl

pub described_plain : (about : About) (shards : List Shard) (more : Bool) → IsPlain (described_data about shards more)
unfolding described_data
described_plain about shards more = rw (description_plain about shards more) refl

pub summary_plain : (about : About) (open_shards : ℕ) → IsPlain (summary_data about open_shards)
unfolding summary_data
summary_plain about open_shards = rw (description_summary_plain about open_shards) refl

pub scaled_plain : (name : List ℕ) (old target : ℕ) → IsPlain (scaled_data name old target)
unfolding scaled_data
scaled_plain name old target = refl
