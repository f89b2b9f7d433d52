-- The JSON tokens appended for a reply are its value's.
use Rattle.std.proofs.Common.{◌≡◌, ℕ, List, [], ◌∷◌, ◌++◌, refl, ap, ◌∙◌}
use Rattle.std.specs.Prelude.{codes, decimal}
use Rattle.std.proofs.lemmas.List.{append_assoc}
use Rattle.json.specs.Token.{Token, begin_object, end_object, key, string}
use Rattle.kds_defs.specs.declared.reply.Iter.{Iter}
use Rattle.kds_defs.specs.declared.reply.Shard.{Shard}
use Rattle.kds_token.specs.Ids.{shard_id}
use Rattle.kds_token.specs.Tokens.{iter_token}
use Rattle.kds_base.specs.Span.{Span}
use Rattle.kds_reply_texts.specs.Errors.{error_data}
use Rattle.kds_reply_texts.specs.Bodies.{id_data, list_data, iterator_data}
use Rattle.kds_reply_texts.specs.Children.{range_data, parents_of, child_data}
use Rattle.kds_reply_texts.specs.Writing.{tokens_of}

pub more : {A : Type 0} (t u v a b : List A) → u ≡ t ++ a → v ≡ u ++ b → v ≡ t ++ (a ++ b)
more t u v a b first second = second ∙ ap (λ ts. ts ++ b) first ∙ append_assoc t a b

pub begun : {A : Type 0} (t u a : List A) → t ≡ [] → u ≡ t ++ a → u ≡ a
begun t u a nothing first = first ∙ ap (λ ts. ts ++ a) nothing

pub added : {A : Type 0} (u v a b : List A) → u ≡ a → v ≡ u ++ b → v ≡ a ++ b
added u v a b first second = second ∙ ap (λ ts. ts ++ b) first

pub error_tokens : (name message : List ℕ)
    → begin_object ∷ key (codes "__type") ∷ string name ∷ key (codes "message") ∷ string message ∷ end_object ∷ []
    ≡ tokens_of (error_data name message)
error_tokens name message = refl

pub iterator_tokens : (i : Iter) (token : List ℕ) → token ≡ iter_token i
    → begin_object ∷ key (codes "ShardIterator") ∷ string token ∷ end_object ∷ [] ≡ tokens_of (iterator_data i)
unfolding iterator_data
iterator_tokens i token is = rw is refl

-- ---- The child shards of a shard

pub range_tokens : (r : Span) (end start : ℕ) → end ≡ r.end → start ≡ r.start
    → begin_object ∷ key (codes "EndingHashKey") ∷ string (decimal end) ∷ key (codes "StartingHashKey")
    ∷ string (decimal start) ∷ end_object ∷ [] ≡ tokens_of (range_data r)
unfolding range_data
range_tokens r end start is_end is_start = rw (is_end, is_start) refl

apart_child : (r k p i e : List Token) → ((((r ++ k) ++ p) ++ i) ++ e) ≡ r ++ (k ++ (p ++ (i ++ e)))
apart_child r k p i e = simp append_assoc

pub child_tokens : (s : Shard) (r : Span) (id : List ℕ) → r ≡ s.range → id ≡ shard_id s.no
    → begin_object ∷ key (codes "HashKeyRange")
    ∷ ((((tokens_of (range_data r) ++ key (codes "ParentShards") ∷ [])
    ++ tokens_of (list_data id_data (parents_of s))) ++ key (codes "ShardId") ∷ string id ∷ [])
    ++ end_object ∷ []) ≡ tokens_of (child_data s)
unfolding child_data
child_tokens s r id is_range is_id =
    ap (λ (ts : List Token). begin_object ∷ key (codes "HashKeyRange") ∷ ts)
    (apart_child (tokens_of (range_data r)) (key (codes "ParentShards") ∷ [])
    (tokens_of (list_data id_data (parents_of s))) (key (codes "ShardId") ∷ string id ∷ []) (end_object ∷ [])
    ∙ rw (is_range, is_id) refl)
