-- GetShardIterator with the drill's name gives an iterator of the drill's stream `s` alone.
use Rattle.std.proofs.Common.{◌≡◌, ℕ, Bool, true, false, List, [], length, arith, Option, Some, None, refl, sym, ap}
use Rattle.std.proofs.Common.{subst, ◌∙◌}
use Rattle.std.specs.Prelude.{◌==◌, not, if◌then◌else◌, Result, Ok}
use Rattle.kds_defs.specs.declared.command.Command.TheVariants as command
use Rattle.kds_defs.specs.declared.command.Start.TheVariants as start
use Rattle.kds_defs.specs.declared.reply.Iter.{Iter}
use Rattle.kds_defs.specs.declared.reply.Refusal.{Refusal}
use Rattle.kds_defs.specs.declared.reply.Refusal.TheVariants as refusal
use Rattle.kds_defs.specs.declared.reply.Reply.{Reply}
use Rattle.kds_defs.specs.declared.reply.Reply.TheVariants as reply
use Rattle.kds_base.specs.declared.lease_key.ShardRef.{ShardRef}
use Rattle.kds_defs.specs.Decision.{Decision, Accepted, refuse◌if◌else◌, with◌or◌then◌}
use Rattle.kds_defs.specs.Histories.{answer_of, decide}
use Rattle.kds_defs.specs.Records.{records}
use Rattle.std.proofs.lemmas.Bool.Decides.{nat_tests}
use Rattle.std.proofs.lemmas.Option.{none-some, same_Some}
use Rattle.kds_defs.specs.Journal.{Journal}
use Rattle.kds_defs.specs.Listings.{get_iterator, iterator_at}
use Rattle.kds_defs.specs.Shards.{ShardState, is_listed, is_listed_state, shard_at}
use Rattle.kds_defs.specs.Streams.{stream_named}
use Rattle.kds_defs.proofs.Decisions.{passed_if, with_some}
use Rattle.kcl_drill.specs.Generated.{drill_name}
use Rattle.kcl_drill.specs.Summed.{bytes_of}
use Rattle.kcl_drill_summary.specs.declared.counting.Count.{Count}
use Rattle.kcl_drill_summary.specs.Counting.{CanCount, CountsKey, iterator_in}

listed_there : (log : Journal) (c s : ℕ) (o : Option ShardState) → is_listed_state log c s o ≡ true → (x : ShardState)
    × (o ≡ Some x)
listed_there log c s None is = absurd cc
listed_there log c s (Some x) is = (x, refl)

pub iterated : (log : Journal) (c actor s sh : ℕ) (name : List ℕ) (a : Result Reply Refusal) → name ≡ drill_name
    → stream_named log drill_name ≡ Some s → CanCount log c s sh
    → a ≡ answer_of (decide log c actor (command.GetIterator name sh start.TrimHorizon))
    → a ≡ Ok (reply.Iterator (iterator_at c s sh 0))
iterated log c actor s sh name a is named can is_told =
    let x = listed_there log c s (shard_at log s sh) can.listed in
    is_told
    ∙ ap answer_of (with_some (stream_named log name) refusal.NoStream _ s (ap (stream_named log) is ∙ named)
    ∙ passed_if refusal.NoShard (not (is_listed log c s sh)) _ (ap not can.listed)
    ∙ with_some (shard_at log s sh) refusal.NoShard _ x.0 x.1
    ∙ passed_if refusal.BadNumber false _ refl)

-- ---- Whether the answer has an iterator of the key's stream

turned : (a b : ℕ) (d : Bool) → (a == b) ≡ d → (b == a) ≡ d
turned a b true h = grind (arith, nat_tests)
turned a b false h = grind (arith, nat_tests)

NoneIn : ℕ → Decision → Type 0
NoneIn k d = iterator_in (answer_of d) k ≡ None

none_if : (k : ℕ) (r : Refusal) (b : Bool) (d : Decision) → NoneIn k d → NoneIn k (refuse r if b else d)
unfolding refuse◌if◌else◌ NoneIn
none_if k r true d so = refl
none_if k r false d so = so

none_with : {A : Type 0} (k : ℕ) (o : Option A) (r : Refusal) (d : A → Decision) → ((x : A) → NoneIn k (d x))
    → NoneIn k (with o or r then d)
unfolding with◌or◌then◌ NoneIn
none_with k None r d so = refl
none_with k (Some x) r d so = so x

none_here : (k c s sh p : ℕ) → (s == k) ≡ false → NoneIn k (Accepted [] (reply.Iterator (iterator_at c s sh p)))
unfolding NoneIn
none_here k c s sh p other = ap (λ b. if b then Some (iterator_at c s sh p) else None) other

none_there : (log : Journal) (k c s sh : ℕ) → (s == k) ≡ false → NoneIn k (get_iterator log c s sh start.TrimHorizon)
none_there log k c s sh other = none_if k _ _ _ (none_with k _ _ _ (λ x. none_if k _ _ _ (none_here k c s sh 0 other)))

elsewhere : (log : Journal) (c actor s k sh : ℕ) (name : List ℕ) (a : Result Reply Refusal) → name ≡ drill_name
    → stream_named log drill_name ≡ Some s → (k == s) ≡ false
    → a ≡ answer_of (decide log c actor (command.GetIterator name sh start.TrimHorizon)) → iterator_in a k ≡ None
unfolding NoneIn
elsewhere log c actor s k sh name a is named other is_told =
    ap (λ x. iterator_in x k) (is_told
    ∙ ap answer_of (with_some (stream_named log name) refusal.NoStream
    (λ t. get_iterator log c t sh start.TrimHorizon) s (ap (stream_named log) is ∙ named)))
    ∙ none_there log k c s sh (turned k s false other)

here : (log : Journal) (c actor s k sh : ℕ) (name : List ℕ) (a : Result Reply Refusal) → name ≡ drill_name
    → stream_named log drill_name ≡ Some s → (k == s) ≡ true → CanCount log c s sh
    → a ≡ answer_of (decide log c actor (command.GetIterator name sh start.TrimHorizon))
    → iterator_in a k ≡ Some (iterator_at c s sh 0)
here log c actor s k sh name a is named same can is_told =
    ap (λ x. iterator_in x k) (iterated log c actor s sh name a is named can is_told)
    ∙ ap (λ b. if b then Some (iterator_at c s sh 0) else None) (turned k s true same)

pub not_counted : (log : Journal) (c actor s : ℕ) (key : ShardRef) (name : List ℕ) (a : Result Reply Refusal)
    → name ≡ drill_name → stream_named log drill_name ≡ Some s → ((key.stream == s) ≡ true → CanCount log c s key.shard)
    → a ≡ answer_of (decide log c actor (command.GetIterator name key.shard start.TrimHorizon))
    → iterator_in a key.stream ≡ None → (key.stream == s) ≡ false
not_counted log c actor s key name a is named can is_told none = either (key.stream == s) refl
  where
    either : (b : Bool) → (key.stream == s) ≡ b → (key.stream == s) ≡ false
    either false other = other
    either true same = absurd
        (none-some (iterator_at c s key.shard 0) (sym none
        ∙ here log c actor s key.stream key.shard name a is named same (can same) is_told))

pub counted : (log : Journal) (c actor s : ℕ) (key : ShardRef) (name : List ℕ) (a : Result Reply Refusal) (iter : Iter)
    (n : Count) → name ≡ drill_name → stream_named log drill_name ≡ Some s
    → ((key.stream == s) ≡ true → CanCount log c s key.shard)
    → a ≡ answer_of (decide log c actor (command.GetIterator name key.shard start.TrimHorizon))
    → iterator_in a key.stream ≡ Some iter
    → (CanCount log c iter.stream iter.shard → iter ≡ iterator_at c iter.stream iter.shard 0
    → (n.count ≡ length (records log iter.stream iter.shard))
    × (n.bytes ≡ bytes_of (records log iter.stream iter.shard)))
    → CountsKey log s key (Some n)
counted log c actor s key name a iter n is named can is_told found so = either (key.stream == s) refl
  where
    either : (b : Bool) → (key.stream == s) ≡ b → CountsKey log s key (Some n)
    either false other = absurd
        (none-some iter (sym (elsewhere log c actor s key.stream key.shard name a is named other is_told) ∙ found))
    either true same =
        let e = same_Some iter (iterator_at c s key.shard 0) (sym found
        ∙ here log c actor s key.stream key.shard name a is named same (can same) is_told) in
        let n_is = subst (λ (i : Iter). (CanCount log c i.stream i.shard → i ≡ iterator_at c i.stream i.shard 0
        → (n.count ≡ length (records log i.stream i.shard))
        × (n.bytes ≡ bytes_of (records log i.stream i.shard)))) e so (can same) refl in
        (same, n_is.0, n_is.1)
