use Rattle.std.proofs.Common.{◌≡◌, ◌<◌, List, [], ◌∷◌, ◌++◌, length, rules, sym, ap, subst, ◌∙◌}
use Rattle.std.specs.Prelude.{slice_set}
use Rattle.std.specs.List.{filter}
use Rattle.kcl_audit_streams.specs.declared.records.Sized.{Sized}
use Rattle.kcl_audit_streams.specs.Apart.{AreApart, records_at}
use Rattle.kcl_audit_streams.specs.Standing.{is_in}
use Rattle.kcl_audit_streams.proofs.ApartSteps.{apart_put, at_index}
use Rattle.kcl_audit_streams.proofs.stream_records.Records.push.Goals as goal

pub invariant_of-self-2 : goal.invariant_of-self-2
invariant_of-self-2 c =
    let item = c.args.item in
    let shards = c.make_room.new.shards.items in
    let n = c.item.inside.0.0.0 in
    let place : n ≡ item.shard = search rules in
    let there : item.shard < length shards = c.in_ok-make_room.ensures.there in
    let apart : AreApart shards c.self.inside.all.items = λ k. c.make_room.ensures.same k ∙ c.self.invariant k in
    let is_before : c.index_mut.result.now ≡ records_at shards item.shard =
    c.index_mut.ensures.value
    ∙ at_index shards n c.index_mut.result.now (subst (λ k. k < length shards) (sym place) there)
    ∙ ap (records_at shards) place in
    let after : c.push.new.self ≡ records_at shards item.shard ++ item ∷ [] =
    c.in_ok-push.ensures.ok ∙ ap (λ (rs : List Sized). rs ++ item ∷ []) is_before in
    let all : c.then-self-inside.result.items ≡ c.self.inside.all.items ++ item ∷ [] = search rules in
    λ sh.
    ap (λ (rs : List Sized). records_at (slice_set shards n rs) sh) after
    ∙ ap (λ k. records_at (slice_set shards k (records_at shards item.shard ++ item ∷ [])) sh) place
    ∙ apart_put shards c.self.inside.all.items item apart there sh
    ∙ ap (filter (is_in sh)) (sym all)
