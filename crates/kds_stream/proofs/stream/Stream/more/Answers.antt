-- ListShards with a token: an old token is refused, another gives the shards after its own.
use Rattle.std.proofs.Common.{◌≡◌, Some, true, false, sym, subst, ap, ◌∙◌}
use Rattle.std.specs.Prelude.{not, IfOk}
use Rattle.kds_defs.proofs.Decisions.{passed_if, refused_if}
use Rattle.kds_defs.specs.Histories.{answer_of}
use Rattle.kds_defs.specs.Listings.{is_expired_token, list_shards, more}
use Rattle.kds_defs.specs.Streams.{is_live}
use Rattle.kds_stream.specs.Value.{StreamValue}
use Rattle.kds_stream.proofs.stream.Stream.more.Goals as goal

pub returns-then-page_expired : goal.returns-then-page_expired
returns-then-page_expired c log show =
    let old = subst (λ (u : StreamValue). is_expired_token u.clock c.args.page.now.issued ≡ true) c.self.view_is
    (sym c.if-page_expired.ensures) in
    sym (ap answer_of (refused_if _ _ _ old))

pub returns : goal.returns
returns c log show =
    let v : StreamValue = c.args.self.now in
    let page = c.args.page.now in
    let young = subst (λ (u : StreamValue). is_expired_token u.clock page.issued ≡ false) c.self.view_is
    (sym c.if-page_expired.ensures) in
    let decided : more log v.clock page c.args.limit ≡ list_shards log v.clock v.no (Some page.after) c.args.limit =
    passed_if _ _ _ young
    ∙ passed_if _ _ _ (ap not (ap (is_live log) c.requires.stream ∙ show.stored.live))
    ∙ ap (λ s. list_shards log v.clock s (Some page.after) c.args.limit) c.requires.stream in
    subst (λ d. IfOk c.shards.result (λ a. a ≡ answer_of d)) (sym decided) (c.shards.ensures log show)
