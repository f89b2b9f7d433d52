use Rattle.std.proofs.Common.{◌≡◌, ◌≢◌, Some, None, sym, ap, ◌∙◌, refl, rules, arith}
use Rattle.kds_token.specs.Ids.{shard_id, id_of}
use Rattle.kds_token.proofs.IdLemmas.{id_reads, no_id}
use Rattle.kds_token.proofs.ids.read_shard_id.Goals as goal

pub returns-then-eq : goal.returns-then-eq
returns-then-eq c =
    let is : c.args.text.now ≡ shard_id c.in-Some.number = search rules in
    sym (ap id_of is ∙ id_reads c.in-Some.number (omega arith))

pub returns-else-eq : goal.returns-else-eq
returns-else-eq c =
    let other : c.args.text.now ≢ shard_id c.in-Some.number = search rules in
    no_id c.args.text.now (Some c.in-Some.number) _ refl c.in-Some.ensures (λ n same. let e : c.in-Some.number
    ≡ n = cc in λ is. other (is ∙ sym (ap shard_id e)))

pub returns-in-None : goal.returns-in-None
returns-in-None c = no_id c.args.text.now None _ refl c.in-None.ensures (λ n same. cc)
