use Rattle.std.proofs.Common.{ℕ, ◌≡◌, ◌∙◌, ap, ◌++◌, ◌-◌, codes, replicate, length, arith}
use Rattle.std.proofs.lemmas.List.{length-replicate}
use Rattle.kds_token.proofs.ids.before.Goals as goal

pub returns-clause-bytes : goal.returns-clause-bytes
returns-clause-bytes c =
    let same : c.loop-known.known - c.args.digits ≡ 12 - c.args.digits = omega arith in
    c.loop-known.invariant.zeros ∙ ap (λ k. codes "shardId-" ++ replicate k 48) same

pub returns-clause-room : goal.returns-clause-room
returns-clause-room c =
    omega (
      arith,
      ap length c.loop-known.invariant.zeros,
      length-replicate {A = ℕ} (c.loop-known.known - c.args.digits) 48,
    )
