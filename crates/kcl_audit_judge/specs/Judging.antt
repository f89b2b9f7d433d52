-- A judge's verdicts on entries of leases; it checks the entries of a journal one by one.
use Rattle.std.specs.Prelude.{ℕ, Bool, not, if◌then◌else◌, Option, Some, None, Result, Ok, Err}
use Rattle.kds_defs.specs.declared.reply.Refusal.{Refusal}
use Rattle.kds_defs.specs.declared.reply.Refusal.TheVariants as refusal
use Rattle.kds_defs.specs.declared.reply.Reply.{Reply}
use Rattle.kcl_book.specs.Tenures.{TenureValue}
use Rattle.kcl_audit_streams.specs.Verdict.{Verdict}
use Rattle.kcl_audit_streams.specs.Judging.{agrees, refused}

-- The verdict by a command's answer, for a command that leads to just this entry when accepted.
abbrev pub answer_verdict : (result : Result Reply Refusal) → Verdict
answer_verdict (Ok reply) = Ok tt
answer_verdict (Err r) = refused r

-- The sequence number from which the tenure goes on reading, or 0 without a tenure.
abbrev pub reach_of : (t : Option TenureValue) → ℕ
reach_of None = 0
reach_of (Some t) = t.reach

-- ---- An entry that makes a row

-- The verdict on a row that is made: Ok if its shard is listed, no row is there, and the machine gives this origin.
abbrev pub lease_verdict : (listed there counts : Bool) → Verdict
lease_verdict listed there counts =
    if not listed then refused refusal.ShardGone else
    if there then refused refusal.LeaseThere else
    agrees counts
