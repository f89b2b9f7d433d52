-- How to show a statement of a decision's lines and answer, one test of the decision after another.
use Rattle.std.proofs.Common.{◌≡◌, ℕ, Bool, true, false, List, [], Option, Some, None, refl}
use Rattle.std.specs.Prelude.{Result, Ok, Err}
use Rattle.kds_defs.specs.declared.command.Target.{Target}
use Rattle.kds_defs.specs.declared.command.Target.TheVariants as target
use Rattle.kds_defs.specs.declared.reply.Refusal.{Refusal}
use Rattle.kds_defs.specs.declared.reply.Reply.{Reply}
use Rattle.kds_defs.specs.Decision.{Decision, Refused, Accepted, refuse◌if◌else◌, with◌or◌then◌}
use Rattle.kds_defs.specs.Histories.{lines_of, answer_of}
use Rattle.kds_defs.specs.Journal.{Line, Journal}
use Rattle.kds_defs.specs.Kinds.{is_lease_refusal}
use Rattle.kds_defs.specs.LeaseCommands.{past_parent, past_parents, past_target}
use Rattle.kds_defs.specs.Leases.{TenureState}
use Rattle.kds_defs.specs.Shards.{ShardState}

-- The statement `P` is true of the decision's lines and answer.
abbrev pub Leads : (List Line → Result Reply Refusal → Type 0) → Decision → Type 0
Leads P (Refused r) = P [] (Err r)
Leads P (Accepted lines reply) = P lines (Ok reply)

pub leads_so : (P : List Line → Result Reply Refusal → Type 0) (d : Decision) → Leads P d → P (lines_of d) (answer_of d)
leads_so P (Refused r) h = h
leads_so P (Accepted lines reply) h = h

pub if_refused : (P : List Line → Result Reply Refusal → Type 0) (r : Refusal) (b : Bool) (d : Decision)
    → P [] (Err r) → (b ≡ false → Leads P d) → Leads P (refuse r if b else d)
unfolding refuse◌if◌else◌
if_refused P r true d h g = h
if_refused P r false d h g = g refl

pub if_none : {A : Type 0} (P : List Line → Result Reply Refusal → Type 0) (r : Refusal) (o : Option A)
    (d : A → Decision)
    → P [] (Err r) → ((x : A) → o ≡ Some x → Leads P (d x)) → Leads P (with o or r then d)
unfolding with◌or◌then◌
if_none P r None d h g = h
if_none P r (Some x) d h g = g x refl

-- ---- If `P` is true of each refusal and no lines

pub past_test : (P : List Line → Result Reply Refusal → Type 0) → ((r : Refusal) → P [] (Err r))
    → (r : Refusal) (b : Bool) (d : Decision)
    → (b ≡ false → Leads P d) → Leads P (refuse r if b else d)
past_test P all r b d next = if_refused P r b d (all r) next

pub past_none : {A : Type 0} (P : List Line → Result Reply Refusal → Type 0) → ((r : Refusal) → P [] (Err r))
    → (r : Refusal) (o : Option A)
    (d : A → Decision) → ((x : A) → o ≡ Some x → Leads P (d x)) → Leads P (with o or r then d)
past_none P all r o d next = if_none P r o d (all r) next

-- ---- If `P` is true of each refusal that a command for leases may get, and no lines

module _ (P : List Line → Result Reply Refusal → Type 0)
    (each : (r : Refusal) → is_lease_refusal r ≡ true → P [] (Err r)) where
  pub past_a_parent : (log : Journal) (c s : ℕ) (o : Option ℕ) (d : Decision) → Leads P d
      → Leads P (past_parent log c s o d)
  past_a_parent log c s None d next = next
  past_a_parent log c s (Some parent) d next = if_refused P _ _ _ (each _ refl) (λ e. next)

  pub past_the_parents : (log : Journal) (c s : ℕ) (o : Option ShardState) (d : Decision) → Leads P d
      → Leads P (past_parents log c s o d)
  past_the_parents log c s None d next = next
  past_the_parents log c s (Some x) d next =
      past_a_parent log c s x.parent (past_parent log c s x.adjacent d) (past_a_parent log c s x.adjacent d next)

  pub past_the_target : (log : Journal) (T : TenureState) (goal : Target) (d : Decision) → Leads P d
      → Leads P (past_target log T goal d)
  past_the_target log T (target.At q) d next =
      if_refused P _ _ _ (each _ refl)
      (λ a. if_refused P _ _ _ (each _ refl) (λ b. if_refused P _ _ _ (each _ refl) (λ e. next)))
  past_the_target log T target.End d next = if_refused P _ _ _ (each _ refl) (λ a. next)
