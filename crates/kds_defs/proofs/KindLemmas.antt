-- Each command gets a reply or a refusal of its own kind: of the stream service, or of leases.
use Rattle.std.proofs.Common.{◌≡◌, ℕ, true, false, List, refl, subst}
use Rattle.std.specs.Prelude.{Result, if◌then◌else◌}
use Rattle.kds_defs.specs.declared.command.Command.{Command}
use Rattle.kds_defs.specs.declared.reply.Refusal.{Refusal}
use Rattle.kds_defs.specs.declared.reply.Reply.{Reply}
use Rattle.kds_defs.specs.Decision.{Decision}
use Rattle.kds_defs.specs.Histories.{answer_of, decide}
use Rattle.kds_defs.specs.Journal.{Journal, Line}
use Rattle.kds_defs.specs.Kinds.{is_lease_answer, is_lease_refusal, is_service, is_service_answer, is_service_refusal}
use Rattle.kds_defs.proofs.Walk.{Outcome, Refuses, Answers, Adds, Surveys, Creates, walk}

-- A command for the stream service may get the decision's answer.
abbrev IsOwn : Decision → Type 0
IsOwn d = is_service_answer (answer_of d) ≡ true

-- A command on leases may get the decision's answer.
abbrev IsLeases : Decision → Type 0
IsLeases d = is_lease_answer (answer_of d) ≡ true

own : (log : Journal) (c actor : ℕ) (command : Command) (lines : List Line) (answer : Result Reply Refusal)
    → Outcome log c actor command lines answer
    → is_service command ≡ true → is_service_answer answer ≡ true
own log c actor _ _ _ (Refuses command r may) is =
    subst (λ b. (if b then is_service_refusal r else is_lease_refusal r) ≡ true) is may
own log c actor _ _ _ (Answers _ _ (Surveys keys rows)) is = is
own log c actor _ _ _ (Adds _ _ _ (Creates name count fits)) is = refl
own log c actor _ _ _ _ is = cc

pub own_answers : (log : Journal) (c actor : ℕ) (command : Command) → is_service command ≡ true
    → IsOwn (decide log c actor command)
own_answers log c actor command is = own log c actor command _ _ (walk log c actor command) is

of_leases : (log : Journal) (c actor : ℕ) (command : Command) (lines : List Line) (answer : Result Reply Refusal)
    → Outcome log c actor command lines answer
    → is_service command ≡ false → is_lease_answer answer ≡ true
of_leases log c actor _ _ _ (Refuses command r may) is =
    subst (λ b. (if b then is_service_refusal r else is_lease_refusal r) ≡ true) is may
of_leases log c actor _ _ _ (Answers _ _ (Surveys keys rows)) is = refl
of_leases log c actor _ _ _ (Answers _ _ _) is = absurd cc
of_leases log c actor _ _ _ (Adds _ _ _ (Creates name count fits)) is = refl
of_leases log c actor _ _ _ _ is = cc

pub lease_answers : (log : Journal) (c actor : ℕ) (command : Command) → is_service command ≡ false
    → IsLeases (decide log c actor command)
lease_answers log c actor command is = of_leases log c actor command _ _ (walk log c actor command) is
