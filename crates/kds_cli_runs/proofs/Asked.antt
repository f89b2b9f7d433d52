-- What holds at a task's end holds at the end of the program that was asked for it.
use Rattle.std.proofs.Common.{◌≡◌, ℕ, true, false, List, Option, Some, None, refl, inl, inr, ap, ◌∙◌, subst}
use Rattle.std.specs.Option.{IfSome}
use Rattle.kds_ends.specs.declared.status.Status.{Status}
use Rattle.kds_ends.specs.declared.status.Status.TheVariants.{Done, Memory}
use Rattle.kds_cli_words.specs.declared.task.Task.{Task}
use Rattle.kds_cli_words.specs.declared.task.Task.TheVariants.{Replay, Answer, Audit, Serve, Drill}
use Rattle.kds_cli_runs.proofs.Codes.{each}
use Rattle.kds_server.specs.Around.{Around}
use Rattle.kds_cli_runs.specs.Completed.{Completed}
use Rattle.kds_cli_runs.specs.Ends.{Performed, Replayed, TaskEnds, reads_input, serves_door}
use Rattle.kds_cli_runs.specs.Program.{asks_for_door, asks_for_input}
use Rattle.kds_cli_runs.specs.Journal.{IsAuditedSound}

pub asked_so : (P : Task → Type 0) (asked : Option Task) (task : Task) → Some task ≡ asked → P task → IfSome asked P
asked_so P asked task is p = subst (λ (o : Option Task). IfSome o P) is p

pub no_door : (asked : Option Task) (task : Task) → Some task ≡ asked → asks_for_door asked ≡ false
    → serves_door task ≡ false
no_door asked task is none = ap asks_for_door is ∙ none

pub no_input : (asked : Option Task) (task : Task) → Some task ≡ asked → asks_for_input asked ≡ false
    → reads_input task ≡ false
no_input asked task is none = ap asks_for_input is ∙ none

pub not_none : {A : Type 0} (x : A) (o : Option A) → Some x ≡ o → o ≡ None → ⊥
not_none x o is none = cc

sound_so : (status : Status) (input out : Around (Option (List ℕ))) → Replayed true status input out → status ≡ Done
    → IfSome input.before IsAuditedSound
sound_so status input out r done = r.sound refl done

pub sound_by : (asked : Option Task) (status : Status) (ends : TaskEnds) → IfSome asked (λ t. Performed t status ends)
    → asked ≡ Some (Replay true) → status ≡ Done → IfSome ends.input.before IsAuditedSound
sound_by asked status ends p is done =
    sound_so status ends.input ends.out (subst (λ (o : Option Task). IfSome o (λ t. Performed t status ends)) is p) done

pub none_completed : (task : Task) (bytes : Option (List ℕ)) → Completed task Memory bytes
none_completed (Replay journal) bytes = each _ (λ bs. inr refl) bytes
none_completed Answer bytes = each _ (λ bs ms ending falls. inr refl) bytes
none_completed Audit bytes = each _ (λ bs. inr refl) bytes
none_completed (Serve port passes) bytes = refl
none_completed (Drill number workers records) bytes = inr refl

pub listens_or_not : (task : Task) (input out : Around (Option (List ℕ))) (moments : Option (List ℕ))
    (listens : ℕ → Type 0)
    → Performed task Memory (record { input = input; out = out; moments = moments; listens = λ port. ⊥ })
    → Performed task Memory (record { input = input; out = out; moments = moments; listens = listens })
listens_or_not (Serve port passes) input out moments listens (inl p) = absurd p.1
listens_or_not (Serve port passes) input out moments listens (inr p) = inr p
listens_or_not _ input out moments listens p = p
