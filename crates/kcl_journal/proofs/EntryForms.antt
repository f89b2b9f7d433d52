-- The text after an entry's first word makes a round trip.
use Rattle.std.proofs.Common.{ℕ, List, ◌∷◌, ◌++◌, Bool, refl, arith, decimal}
use Rattle.kds_base.specs.Names.{IsName, name_of}
use Rattle.kds_base.specs.declared.lease_key.ShardRef.{ShardRef}
use Rattle.kds_defs.specs.declared.command.Target.{Target}
use Rattle.kds_defs.specs.declared.limits.TheConstants.{MOST, LEAST_SHARDS, MOST_SHARDS, LEAST_HOURS, MOST_HOURS}
use Rattle.kcl_script_fields.specs.Commands.{IsKey, IsTarget, target_of, target_text}
use Rattle.kcl_script_fields.specs.Fields.{two, number, worker_of, worker_text, key_of, key_text}
use Rattle.kcl_script_fields.proofs.Forms.{IsForm, number_form, IsWorker, worker_form, two_form, key_form, key_lacks}
use Rattle.kcl_script_fields.proofs.RawLemmas.{target_form}
use Rattle.kcl_journal.specs.Entries.{batch_of, counter_of, hash_of, sizes_of, sizes_text, switch_of, switch_text}
use Rattle.kcl_journal.specs.Entries.{within_of}
use Rattle.kcl_journal.specs.Ranges.{AreSizes, Is64, IsHash, is_first}
use Rattle.kcl_journal.proofs.TextForms.{IsCounted, IsSwitch, IsWithin, counter_form, counter_lacks, hash_form}
use Rattle.kcl_journal.proofs.TextForms.{hash_lacks, name_form, name_lacks, number_lacks, sizes_form, switch_form}
use Rattle.kcl_journal.proofs.TextForms.{within_form, within_lacks}
use Rattle.kcl_journal.proofs.WordLists.{IsBatch, batch_text, batch_form}

pub made_form : IsForm (λ (a : ℕ × (List ℕ × ℕ)). Is64 a.0 × (IsName a.1.0 × IsWithin LEAST_SHARDS MOST_SHARDS a.1.1))
    (two 32 number (two 32 name_of (within_of LEAST_SHARDS MOST_SHARDS)))
    (λ (a : ℕ × (List ℕ × ℕ)). decimal a.0 ++ 32 ∷ (a.1.0 ++ 32 ∷ decimal a.1.1))
made_form = two_form 32 refl number_lacks number_form
    (two_form 32 refl name_lacks name_form (within_form LEAST_SHARDS MOST_SHARDS (omega arith)))

pub put_form : (version : ℕ)
    → IsForm (λ (a : ℕ × (ℕ × (ℕ × (ℕ × (ℕ × ℕ))))). Is64 a.0
    × (Is64 a.1.0 × (Is64 a.1.1.0 × (IsHash a.1.1.1.0 × AreSizes version a.1.1.1.1.0 a.1.1.1.1.1))))
    (two 32 number (two 32 number (two 32 number (two 32 hash_of (sizes_of version)))))
    (λ (a : ℕ × (ℕ × (ℕ × (ℕ × (ℕ × ℕ))))). decimal a.0
    ++ 32 ∷ (decimal a.1.0
    ++ 32 ∷ (decimal a.1.1.0 ++ 32 ∷ (decimal a.1.1.1.0 ++ 32 ∷ sizes_text version a.1.1.1.1))))
put_form version = two_form 32 refl number_lacks number_form
    (two_form 32 refl number_lacks number_form (two_form 32 refl number_lacks number_form
    (two_form 32 refl hash_lacks hash_form (sizes_form (is_first version)))))

pub split_form : IsForm (λ (a : ℕ × (ℕ × (ℕ × (ℕ × (ℕ × ℕ))))). Is64 a.0
    × (Is64 a.1.0 × (IsHash a.1.1.0 × (Is64 a.1.1.1.0 × (Is64 a.1.1.1.1.0 × Is64 a.1.1.1.1.1)))))
    (two 32 number (two 32 number (two 32 hash_of (two 32 number (two 32 number number)))))
    (λ (a : ℕ × (ℕ × (ℕ × (ℕ × (ℕ × ℕ))))). decimal a.0
    ++ 32 ∷ (decimal a.1.0
    ++ 32 ∷ (decimal a.1.1.0
    ++ 32 ∷ (decimal a.1.1.1.0 ++ 32 ∷ (decimal a.1.1.1.1.0 ++ 32 ∷ decimal a.1.1.1.1.1)))))
split_form = two_form 32 refl number_lacks number_form
    (two_form 32 refl number_lacks number_form (two_form 32 refl hash_lacks hash_form
    (two_form 32 refl number_lacks number_form (two_form 32 refl number_lacks number_form number_form))))

pub merged_form : IsForm (λ (a : ℕ × (ℕ × (ℕ × (ℕ × ℕ)))). Is64 a.0
    × (Is64 a.1.0 × (Is64 a.1.1.0 × (Is64 a.1.1.1.0 × Is64 a.1.1.1.1))))
    (two 32 number (two 32 number (two 32 number (two 32 number number))))
    (λ (a : ℕ × (ℕ × (ℕ × (ℕ × ℕ)))). decimal a.0
    ++ 32 ∷ (decimal a.1.0 ++ 32 ∷ (decimal a.1.1.0 ++ 32 ∷ (decimal a.1.1.1.0 ++ 32 ∷ decimal a.1.1.1.1))))
merged_form = two_form 32 refl number_lacks number_form
    (two_form 32 refl number_lacks number_form (two_form 32 refl number_lacks number_form
    (two_form 32 refl number_lacks number_form number_form)))

pub kept_form : IsForm (λ (a : ℕ × ℕ). Is64 a.0 × IsWithin LEAST_HOURS MOST_HOURS a.1)
    (two 32 number (within_of LEAST_HOURS MOST_HOURS)) (λ (a : ℕ × ℕ). decimal a.0 ++ 32 ∷ decimal a.1)
kept_form = two_form 32 refl number_lacks number_form (within_form LEAST_HOURS MOST_HOURS (omega arith))

pub enforced_form : IsForm (λ (a : ℕ × Bool). Is64 a.0 × IsSwitch a.1) (two 32 number switch_of) (λ (a : ℕ × Bool).
    decimal a.0 ++ 32 ∷ switch_text a.1)
enforced_form = two_form 32 refl number_lacks number_form switch_form

pub taken_form : IsForm (λ (a : ShardRef × (ℕ × (ℕ × ℕ))). IsKey a.0
    × (Is64 a.1.0 × (IsCounted a.1.1.0 × IsWorker a.1.1.1)))
    (two 32 key_of (two 32 number (two 32 counter_of worker_of)))
    (λ (a : ShardRef × (ℕ × (ℕ × ℕ))). key_text a.0
    ++ 32 ∷ (decimal a.1.0 ++ 32 ∷ (decimal a.1.1.0 ++ 32 ∷ worker_text a.1.1.1)))
taken_form = two_form 32 refl key_lacks key_form
    (two_form 32 refl number_lacks number_form (two_form 32 refl counter_lacks counter_form worker_form))

pub written_form : IsForm (λ (a : ℕ × ℕ). Is64 a.0 × IsCounted a.1) (two 32 number counter_of)
    (λ (a : ℕ × ℕ). decimal a.0 ++ 32 ∷ decimal a.1)
written_form = two_form 32 refl number_lacks number_form counter_form

pub read_form : IsForm (λ (a : ℕ × (ℕ × (Bool × List ℕ))). Is64 a.0 × (IsWithin 1 MOST a.1.0 × IsBatch a.1.1))
    (two 32 number (two 32 (within_of 1 MOST) batch_of))
    (λ (a : ℕ × (ℕ × (Bool × List ℕ))). decimal a.0 ++ 32 ∷ (decimal a.1.0 ++ 32 ∷ batch_text a.1.1))
read_form = two_form 32 refl number_lacks number_form
    (two_form 32 refl (within_lacks 1 MOST (omega arith)) (within_form 1 MOST (omega arith)) batch_form)

pub marked_form : IsForm (λ (a : ℕ × (ℕ × Target)). Is64 a.0 × (IsCounted a.1.0 × IsTarget a.1.1))
    (two 32 number (two 32 counter_of target_of))
    (λ (a : ℕ × (ℕ × Target)). decimal a.0 ++ 32 ∷ (decimal a.1.0 ++ 32 ∷ target_text a.1.1))
marked_form = two_form 32 refl number_lacks number_form (two_form 32 refl counter_lacks counter_form target_form)

pub cut_form : IsForm (λ (a : ShardRef × ℕ). IsKey a.0 × Is64 a.1) (two 32 key_of number) (λ (a : ShardRef × ℕ).
    key_text a.0 ++ 32 ∷ decimal a.1)
cut_form = two_form 32 refl key_lacks key_form number_form
