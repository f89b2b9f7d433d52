-- Exit statuses 0, 2, 4, 5 and 8 belong to one status each.
use Rattle.std.proofs.Common.{◌≡◌, ℕ, Option, Some, None, refl, ap, inl, inr, ◌∙◌}
use Rattle.std.specs.Prelude.{◌⊎◌}
use Rattle.std.specs.Option.{IfSome}
use Rattle.kds_ends.specs.declared.status.Status.{Status}
use Rattle.kds_ends.specs.declared.status.Status.TheVariants.{Done, Usage, Read, Write, Memory, Door}
use Rattle.kds_ends.specs.Status.{code_of}

pub done_by : (s : Status) → code_of s ≡ 0 → s ≡ Done
done_by Done h = refl
done_by _ h = absurd cc

pub usage_by : (s : Status) → code_of s ≡ 2 → s ≡ Usage
usage_by Usage h = refl
usage_by _ h = absurd cc

pub read_by : (s : Status) → code_of s ≡ 4 → s ≡ Read
read_by Read h = refl
read_by _ h = absurd cc

pub write_by : (s : Status) → code_of s ≡ 5 → s ≡ Write
write_by Write h = refl
write_by _ h = absurd cc

pub door_by : (s : Status) → code_of s ≡ 8 → s ≡ Door
door_by Door h = refl
door_by _ h = absurd cc

pub refused_code : (s : Status) (code : ℕ) → code ≡ code_of s → (s ≡ Usage) ⊎ (s ≡ Memory) → (code ≡ 2) ⊎ (code ≡ 6)
refused_code s code is (inl usage) = inl (is ∙ ap code_of usage)
refused_code s code is (inr memory) = inr (is ∙ ap code_of memory)

pub no_usage : Memory ≡ Usage → ⊥
no_usage h = cc

pub each : {A : Type 0} (P : A → Type 0) → ((x : A) → P x) → (o : Option A) → IfSome o P
each P all None = tt
each P all (Some x) = all x
