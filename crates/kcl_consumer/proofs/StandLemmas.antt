-- After each call of its functions, a consumer stands for its trace with what the call adds.
use Rattle.std.proofs.Common.{◌≡◌, ℕ, Bool, false, List, ◌∷◌, Option, None, Ok, Err, refl, sym, ap, subst, ◌∙◌}
use Rattle.std.specs.Prelude.{Result}
use Rattle.kds_defs.specs.declared.command.Target.{Target}
use Rattle.kcl_defs.specs.declared.consumer.Ask.{Ask}
use Rattle.kcl_defs.specs.declared.consumer.Call.{Call}
use Rattle.kcl_defs.specs.declared.consumer.Fetched.{Fetched}
use Rattle.kcl_defs.specs.declared.consumer.Tenancy.{Tenancy}
use Rattle.kds_defs.specs.declared.reply.Refusal.{Refusal}
use Rattle.kds_defs.specs.declared.reply.Reply.{Reply}
use Rattle.kds_defs.specs.declared.reply.Stored.{Stored}
use Rattle.kcl_defs.specs.Consumers.{Answered, Called, Filling, Giving, Losing, Past, after_answer, after_call}
use Rattle.kcl_defs.specs.Consumers.{after_give, after_loss, after_read, call_at, calls_after, given_after, stage_after}
use Rattle.kcl_defs.specs.Consumers.{with_call}
use Rattle.kcl_defs.specs.Lives.{last_given}
use Rattle.kcl_defs.proofs.GivenLemmas.{given_answered, given_called, given_lost}
use Rattle.kcl_consumer.specs.declared.stage.ConsumerStage.{ConsumerStage}
use Rattle.kcl_consumer.specs.declared.stage.ConsumerStage.TheVariants as stage
use Rattle.kcl_consumer.specs.Stages.{stage_of}
use Rattle.kcl_consumer.specs.Standing.{HasCalled, IsAsBefore, ConsumerValue, StandsFor}

pub called : {P : Type 0} (stands : P → List Call → Type 0) (asks : P → List Stored → Ask → Type 0) (asked : Ask)
    (old new : ConsumerValue P) (past : Past) → HasCalled stands asks asked old new
    → StandsFor stands old past → StandsFor stands new (Called asked ∷ past)
called stands asks asked old new past h s = record {
  stage = h.stage ∙ ap (after_call old.made asked) s.stage
      ∙ ap (λ m. after_call m asked (stage_after m past)) (sym h.made);
  given = h.given ∙ s.given ∙ sym (given_called old.made asked past)
      ∙ ap (λ m. last_given m (Called asked ∷ past)) (sym h.made);
  calls = subst (λ m. stands new.processor (calls_after m (Called asked ∷ past))) (sym h.made)
      (subst (λ p. stands new.processor (with_call (call_at old.made p) (calls_after old.made past))) s.stage
      (h.calls (calls_after old.made past) s.calls));
}

pub kept : {P : Type 0} (stands : P → List Call → Type 0) (asks : P → List Stored → Ask → Type 0)
    (old new : ConsumerValue P)
    (past : Past) → IsAsBefore stands asks old new → StandsFor stands old past → StandsFor stands new past
kept stands asks old new past h s = record {
  stage = h.stage ∙ s.stage ∙ ap (λ m. stage_after m past) (sym h.made);
  given = h.given ∙ s.given ∙ ap (λ m. last_given m past) (sym h.made);
  calls = subst (λ m. stands new.processor (calls_after m past)) (sym h.made)
      (h.calls (calls_after old.made past) s.calls);
}

pub answered : {P : Type 0} (stands : P → List Call → Type 0) (answer : Result Reply Refusal)
    (old new : ConsumerValue P)
    (past : Past) → new.made ≡ old.made → new.stage ≡ after_answer old.made answer old.stage
    → new.given ≡ given_after answer old.stage old.given → new.processor ≡ old.processor → StandsFor stands old past
    → StandsFor stands new (Answered answer ∷ past)
answered stands answer old new past made stage is_given processor s = record {
  stage = stage ∙ ap (after_answer old.made answer) s.stage
      ∙ ap (λ m. after_answer m answer (stage_after m past)) (sym made);
  given = is_given ∙ ap (λ p. given_after answer p old.given) s.stage
      ∙ ap (given_after answer (stage_after old.made past)) s.given
      ∙ sym (given_answered old.made answer past) ∙ ap (λ m. last_given m (Answered answer ∷ past)) (sym made);
  calls = subst (λ p. stands p (calls_after new.made (Answered answer ∷ past))) (sym processor)
      (subst (λ m. stands old.processor (calls_after m (Answered answer ∷ past))) (sym made) s.calls);
}

pub lost : {P : Type 0} (stands : P → List Call → Type 0) (old new : ConsumerValue P) (past : Past)
    → new.made ≡ old.made
    → new.stage ≡ after_loss old.stage → new.given ≡ old.given → new.processor ≡ old.processor
    → StandsFor stands old past → StandsFor stands new (Losing ∷ past)
lost stands old new past made stage is_given processor s = record {
  stage = stage ∙ ap after_loss s.stage ∙ ap (λ m. after_loss (stage_after m past)) (sym made);
  given = is_given ∙ s.given ∙ sym (given_lost old.made past) ∙ ap (λ m. last_given m (Losing ∷ past)) (sym made);
  calls = subst (λ p. stands p (calls_after new.made (Losing ∷ past))) (sym processor)
      (subst (λ m. stands old.processor (calls_after m (Losing ∷ past))) (sym made) s.calls);
}

-- ---- The answers to a Read and to a Give, in terms of the fields

-- The consumer with these stored fields, as callers see it.
abbrev fields : {P : Type 0} → Tenancy → ConsumerStage → ℕ → List Fetched → Option Target → Bool → Option ℕ → P
    → ConsumerValue P
fields made st reach ahead asked lost last processor =
    record { made = made; stage = stage_of st reach ahead asked lost; given = last; processor = processor }

given_still : (answer : Result Reply Refusal) (reach : ℕ) (waiting : List Fetched) (last : Option ℕ)
    → last ≡ given_after answer (Filling reach waiting) last
given_still (Ok reply) reach waiting last = refl
given_still (Err r) reach waiting last = refl

-- Primed names are the fields after the answer.
pub read_answered : {P : Type 0} (stands : P → List Call → Type 0) (answer : Result Reply Refusal) (made : Tenancy)
    (st st' : ConsumerStage) (reach reach' : ℕ) (ahead ahead' : List Fetched) (asked asked' : Option Target)
    (lost lost' : Bool) (last : Option ℕ) (p : P) (past : Past) → st ≡ stage.Filling → asked' ≡ None → lost' ≡ false
    → stage_of st' reach' ahead' None false ≡ after_read made.limit reach ahead answer
    → StandsFor stands (fields made st reach ahead asked lost last p) past
    → StandsFor stands (fields made st' reach' ahead' asked' lost' last p) (Answered answer ∷ past)
read_answered stands answer made st st' reach reach' ahead ahead' asked asked' lost lost' last p past is none not_lost
    stage s =
    answered stands answer (fields made st reach ahead asked lost last p)
    (fields made st' reach' ahead' asked' lost' last p) past refl
    (ap (λ a. stage_of st' reach' ahead' a lost') none ∙ ap (stage_of st' reach' ahead' None) not_lost ∙ stage
    ∙ sym (ap (λ x. after_answer made answer (stage_of x reach ahead asked lost)) is))
    (given_still answer reach ahead last
    ∙ sym (ap (λ x. given_after answer (stage_of x reach ahead asked lost) last) is)) refl s

-- Primed names are the fields after the answer.
pub give_answered : {P : Type 0} (stands : P → List Call → Type 0) (answer : Result Reply Refusal) (made : Tenancy)
    (st st' : ConsumerStage) (reach : ℕ) (ahead ahead' : List Fetched) (asked asked' : Option Target)
    (lost lost' : Bool) (option option' : Option ℕ) (p : P) (past : Past) → st ≡ stage.Giving → asked' ≡ None
    → lost' ≡ false → stage_of st' reach ahead' None false ≡ after_give reach ahead asked lost answer
    → option' ≡ given_after answer (Giving reach ahead asked lost) option
    → StandsFor stands (fields made st reach ahead asked lost option p) past
    → StandsFor stands (fields made st' reach ahead' asked' lost' option' p) (Answered answer ∷ past)
give_answered stands answer made st st' reach ahead ahead' asked asked' lost lost' option option' p past is none
    not_lost
    stage last s =
    answered stands answer (fields made st reach ahead asked lost option p)
    (fields made st' reach ahead' asked' lost' option' p) past refl
    (ap (λ a. stage_of st' reach ahead' a lost') none ∙ ap (stage_of st' reach ahead' None) not_lost ∙ stage
    ∙ sym (ap (λ x. after_answer made answer (stage_of x reach ahead asked lost)) is))
    (last ∙ sym (ap (λ x. given_after answer (stage_of x reach ahead asked lost) option) is)) refl s
