-- A thread ends with Spent only if a pass is full, and no pass with fewer than 2^32 turns seen is.
use Rattle.std.proofs.Common.{◌≡◌, ◌⊎◌, inl, inr, ℕ, suc, List, [], ◌∷◌, length, refl, subst, arith, Err}
use Rattle.std.specs.Prelude.{IfErr}
use Rattle.std.specs.List.{AllByRecursion}
use Rattle.kds_turn.specs.declared.pass.TurnErr.{TurnErr}
use Rattle.kds_turn.specs.declared.pass.TurnErr.TheVariants as failed
use Rattle.kds_turn.specs.Passes.{PassValue}
use Rattle.kcl_drill_threads.specs.Asking.{IsAskErr}
use Rattle.kcl_drill_threads.specs.Feeding.{IsCrowdErr, IsFeedErr}
use Rattle.kcl_drill_threads.specs.Running.{HaveEnded}
use Rattle.kcl_defs.specs.declared.consumer.Call.{Call}
use Rattle.kcl_live.specs.Members.{HasEnded}
use Rattle.kcl_live.specs.Runs.{WasCut}
use Rattle.kcl_live.specs.declared.crew.Member.{Member}
use Rattle.kcl_drill_run.specs.Ends.{SomeFailed}
use Rattle.kcl_drill_run.specs.Running.{AreFull, AreShort, IsFull, IsShort, SomeIsFull}
use Rattle.kcl_drill_run.specs.declared.participants.Participants.{Participants}

no_memory : failed.Spent ≡ failed.Memory → ⊥
no_memory e = absurd cc

-- ---- The root and the feeder

ask_full : (old p : PassValue) → IsAskErr old p failed.Spent → IsFull p
ask_full old p (inl memory) = absurd (no_memory memory.0)
ask_full old p (inr turn) = turn.0 refl

feed_full : (p : PassValue) → IsFeedErr p failed.Spent → IsFull p
feed_full p (inl memory) = absurd (no_memory memory.0)
feed_full p (inr turn) = turn.0 refl

crowd_spent : (old root feeder : PassValue) → IsCrowdErr old root feeder failed.Spent
    → IsFull root ⊎ IsFull feeder
crowd_spent old root feeder (inl asked) = inl (ask_full old root asked.2)
crowd_spent old root feeder (inr fed) = inr (feed_full feeder fed.1)

pub crowd_full : (old : PassValue) (p : Participants) (e : TurnErr) → IsCrowdErr old p.root p.feeder e
    → e ≡ failed.Spent → AreFull p
crowd_full old p e err is =
    either (crowd_spent old p.root p.feeder (subst (IsCrowdErr old p.root p.feeder) is err))
  where
    either : IsFull p.root ⊎ IsFull p.feeder → AreFull p
    either (inl root) = inl root
    either (inr feeder) = inr (inl feeder)

-- ---- The workers

module _ {M P F G : Type 0} (stands : P → List Call → Type 0) (turns : ℕ) where
  cut_full : (a : Member M P F G) → WasCut stands a.worker a.pass failed.Spent → IsFull a.pass
  cut_full a (inl call) = absurd (no_memory call.error)
  cut_full a (inr (inl turn)) = turn.spent.0 refl
  cut_full a (inr (inr answer)) = absurd (no_memory answer.error)

  one_full : (b a : Member M P F G) → HasEnded stands turns 50 b a → a.outcome ≡ Err failed.Spent → IsFull a.pass
  one_full b a ended is = cut_full a (subst (λ o. IfErr o (WasCut stands a.worker a.pass)) is ended.err)

  pub members_full : (e : TurnErr) (old new : List (Member M P F G)) → e ≡ failed.Spent
      → length new ≡ length old
      → HaveEnded stands turns old new → SomeFailed e new → SomeIsFull new
  members_full e old [] is same ended some = absurd some
  members_full e [] (a ∷ new) is same ended some = absurd (omega arith)
  members_full e (b ∷ old) (a ∷ new) is same ended (inl one) =
      inl (one_full b a (ended 0 b (omega arith)) (subst (λ x. a.outcome ≡ Err x) is one))
  members_full e (b ∷ old) (a ∷ new) is same ended (inr more) =
      inr (members_full e old new is (omega arith) (λ i m below. ended (suc i) m (omega arith))
      more)

-- ---- Passes that have seen few turns

few_not_full : (p : PassValue) → IsShort p → IsFull p → ⊥
few_not_full p short full = absurd (omega arith)

members_not_full : {M P F G : Type 0} (ms : List (Member M P F G)) → AllByRecursion (λ m. IsShort m.pass) ms
    → SomeIsFull ms → ⊥
members_not_full [] short full = full
members_not_full (m ∷ ms) short (inl one) = few_not_full m.pass short.0 one
members_not_full (m ∷ ms) short (inr more) = members_not_full ms short.1 more

pub not_full : (p : Participants) → AreShort p → AreFull p → ⊥
not_full p short (inl root) = few_not_full p.root short.root root
not_full p short (inr (inl feeder)) = few_not_full p.feeder short.feeder feeder
not_full p short (inr (inr members)) = members_not_full p.members.items short.members members
