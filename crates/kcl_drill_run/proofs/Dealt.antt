-- The passes of a new hall are dealt out: to the root, to the feeder, and to the workers (`AreDealt`).
use Rattle.std.proofs.Common.{◌≡◌, ℕ, zero, suc, ◌+◌, ◌≤◌, List, [], ◌∷◌, ◌++◌, length, refl, sym, ap, subst, ◌∙◌}
use Rattle.std.proofs.Common.{arith}
use Rattle.std.specs.Prelude.{slice_index_or}
use Rattle.std.specs.List.{remove}
use Rattle.kcl_live.specs.declared.crew.Member.{Member}
use Rattle.kcl_proc.specs.declared.stock.Kind.{Kind}
use Rattle.kcl_proc.specs.declared.stock.Stock.{Stock}
use Rattle.kds_turn.specs.Passes.{HallValue, PassValue, new_pass}
use Rattle.kcl_drill_run.specs.Participants.{AreDealt, AreMembersOf, IsMemberOf, new_passes}
use Rattle.kcl_drill_run.specs.declared.participants.Participants.{Participants}

module _ {M G : Type 0} where
  -- One more pass and its worker, named by the next number, keep `AreMembersOf`.
  pub one_more : (name : ℕ) (ps : List PassValue) (ms : List (Member M Stock Kind G)) (p : PassValue)
      (m : Member M Stock Kind G) → AreMembersOf name ps ms
      → IsMemberOf (name + length ms) p m → AreMembersOf name (ps ++ p ∷ []) (ms ++ m ∷ [])
  one_more name [] [] p m are is = let e : name + 0 ≡ name = omega arith in (subst (λ n. IsMemberOf n p m) e is, tt)
  one_more name [] (y ∷ ms) p m are is = absurd are
  one_more name (x ∷ ps) [] p m are is = absurd are
  one_more name (x ∷ ps) (y ∷ ms) p m are is =
      let e : name + suc (length ms) ≡ name + 1 + length ms = omega arith in
      (are.0, one_more (name + 1) ps ms p m are.1 (subst (λ n. IsMemberOf n p m) e is))

  pub as_many : (name : ℕ) (ps : List PassValue) (ms : List (Member M Stock Kind G)) → AreMembersOf name ps ms
      → length ms ≡ length ps
  as_many name [] [] are = refl
  as_many name [] (y ∷ ms) are = absurd are
  as_many name (x ∷ ps) [] are = absurd are
  as_many name (x ∷ ps) (y ∷ ms) are = ap suc (as_many (name + 1) ps ms are.1)

-- ---- The first two passes and the others

first_two : (hall : HallValue) (n : ℕ) → new_passes hall 1 (n + 2) ≡ new_pass hall.id 1 ∷ new_pass hall.id 2
    ∷ new_passes hall 3 n
first_two hall n = let e : n + 2 ≡ suc (suc n) = omega arith in ap (new_passes hall 1) e

pub count_new : (hall : HallValue) (start n : ℕ) → length (new_passes hall start n) ≡ n
count_new hall start zero = refl
count_new hall start (suc n) = ap suc (count_new hall (start + 1) n)

-- `x` was taken from the front of the list `passes`, and `left` is the rest.
pub record IsTaken (passes left : List PassValue) (x : PassValue) : Type 0 where
  pub value : x ≡ slice_index_or passes 0 x
  pub left_are : left ≡ remove passes 0

-- `all` are a hall's new passes: the root's is taken first, then the feeder's, and the rest goes to the workers.
module _ (hall : HallValue) (workers : ℕ) (all some rest : List PassValue)
    (new : all ≡ new_passes hall 1 (workers + 2)) where
  are_all : all ≡ new_pass hall.id 1 ∷ new_pass hall.id 2 ∷ new_passes hall 3 workers
  are_all = new ∙ first_two hall workers

  module _ (root : PassValue) (first : IsTaken all some root) where
    are_some : some ≡ new_pass hall.id 2 ∷ new_passes hall 3 workers
    are_some = first.left_are ∙ ap (λ xs. remove xs 0) are_all

    module _ (feeder : PassValue) (second : IsTaken some rest feeder) where
      are_rest : rest ≡ new_passes hall 3 workers
      are_rest = second.left_are ∙ ap (λ xs. remove xs 0) are_some

      -- The passes taken first and the rest, given to the workers, are dealt out (`AreDealt`).
      pub dealt : (p : Participants) → p.root ≡ root → p.feeder ≡ feeder → AreMembersOf 1 rest p.members.items
          → hall.passes ≡ workers + 2 → workers ≤ 64
          → AreDealt hall p × (length p.members.items ≡ workers)
      dealt p root_is feeder_is are passes few =
          let ms = p.members.items in
          let count : length ms ≡ workers = as_many 1 rest ms are ∙ ap length are_rest ∙ count_new hall 3 workers in (
            record {
              root = root_is ∙ first.value ∙ ap (λ xs. slice_index_or xs 0 root) are_all;
              feeder = feeder_is ∙ second.value ∙ ap (λ xs. slice_index_or xs 0 feeder) are_some;
              members = subst (λ ps. AreMembersOf 1 ps ms) (are_rest ∙ ap (new_passes hall 3) (sym count)) are;
              all = omega arith;
              few = omega arith;
            },
            count,
          )
